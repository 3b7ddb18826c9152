-- `text_roll::put_plates` meets its contract. The invariant: the texts of some plates are put, and those that are left begin at a place.
use Prim.Native.Nat.{◌-◌}
use lib.ListN.{length}
use Rattle.text_roll.proofs.Texts.{Putting}
use Rattle.text_roll.proofs.put_plates.Given as goal

abbrev pub invariant-loop-at : goal.invariant-loop-at
invariant-loop-at l = Putting l.file l.initial.text l.at l.text

abbrev pub decreases-loop-at : goal.decreases-loop-at
decreases-loop-at l = length l.file - l.at
