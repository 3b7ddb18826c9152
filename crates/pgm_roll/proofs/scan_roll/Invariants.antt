-- `pgm_roll::scan_roll` meets its contract. The invariant: the plates up to a place are known, and the roll goes on there.
use Prim.Native.Nat.{◌-◌}
use lib.ListN.{length}
use Rattle.pgm_roll.proofs.Scanning.{Scanning}
use Rattle.pgm_roll.proofs.scan_roll.Given as goal

abbrev pub invariant-loop-at : goal.invariant-loop-at
invariant-loop-at l = Scanning l.file l.number l.at l.count l.largest l.chosen

abbrev pub decreases-loop-at : goal.decreases-loop-at
decreases-loop-at l = length l.file - l.at
