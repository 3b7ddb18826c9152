-- `plate_greys::load` meets its contract. The invariant: the first p greys are copied in.
use Rattle.plate_greys.proofs.Sides.{Loading}
use Rattle.plate_greys.proofs.load.Given as goal

abbrev pub invariant-loop-p : goal.invariant-loop-p
invariant-loop-p l = Loading l.negated l.greatest l.image l.initial.work l.work l.p
