-- `record_sizes::sum_held` meets its contract. The invariant: the sum is the grey held with the nodes from 1 to j - 1.
use Rattle.record_sizes.proofs.Holding.{Holding}
use Rattle.record_sizes.proofs.sum_held.Given as goal

abbrev pub invariant-loop-j : goal.invariant-loop-j
invariant-loop-j l = Holding l.t.shape l.w l.t.count l.sum l.j
