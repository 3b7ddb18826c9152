-- `maxtree_values::cut_values` meets its contract. The invariant: the first i nodes have their values in the cut.
use Rattle.work_columns.specs.Layout.{greys_in}
use Rattle.maxtree_values.proofs.Cuts.{Cutting}
use Rattle.maxtree_values.proofs.cut_values.Given as goal

abbrev pub invariant-loop-i : goal.invariant-loop-i
invariant-loop-i l = Cutting l.fn.t.shape (greys_in l.n l.initial.w) l.fn.t.count l.limit l.initial.w l.w l.i
