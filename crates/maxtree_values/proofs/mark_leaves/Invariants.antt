-- `maxtree_values::mark_leaves` meets its contract. The invariant: a node has the value 0 where a node below i has it as its parent, else 1.
use Rattle.maxtree_columns.specs.Tree.{TreeStands}
use Rattle.maxtree_values.proofs.Leaves.{Marking}
use Rattle.maxtree_values.proofs.mark_leaves.Given as goal

abbrev pub invariant-loop-i : goal.invariant-loop-i
invariant-loop-i l = record {
  stands : TreeStands l.fn.t.shape l.w l.fn.t.count;
  marking : Marking l.n l.fn.t.count l.initial.w l.w l.i;
}
