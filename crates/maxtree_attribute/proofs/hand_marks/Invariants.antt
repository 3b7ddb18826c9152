-- `maxtree_attribute::hand_marks` meets its contract. The invariant: the nodes from i on have handed their marks on.
use Prim.Native.Nat.{◌≤◌}
use Rattle.work_columns.specs.Columns.{Only}
use Rattle.work_columns.specs.Layout.{ATTRIBUTE, greys_in}
use Rattle.maxtree_attribute.specs.Attributes.{Raised}
use Rattle.maxtree_attribute.proofs.hand_marks.Given as goal

abbrev pub invariant-loop-i : goal.invariant-loop-i
invariant-loop-i l = record {
  begun : 1 ≤ l.i;
  only : Only ATTRIBUTE l.t.shape.pixels l.initial.w l.w;
  raised : Raised l.t.shape (greys_in l.t.shape.pixels l.initial.w) l.w l.t.count l.i;
}
