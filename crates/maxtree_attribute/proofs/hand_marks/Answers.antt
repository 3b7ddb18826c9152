-- `maxtree_attribute::hand_marks` meets its contract. The invariant: the nodes from i on have handed their marks on.
use mathlib.Core.Path.{◌≡◌}
use Prim.Native.Nat.{◌-◌}
use native.Mathlib.Omega.{arith}
use Rattle.work_columns.specs.Layout.{ATTRIBUTE}
use Rattle.work_columns.proofs.Columns.{only-refl, only_trans}
use Rattle.maxtree_columns.proofs.Tree.{few_nodes, parent_earlier, some-nodes}
use Rattle.maxtree_attribute.proofs.Raising.{raised_done, raised_next}
use Rattle.maxtree_attribute.proofs.hand_marks.Goals as goal

pub loop-i-init : goal.loop-i-init
loop-i-init c = record {
  begun = some-nodes c.requires.tree;
  only = only-refl ATTRIBUTE c.args.t.shape.pixels c.args.w.now;
  raised = c.requires;
}

pub hand_mark-requires : goal.hand_mark-requires
hand_mark-requires c =
    let t = c.loop-i.invariant.raised.tree in
    let earlier = parent_earlier t (c.loop-i.i - 1) (omega arith) (omega arith) in
    (t.room, omega (arith, few_nodes t), omega (arith, few_nodes t, earlier))

pub loop-i-preserved : goal.loop-i-preserved
loop-i-preserved c =
    let a = c.loop-i.invariant in
    record {
      begun = omega arith;
      only = only_trans a.only c.hand_mark.ensures.only;
      raised = raised_next a.raised (omega arith) (omega arith) c.hand_mark.ensures;
    }

pub returns : goal.returns
returns c =
    let a = c.loop-i.invariant in
    let x : c.loop-i.i ≡ 1 = omega arith in
    record { only = a.only; attributed = raised_done (rw x at a.raised) }
