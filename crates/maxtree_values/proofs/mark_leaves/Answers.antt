-- `maxtree_values::mark_leaves` meets its contract. The invariant: a node has the value 0 where a node below i has it as its parent, else 1.
use native.Mathlib.Omega.{arith}
use Rattle.work_columns.proofs.Columns.{only_store}
use Rattle.maxtree_columns.proofs.Tree.{few_nodes, parent_earlier, some-nodes, tree_here, tree_valued}
use Rattle.maxtree_values.proofs.Leaves.{marking_done, marking_first, marking_more}
use Rattle.maxtree_values.proofs.mark_leaves.Goals as goal

pub loop-i-init : goal.loop-i-init
loop-i-init c =
    record { stands = tree_here (tree_valued c.requires c.set_ones.ensures.only); marking = marking_first c.set_ones.ensures.values }

pub get-parent-requires-clause-c_bound : goal.get-parent-requires-clause-c_bound
get-parent-requires-clause-c_bound c = (omega arith, omega (arith, few_nodes c.loop-i.invariant.stands))

pub put-requires-clause-c_bound : goal.put-requires-clause-c_bound
put-requires-clause-c_bound c =
    let t = c.loop-i.invariant.stands in
    let b = parent_earlier t c.loop-i.i (omega arith) c.loop-i-test.true in
    (omega arith, (omega (arith, c.get-parent.ensures.0, few_nodes t, b), omega arith))

pub loop-i-preserved : goal.loop-i-preserved
loop-i-preserved c =
    let a = c.loop-i.invariant in
    record {
      stands = tree_here (tree_valued a.stands (only_store c.put.ensures));
      marking = marking_more (few_nodes a.stands) a.marking c.get-parent.ensures.0 c.put.ensures;
    }

pub returns : goal.returns
returns c =
    marking_done c.requires c.set_ones.ensures c.loop-i.invariant.marking c.loop-i-test.false (omega (arith, some-nodes c.requires))
