-- `record_sizes::sum_held` meets its contract. The loop's invariant: the grey held with the nodes ahead of node j is summed.
-- Assumes nothing.
use Rattle.std.proofs.Common.{arith}
use Rattle.maxtree_columns.proofs.Tree.{few_nodes}
use Rattle.record_sizes.proofs.Holding.{holding_done, holding_first, holding_low, holding_more}
use Rattle.record_sizes.proofs.sum_held.Goals as goal

pub loop-j-init : goal.loop-j-init
loop-j-init c = holding_first c.requires

pub overflow_add-sum : goal.overflow_add-sum
overflow_add-sum c =
    omega (
      arith,
      holding_low c.requires c.loop-j.invariant,
      c.held_with-sum.ensures.1,
      c.loop-j-test.true,
      few_nodes c.requires.tree,
      c.requires.tree.room.small,
    )

pub loop-j-preserved : goal.loop-j-preserved
loop-j-preserved c = holding_more c.requires c.loop-j.invariant c.loop-j-test.true c.held_with-sum.ensures.0

pub returns : goal.returns
returns c = holding_done c.requires c.loop-j.invariant c.loop-j-test.false
