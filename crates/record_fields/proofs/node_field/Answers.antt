-- `record_fields::node_field` meets its contract: a parent comes earlier, at a lower level.
-- Assumes nothing.
use Rattle.std.proofs.Common.{arith}
use Rattle.maxtree_columns.proofs.Tree.{few_nodes, level_rises, parent_earlier}
use Rattle.record_fields.proofs.node_field.Goals as goal

pub overflow_sub-result : goal.overflow_sub-result
overflow_sub-result c =
    omega (arith, c.get-parent.ensures.0, parent_earlier c.requires.tree_stands c.args.i c.requires.i_nonzero.0 c.requires.i_nonzero.1.0)

pub get-requires-in-1-clause-c_bound : goal.get-requires-in-1-clause-c_bound
get-requires-in-1-clause-c_bound c =
    let t = c.requires.tree_stands in
    let b = parent_earlier t c.args.i c.requires.i_nonzero.0 c.requires.i_nonzero.1.0 in
    (omega arith, omega (arith, c.get-parent.ensures.0, few_nodes t))

pub overflow_sub-result-in-1 : goal.overflow_sub-result-in-1
overflow_sub-result-in-1 c =
    let e = c.get-parent.ensures.0 in
    rw (c.get-in-1.ensures.0, c.get.ensures.0, e)
    (omega (arith, level_rises c.requires.tree_stands c.args.i c.requires.i_nonzero.0 c.requires.i_nonzero.1.0))
