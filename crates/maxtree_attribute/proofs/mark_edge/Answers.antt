-- `maxtree_attribute::mark_edge` meets its contract.
use native.Mathlib.Omega.{arith}
use Rattle.work_columns.proofs.Columns.{only_trans}
use Rattle.maxtree_attribute.proofs.Edge.{edge_marked, first-column, first-row, last_column, last_row, row_fits, wide}
use Rattle.maxtree_attribute.proofs.Marks.{line_kept}
use Rattle.maxtree_attribute.proofs.mark_edge.Goals as goal

pub mark_line-requires : goal.mark_line-requires
mark_line-requires c = first-row c.requires

pub overflow_sub-g : goal.overflow_sub-g
overflow_sub-g c = omega (arith, row_fits c.requires)

pub mark_line-requires-2 : goal.mark_line-requires-2
mark_line-requires-2 c = line_kept (last_row c.requires) c.mark_line.ensures.only

pub mark_line-requires-3 : goal.mark_line-requires-3
mark_line-requires-3 c = line_kept (first-column c.requires) (only_trans c.mark_line.ensures.only c.mark_line-2.ensures.only)

pub overflow_sub-g-2 : goal.overflow_sub-g-2
overflow_sub-g-2 c = omega (arith, wide c.requires)

pub mark_line-requires-4 : goal.mark_line-requires-4
mark_line-requires-4 c =
    line_kept (last_column c.requires)
    (only_trans (only_trans c.mark_line.ensures.only c.mark_line-2.ensures.only) c.mark_line-3.ensures.only)

pub returns : goal.returns
returns c = edge_marked c.requires c.mark_line.ensures c.mark_line-2.ensures c.mark_line-3.ensures c.mark_line-4.ensures
