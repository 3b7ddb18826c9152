-- `record::write_record` meets its contract.
use mathlib.Core.Path.{refl}
use lib.ListN.{length}
use Rattle.std.proofs.lemmas.Result.{err_from_is_err_and}
use Rattle.maxtree_columns.proofs.Tree.{tree_here}
use Rattle.plate_refusals.proofs.Refusals.{tree_none}
use Rattle.record.proofs.Wrote.{wrote, wrote_ready, wrote_refused}
use Rattle.record.proofs.write_record.Goals as goal

pub returns-in_err-check_tree : goal.returns-in_err-check_tree
returns-in_err-check_tree c =
    let s = c.args in
    let p = err_from_is_err_and c.from_residual.result c.from_residual.ensures.1 in
    rw (p.1, p.2) (wrote_refused _ _ _ _ s.image.now s.out.now s.work.now c.in_err-check_tree.field-0.0 c.in_err-check_tree.ensures)

pub plate_tree-tree-requires : goal.plate_tree-tree-requires
plate_tree-tree-requires c =
    let s = c.args in
    wrote_ready s.image.now s.work.now (tree_none _ _ _ _ s.image.now (length s.work.now) c.in_ok-check_tree.ensures refl) c.shape.ensures

pub write_tree-written-requires : goal.write_tree-written-requires
write_tree-written-requires c = rw c.plate_tree-tree.ensures.shape (tree_here c.plate_tree-tree.ensures.tree.tree)

pub returns : goal.returns
returns c =
    let s = c.args in
    wrote s.image.now s.work.now (tree_none _ _ _ _ s.image.now (length s.work.now) c.in_ok-check_tree.ensures refl)
    c.shape.ensures c.plate_tree-tree.ensures.tree c.clear.ensures c.write_tree-written.result
    (rw c.plate_tree-tree.ensures.shape at c.write_tree-written.ensures)
