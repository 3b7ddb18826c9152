-- `record_tree::find_tree` meets its contract.
use Rattle.std.proofs.lemmas.Result.{err_from_is_err_and}
use Rattle.record_tree.proofs.Finding.{found_other, found_tree, found_unread, head_buildable}
use Rattle.maxtree_columns.proofs.Tree.{tree_here}
use Rattle.record_tree.proofs.find_tree.Goals as goal

pub returns-in_err-new : goal.returns-in_err-new
returns-in_err-new c =
    let p = err_from_is_err_and c.from_residual.result c.from_residual.ensures.1 in
    rw (p.1, p.2) (found_unread c.args.bytes.now c.args.work.now c.parse_record.new.work c.in_err-new.field-0.0 c.in_err-new.ensures)

pub build_tree-count-requires : goal.build_tree-count-requires
build_tree-count-requires c = head_buildable _ _ _ c.in_ok-new.field-0 c.in_ok-new.ensures c.shape-shape.ensures

pub same-requires : goal.same-requires
same-requires c = tree_here c.build_tree-count.ensures.tree

pub returns-then-not-same : goal.returns-then-not-same
returns-then-not-same c =
    found_other _ _ _ c.in_ok-new.field-0 c.in_ok-new.ensures c.shape-shape.ensures c.build_tree-count.ensures c.same.ensures c.if-not-same.true

pub returns : goal.returns
returns c =
    found_tree _ _ _ c.in_ok-new.field-0 c.in_ok-new.ensures c.shape-shape.ensures c.build_tree-count.ensures c.same.ensures c.if-not-same.false
