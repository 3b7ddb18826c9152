-- `plate_tree::start_list` meets its contract.
use Rattle.std.proofs.Common.{arith}
use Rattle.std.proofs.lemmas.Result.{err_from_is_err_and}
use Rattle.plate_tree.proofs.Starting.{started_count, started_done, started_ready, started_refused, started_short}
use Rattle.plate_tree.proofs.start_list.Goals as goal

pub returns-in_err-check_tree : goal.returns-in_err-check_tree
returns-in_err-check_tree c =
    let s = c.args in
    let p = err_from_is_err_and c.from_residual.result c.from_residual.ensures.1 in
    rw (p.1, p.2) (started_refused s.plate s.image.now s.work.now s.places _ c.in_err-check_tree.ensures)

pub plate_tree-count-requires : goal.plate_tree-count-requires
plate_tree-count-requires c =
    let s = c.args in started_ready s.plate s.image.now s.work.now s.places c.in_ok-check_tree.ensures c.shape.ensures

pub returns-in-Err : goal.returns-in-Err
returns-in-Err c =
    let s = c.args in
    started_short s.plate s.image.now s.work.now s.places c.in_ok-check_tree.ensures c.shape.ensures c.plate_tree-count.ensures.tree
    c.in-Err.refusal c.in-Err.ensures c.clear.ensures

pub overflow_cast-result : goal.overflow_cast-result
overflow_cast-result c =
    let s = c.args in
    omega (
      arith,
      started_count s.plate s.image.now s.work.now s.places c.in_ok-check_tree.ensures c.shape.ensures c.plate_tree-count.ensures.tree,
    )

pub returns : goal.returns
returns c =
    let s = c.args in
    started_done s.plate s.image.now s.work.now s.places c.in_ok-check_tree.ensures c.shape.ensures c.plate_tree-count.ensures.tree c.in_default.ensures
