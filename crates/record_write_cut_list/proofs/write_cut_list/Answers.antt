-- `record_write_cut_list::write_cut_list` meets its contract.
use mathlib.Core.Path.{refl, sym}
use lib.Seq.{length-take-le}
use Rattle.std.proofs.lemmas.Result.{err_from_is_err_and}
use Rattle.refusals.proofs.Numbers.{number_nonzero}
use Rattle.record_write_cut_list.proofs.Outcomes.{cut_taken, listed_done, listed_refused, listed_short, read_ok, sizes_ok, sizes_taken, written_within}
use Rattle.record_write_cut_list.proofs.write_cut_list.Goals as goal

pub returns-in_err-check_early : goal.returns-in_err-check_early
returns-in_err-check_early c =
    let p = err_from_is_err_and c.from_residual.result c.from_residual.ensures.1 in
    rw (p.1, p.2)
    (listed_refused _ _ _ _ _ _ _ _ _ _ _ c.in_err-check_early.ensures (number_nonzero c.in_err-check_early.field-0.0))

pub returns-in_err-length : goal.returns-in_err-length
returns-in_err-length c =
    let left = c.from_residual-in_err-length in
    let p = err_from_is_err_and left.result left.ensures.1 in
    rw (p.1, p.2)
    (listed_short _ _ _ _ _ _ _ _ _ _ _ c.in_ok-check_early.ensures refl c.in_err-length.ensures (number_nonzero c.in_err-length.field-0.0))

pub slice_bounds-written-end : goal.slice_bounds-written-end
slice_bounds-written-end c = written_within c.in_ok-length.ensures

pub slice_bounds-written-end-2 : goal.slice_bounds-written-end-2
slice_bounds-written-end-2 c = sym (length-take-le _ _ (written_within c.in_ok-length.ensures))

pub unwrap-requires : goal.unwrap-requires
unwrap-requires c =
    read_ok c.cut_record.result (cut_taken _ _ _ _ _ _ _ _ _ _ _ c.in_ok-check_early.ensures refl c.in_ok-length.ensures refl c.cut_record.ensures)

pub unwrap-sizes-requires : goal.unwrap-sizes-requires
unwrap-sizes-requires c =
    sizes_ok c.size_list.result
    (sizes_taken _ _ _ _ _ _ _ _ _ _ _ c.in_ok-check_early.ensures refl c.in_ok-length.ensures refl c.cut_record.ensures c.size_list.ensures)

pub returns : goal.returns
returns c =
    listed_done _ _ _ _ _ _ _ _ _ _ _ c.in_ok-check_early.ensures refl c.in_ok-length.ensures refl c.cut_record.ensures
    (rw c.unwrap-sizes.ensures at c.size_list.ensures)
