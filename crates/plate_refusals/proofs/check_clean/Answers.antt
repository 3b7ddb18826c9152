-- `plate_refusals::check_clean` meets its contract.
use Rattle.std.proofs.lemmas.Result.{err_from_is_err_and}
use Rattle.plate_refusals.proofs.Refusals.{clean_other}
use Rattle.plate_refusals.proofs.check_clean.Goals as goal

pub returns-in_err-check_filter-clause-number : goal.returns-in_err-check_filter-clause-number
returns-in_err-check_filter-clause-number c =
    let left = c.from_residual-in_err-check_filter in
    let p = err_from_is_err_and left.result left.ensures.1 in
    rw (p.1, p.2) (clean_other _ _ _ _ _ _ _ _ _ _ c.in_ok-chosen.chosen c.in_ok-chosen.ensures c.in_err-check_filter.ensures)

pub returns-clause-number : goal.returns-clause-number
returns-clause-number c = clean_other _ _ _ _ _ _ _ _ _ _ c.in_ok-chosen.chosen c.in_ok-chosen.ensures c.in_ok-check_filter.ensures
