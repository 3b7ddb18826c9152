-- `ink::ink_percentage` meets its contract.
use Rattle.ink.proofs.Rounding.{ink_none, ink_refused, ink_answered}
use Rattle.ink.proofs.ink_percentage.Goals as goal

pub returns-in_err-check_ink : goal.returns-in_err-check_ink
returns-in_err-check_ink c =
    ink_refused c.args.greatest c.args.grey _ _ c.from_residual.ensures.1 (rw c.from-grey.ensures at c.in_err-check_ink.ensures)

pub ink_of-requires : goal.ink_of-requires
ink_of-requires c = ink_none _ _ c.in_ok-check_ink.ensures

pub returns : goal.returns
returns c =
    ink_answered c.args.greatest c.args.grey (rw c.from-grey.ensures at c.in_ok-check_ink.ensures) (rw c.from-grey.ensures at c.ink_of.ensures)
