-- `record_varint::same_field` meets its contract. The loop's invariant: what is left to be compared decides.
-- Assumes nothing.
use Rattle.std.proofs.Common.{◌∙◌, sym}
use Rattle.record_varint.proofs.Comparing.{compared-more, compared_past, compared_differs, compared_same, compared_last_past, compared_last_differs}
use Rattle.record_varint.proofs.same_field.Goals as goal

pub returns-in_err-get : goal.returns-in_err-get
returns-in_err-get c =
    rw c.from_residual.ensures (compared_past _ _ _ _ _ c.loop-x.invariant c.loop-x-test.true c.in_err-get.ensures.lookup.3)

pub returns-then-branch-x : goal.returns-then-branch-x
returns-then-branch-x c =
    let byte = c.in_ok-get.ensures.lookup.3 in
    compared_differs _ _ _ _ _ c.loop-x.invariant c.loop-x-test.true (λ e. c.if-branch-x.true (byte.1 0 ∙ e))

pub loop-x-preserved : goal.loop-x-preserved
loop-x-preserved c =
    let byte = c.in_ok-get.ensures.lookup.3 in
    compared-more _ _ _ _ _ c.loop-x.invariant c.loop-x-test.true byte.0 (sym (byte.1 0) ∙ c.if-branch-x.false)

pub returns-in_err-get-2 : goal.returns-in_err-get-2
returns-in_err-get-2 c =
    rw c.from_residual-in_err-get-2.ensures (compared_last_past _ _ _ _ _ c.loop-x.invariant c.loop-x-test.false c.in_err-get-2.ensures.lookup.3)

pub returns-then-branch-x-2 : goal.returns-then-branch-x-2
returns-then-branch-x-2 c =
    let byte = c.in_ok-get-2.ensures.lookup.3 in
    compared_last_differs _ _ _ _ _ c.loop-x.invariant c.loop-x-test.false (λ e. c.if-branch-x-2.true (byte.1 0 ∙ e))

pub returns : goal.returns
returns c =
    let byte = c.in_ok-get-2.ensures.lookup.3 in
    compared_same _ _ _ _ _ c.loop-x.invariant c.loop-x-test.false byte.0 (sym (byte.1 0) ∙ c.if-branch-x-2.false)
