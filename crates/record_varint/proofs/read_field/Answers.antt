-- `record_varint::read_field` meets its contract: at each return the tests that led there say which case of `field_at` holds.
-- Assumes nothing.
use Rattle.std.proofs.Common.{◌≡◌, ◌∙◌, ◌<◌, get_or, arith}
use Rattle.record_varint.proofs.Position.{Formed, read_unended, read_many, read_zero_last, read_large, read_formed, read_outside, read_accepted}
use Rattle.record_varint.proofs.read_field.Goals as goal
use Rattle.record_varint.proofs.read_field.Goals.{In-Ok, else-at-end-via-then-at-end+else-s-end-eq0, else-at-end-via-else-at-end}

-- the bytes are a form
formed : (c : In-Ok) → Formed c.args.s.now c.args.at c.in-Some.end c.in-Ok.x
formed c =
    let nonzero : c.args.at < c.in-Some.end → get_or c.args.s.now c.in-Some.end 0 ≡ 0 → ⊥ =
    elim c.else-at-end.branch [
      | else-at-end-via-then-at-end+else-s-end-eq0 w ↦ λ h e. omega arith
      | else-at-end-via-else-at-end w ↦ λ h e. omega arith
    ] in
    let h = c.in-Ok.ensures in
    read_formed _ _ _ c.in-Some.ensures.0 c.in-Some.ensures.1 _ (h.1 ∙ c.value_at-v.ensures) (λ k. omega (arith, c.type_inv.s k)) nonzero (omega arith)

pub returns-in_default : goal.returns-in_default
returns-in_default c = read_unended _ _ _ _ c.in_default.ensures

pub returns-then-end-at-gt4 : goal.returns-then-end-at-gt4
returns-then-end-at-gt4 c = read_many _ _ _ c.in-Some.ensures.0 c.in-Some.ensures.1 _ _ c.if-end-at-gt4.true

pub returns-then-s-end-eq0 : goal.returns-then-s-end-eq0
returns-then-s-end-eq0 c = read_zero_last _ _ _ c.in-Some.ensures.0 c.in-Some.ensures.1 _ _ c.if-at-end.true c.if-s-end-eq0.true

pub returns-in_default-try_from : goal.returns-in_default-try_from
returns-in_default-try_from c =
    let h = c.in_default-try_from.ensures in
    read_large _ _ _ c.in-Some.ensures.0 c.in-Some.ensures.1 _ _ _ c.value_at-v.ensures (omega (arith, h))

pub returns-then-x-lo : goal.returns-then-x-lo
returns-then-x-lo c = read_outside _ _ _ _ _ _ (formed (goal.at.returns-then-x-lo c).In-Ok) c.then-x-lo.either

pub returns : goal.returns
returns c = read_accepted _ _ _ _ _ _ (formed (goal.at.returns c).In-Ok) c.if-x-lo.false c.if-hi-x.false
