-- `record_varint::value_at` meets its contract. The loop's invariant: v is the number that the groups from i on spell.
-- Assumes nothing.
use Rattle.std.proofs.Common.{◌-◌, ◌≤◌, ◌<◌, get_or, arith, rules}
use Rattle.record_varint.proofs.Position.{top_set, spelt_last, spelt_small, spelt_back}
use Rattle.record_varint.proofs.value_at.Goals as goal

pub loop-i-init : goal.loop-i-init
loop-i-init c = spelt_last _ _ _ c.requires.0 c.requires.1 _ c.from-v.ensures

pub overflow_mul-v : goal.overflow_mul-v
overflow_mul-v c =
    let h : c.loop-i.v < 268435456 = spelt_small _ _ _ c.requires.0 c.requires.1 _ _ c.requires.2 c.loop-i.invariant c.loop-i-test.true in
    search rules

pub overflow_sub-v : goal.overflow_sub-v
overflow_sub-v c =
    let h : 128 ≤ get_or c.args.s.now (c.loop-i.i - 1) 0 = top_set _ _ _ c.requires.0 c.requires.1 _ (omega arith) (omega arith) in
    search rules

pub overflow_add-v : goal.overflow_add-v
overflow_add-v c =
    let h : c.loop-i.v < 268435456 = spelt_small _ _ _ c.requires.0 c.requires.1 _ _ c.requires.2 c.loop-i.invariant c.loop-i-test.true in
    omega (arith, c.type_inv.s (c.loop-i.i - 1))

pub loop-i-preserved : goal.loop-i-preserved
loop-i-preserved c =
    spelt_back _ _ _ c.requires.0 c.requires.1 _ _ _ (λ k. omega (arith, c.type_inv.s k)) c.loop-i.invariant
    c.loop-i-test.true c.from.ensures
