-- `seeded_plates::wrapping_mul` meets its contract: the product of two numbers of 32 bits has 64.
use Rattle.std.proofs.Common.{ℕ, mul-le-mul, arith}
use Rattle.seeded_plates.proofs.wrapping_mul.Goals as goal

pub overflow_mul-result : goal.overflow_mul-result
overflow_mul-result c =
    let most : ℕ = 4294967295 in
    let a = c.args.a in
    let b = c.args.b in
    omega (arith, mul-le-mul {n₁ = a} {m₁ = b} {n₂ = most} {m₂ = most} (omega (arith, c.ranges.a.fits)) (omega (arith, c.ranges.b.fits)))
