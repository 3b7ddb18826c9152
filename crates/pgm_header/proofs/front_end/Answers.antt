-- The first byte that does not pass.
use mathlib.Core.Path.{sym, ap, ◌∙◌}
use mathlib.Core.Bool.{not}
use native.Mathlib.Omega.{arith}
use borrow.Author.Tests.{not-true, not-false}
use Rattle.pgm_header.proofs.Front.{front_stop, front_more, front_end}
use Rattle.pgm_header.proofs.front_end.Goals as goal

pub returns-then-not-test-clause-counted : goal.returns-then-not-test-clause-counted
returns-then-not-test-clause-counted g c = λ p same.
    let e = sym (same _ _ c.test.ensures) ∙ not-true _ (ap not c.if-not-test.true) in
    omega (arith, c.loop-i.invariant.counted p same, front_stop p _ _ c.loop-i-test.true e)

pub loop-i-preserved : goal.loop-i-preserved
loop-i-preserved g c = record {
  from = let i = c.loop-i.invariant in omega arith;
  within = let below = c.loop-i-test.true in omega arith;
  counted = λ p same.
      let e = sym (same _ _ c.test.ensures) ∙ not-false _ (ap not c.if-not-test.false) in
      omega (arith, c.loop-i.invariant.counted p same, front_more p _ _ c.loop-i-test.true e);
}

pub returns-clause-counted : goal.returns-clause-counted
returns-clause-counted g c = λ p same. omega (arith, c.loop-i.invariant.counted p same, front_end p _ _ c.loop-i-test.false)
