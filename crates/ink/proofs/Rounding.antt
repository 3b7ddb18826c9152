-- Rounding to the nearest whole number, halves up, over any divisor (rounded-halves). Then the ink percentage: what is known where nothing is refused
-- (ink-none), and what is promised where something is (ink-refused) and where nothing is (ink-answered).
use mathlib.Core.Path.{◌≡◌, sym, ◌∙◌}
use mathlib.Core.Bool.{not}
use Prim.Native.Nat.{ℕ, ◌+◌, ◌-◌, ◌*◌, ◌/◌, ◌≤◌, ◌<◌}
use native.Mathlib.Nat.{div-mul-le_self, lt-div-mul-add, mul_comm}
use native.Mathlib.Omega.{arith}
use borrow.Author.Tests.{ltb-false, ne_eqb, not-false}
use lib.Dec.{ltb}
use Rattle.std.specs.Result.{IsErrAnd}
use Rattle.std.proofs.Common.{Result}
use Rattle.std.proofs.lemmas.Result.{err_from_is_err_and}
use Rattle.refusals.specs.Numbers.{number_of}
use Rattle.refusals.specs.declared.Refusal.{Refusal}
use Rattle.refusals.proofs.Numbers.{number_nonzero}
use Rattle.meaning.specs.Plate.{greatest_fits, max_greatest}
use Rattle.meaning.specs.Ink.{Nearest, rounded, ink_of}
use Rattle.meaning.specs.Answers.{refuse, ink_refusal}
use Rattle.theory_connectivity.proofs.Sizes.{greatest_range}
use Rattle.plate_refusals.proofs.Refusals.{refuse-none}
use Rattle.ink.specs.Percentage.{Percentage, ink_answer}

-- r is a / d rounded: r − 1/2 ≤ a / d < r + 1/2, taken 2 × d times over
rounded_halves : (a d : ℕ) → 0 < d → (2 * (d * rounded a d) ≤ 2 * a + d) × (2 * a < 2 * (d * rounded a d) + d)
unfolding rounded
rounded_halves a d pos =
    let below : (a + d / 2) / d * d ≤ a + d / 2 = div-mul-le_self (a + d / 2) d in
    let above : a + d / 2 < (a + d / 2) / d * d + d = lt-div-mul-add pos in
    let turn : d * ((a + d / 2) / d) ≡ (a + d / 2) / d * d = mul_comm d ((a + d / 2) / d) in
    (omega arith, omega arith)

-- where the greatest grey is above 0 the formula gives the nearest whole number
ink_near : (M g : ℕ) → 0 < M → Nearest M g (ink_of M g)
unfolding ink_of
ink_near M g pos = rounded_halves ((M - g) * 100) M pos

module _ (M g : ℕ) where
  -- what is not refused
  pub ink_none : 0 ≡ ink_refusal M g → (0 < M) × (M ≤ max_greatest) × (g ≤ M)
  unfolding ink_refusal
  ink_none is =
      let (range, e) = refuse-none (not (greatest_fits M)) 29 (refuse (ltb M g) 28 0) (omega arith) (sym is) in
      let fits = greatest_range M (not-false (greatest_fits M) range) in
      (fits.least, fits.most, ltb-false M g (refuse-none (ltb M g) 28 0 (omega arith) e).0)

  pub ink_refused : (r : Result ℕ Refusal) (e : Refusal) → IsErrAnd r (λ y. y ≡ e) → number_of e ≡ ink_refusal M g → Percentage M g (ink_answer r)
  ink_refused r e l is =
      let y = err_from_is_err_and r l in
      let ne = number_nonzero e in
      rw (y.1, y.2) (record { number = is; value = rw (← is, ne_eqb (number_of e) 0 ne); nearest = λ z. absurd (ne (is ∙ z)) })

  pub ink_answered : {p : ℕ} → 0 ≡ ink_refusal M g → p ≡ ink_of M g → Percentage M g (record { refusal = 0; percentage = p })
  ink_answered is e = record {
    number = is;
    value = e ∙ rw (← is);
    nearest = λ _. rw e (ink_near M g (ink_none is).0);
  }
