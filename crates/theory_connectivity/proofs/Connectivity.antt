-- The kinds of connectivity: 4, 6 and 8.
use mathlib.Core.Path.{◌≡◌}
use mathlib.Core.Logic.{◌⊎◌, inl, inr}
use mathlib.Core.Bool.{true, ◌||◌}
use Prim.Native.Nat.{ℕ, ◌≤◌}
use native.Mathlib.Omega.{arith}
use lib.Dec.{eqb, eqb→eq}
use Rattle.meaning.specs.Plate.{connectivity_fits}
use Rattle.theory_lists.proofs.Tests.{either_cases, passes}

pub kinds : (k : ℕ) → connectivity_fits k ≡ true → (k ≡ 4) ⊎ ((k ≡ 6) ⊎ (k ≡ 8))
unfolding connectivity_fits
kinds k e = elim (either_cases (eqb k 4) (eqb k 6 || eqb k 8) (passes e)) [
  | inl a ↦ inl (eqb→eq k 4 a)
  | inr o ↦ elim (either_cases (eqb k 6) (eqb k 8) o) [
    | inl b ↦ inr (inl (eqb→eq k 6 b))
    | inr c ↦ inr (inr (eqb→eq k 8 c))
  ]
]

pub kind_most : (k : ℕ) → connectivity_fits k ≡ true → k ≤ 8
kind_most k e = elim (kinds k e) [
  | inl a ↦ omega arith
  | inr o ↦ elim o [
    | inl b ↦ omega arith
    | inr c ↦ omega arith
  ]
]

-- what is neither 8 nor 6 is 4
pub four_kind : (k : ℕ) → connectivity_fits k ≡ true → (k ≡ 8 → ⊥) → (k ≡ 6 → ⊥) → k ≡ 4
four_kind k e not_eight not-six = elim (kinds k e) [
  | inl a ↦ a
  | inr o ↦ elim o [
    | inl b ↦ absurd (not-six b)
    | inr c ↦ absurd (not_eight c)
  ]
]
