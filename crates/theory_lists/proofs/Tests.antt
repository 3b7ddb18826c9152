-- Tests (Bools) as facts: and, or, choice; `search tests` and `omega orders`.
use mathlib.Core.Path.{◌≡◌, refl, subst}
use mathlib.Core.Logic.{◌⊎◌, inl, inr}
use mathlib.Core.Bool.{Bool, true, false, ◌&&◌, ◌||◌}
use Prim.Native.Nat.{ℕ, ◌≤◌}
use native.Mathlib.Omega.{arith}
use lib.Dec.{T, leb→le, le→leb}
use Rattle.meaning.specs.Sets.{bit, pick}

-- a test that is `true` passes
pub passes : {b : Bool} → b ≡ true → T b
passes e = rw e tt

-- both of two tests are `true`; neither is
pub both_true : (a b : Bool) → (a && b) ≡ true → (a ≡ true) × (b ≡ true)
both_true true b e = (refl, e)
both_true false b e = absurd (passes e)

pub neither : (a b : Bool) → (a || b) ≡ false → (a ≡ false) × (b ≡ false)
neither true b e = let f : true ≡ false = e in absurd (subst T f tt)
neither false b e = (refl, e)

pub both : (a b : Bool) → T a → T b → T (a && b)
both true true s t = tt
both true false s t = t
both false b s t = s

pub both_left : (a b : Bool) → T (a && b) → T a
both_left true b t = tt
both_left false b t = t

pub both_right : (a b : Bool) → T (a && b) → T b
both_right true b t = t
both_right false b t = absurd t

pub either_left : (a b : Bool) → T a → T (a || b)
either_left true b t = tt
either_left false b t = absurd t

pub either_right : (a b : Bool) → T b → T (a || b)
either_right true b t = tt
either_right false b t = t

pub either_cases : (a b : Bool) → T (a || b) → T a ⊎ T b
either_cases true b t = inl tt
either_cases false b t = inr t

-- for `search tests`: a test from the tests that it is made of, and these from it
pub ruleset tests = (both, both_left, both_right, either_left, either_right)

-- for `omega orders`: `arith`, and the tests `leb` read as orders
pub ruleset orders = (arith, leb→le, le→leb)

pub choice : (a : Bool) → T a ⊎ (T a → ⊥)
choice true = inl tt
choice false = inr (λ t. t)

-- two tests that pass alike are equal
pub same_test : (a b : Bool) → (T a → T b) → (T b → T a) → a ≡ b
same_test true true f g = refl
same_test true false f g = absurd (f tt)
same_test false true f g = absurd (g tt)
same_test false false f g = refl

-- ---- choices

pub pick_yes : (b : Bool) (x y : ℕ) → T b → pick b x y ≡ x
pick_yes true x y t = refl
pick_yes false x y t = absurd t

pub pick_no : (b : Bool) (x y : ℕ) → (T b → ⊥) → pick b x y ≡ y
pick_no true x y f = absurd (f tt)
pick_no false x y f = refl

pub bit-yes : (b : Bool) → T b → bit b ≡ 1
bit-yes true t = refl
bit-yes false t = absurd t

pub bit_no : (b : Bool) → (T b → ⊥) → bit b ≡ 0
bit_no true f = absurd (f tt)
bit_no false f = refl

pub bit-true : (b : Bool) → 1 ≤ bit b → T b
bit-true true h = tt
bit-true false h = absurd (omega arith)

pub bit-and-true : (b : Bool) → bit (b && true) ≡ bit b
bit-and-true true = refl
bit-and-true false = refl

pub bit-and-false : (b : Bool) → bit (b && false) ≡ 0
bit-and-false true = refl
bit-and-false false = refl

pub pick_le : (b : Bool) (x m : ℕ) → (T b → x ≤ m) → pick b x 0 ≤ m
pick_le true x m f = f tt
pick_le false x m f = omega arith
