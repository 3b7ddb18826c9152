-- Sums of a function's values below n.
use mathlib.Core.Path.{◌≡◌, refl, sym, ap, ◌∙◌}
use mathlib.Core.Logic.{inl, inr}
use mathlib.Core.Bool.{Bool, true, false, ◌&&◌, ◌||◌}
use Prim.Native.Nat.{ℕ, zero, suc, ◌+◌, ◌*◌, ◌≤◌, ◌<◌}
use native.Mathlib.Nat.{zero-mul, suc-mul, add-mul, add-zero, add-suc}
use native.Mathlib.Decide.{dec_le}
use native.Mathlib.Omega.{arith}
use lib.Dec.{T, eqb, eqb→eq}
use Rattle.meaning.specs.Sets.{area, bit, pick, sum}
use Rattle.theory_lists.proofs.Sets.{area_grows}
use Rattle.theory_lists.proofs.Tests.{bit_no, bit-yes, choice}

pub sum_cong : (n : ℕ) (g g' : ℕ → ℕ) → ((q : ℕ) → q < n → g q ≡ g' q) → sum n g ≡ sum n g'
unfolding sum
sum_cong zero g g' e = refl
sum_cong (suc n) g g' e = omega (arith, e n (omega arith), sum_cong n g g' (λ q l. e q (omega arith)))

pub sum_add : (n : ℕ) (g g' : ℕ → ℕ) → sum n (λ (q : ℕ). g q + g' q) ≡ sum n g + sum n g'
unfolding sum
sum_add zero g g' = omega arith
sum_add (suc n) g g' = omega (arith, sum_add n g g')

pub sum-zero : (n : ℕ) → sum n (λ (q : ℕ). 0) ≡ 0
unfolding sum
sum-zero zero = refl
sum-zero (suc n) = omega (arith, sum-zero n)

pub sum_const : (n c : ℕ) → sum n (λ (q : ℕ). c) ≡ n * c
unfolding sum
sum_const zero c = omega (arith, zero-mul c)
sum_const (suc n) c = omega (arith, suc-mul n c, sum_const n c)

-- the order of two sums may be exchanged
pub sum_swap : (n m : ℕ) (g : ℕ → ℕ → ℕ) → sum n (λ (p : ℕ). sum m (g p)) ≡ sum m (λ (j : ℕ). sum n (λ (p : ℕ). g p j))
unfolding sum
sum_swap zero m g = sym (sum-zero m)
sum_swap (suc n) m g = ap (λ (x : ℕ). sum m (g n) + x) (sum_swap n m g) ∙ sym (sum_add m (g n) (λ (j : ℕ). sum n (λ (p : ℕ). g p j)))

-- steps from t 0 to t k, each a difference
pub sum-steps : (t d : ℕ → ℕ) (k : ℕ) → ((a : ℕ) → a < k → t a ≡ t (suc a) + d a) → t 0 ≡ t k + sum k d
unfolding sum
sum-steps t d zero e = omega arith
sum-steps t d (suc k) e = omega (arith, sum-steps t d k (λ a l. e a (omega arith)), e k (omega arith))

bits : (a b : Bool) (r m : ℕ) → pick (a && b) r 0 + pick b (m * r) 0 ≡ pick b ((bit a + m) * r) 0
bits true true r m = omega (arith, suc-mul m r, add-mul 1 m r)
bits true false r m = omega arith
bits false true r m = omega (arith, add-mul 0 m r, zero-mul r)
bits false false r m = omega arith

-- r for each member of s, if b: the area times r, if b
pub sum_members : (n : ℕ) (s : ℕ → Bool) (b : Bool) (r : ℕ) → sum n (λ (q : ℕ). pick (s q && b) r 0) ≡ pick b (area n s * r) 0
unfolding sum area
sum_members zero s true r = omega (arith, zero-mul r)
sum_members zero s false r = refl
sum_members (suc n) s b r = ap (λ (x : ℕ). pick (s n && b) r 0 + x) (sum_members n s b r) ∙ bits (s n) b r (area n s)

-- ---- areas as sums

pub area-sum : (n : ℕ) (s : ℕ → Bool) → area n s ≡ sum n (λ (q : ℕ). bit (s q))
unfolding area sum
area-sum zero s = refl
area-sum (suc n) s = omega (arith, area-sum n s)

pub area_cong : (n : ℕ) (s s' : ℕ → Bool) → ((q : ℕ) → q < n → s q ≡ s' q) → area n s ≡ area n s'
area_cong n s s' e =
    area-sum n s ∙ sum_cong n (λ (q : ℕ). bit (s q)) (λ (q : ℕ). bit (s' q)) (λ q l. ap bit (e q l)) ∙ sym (area-sum n s')

pub sum_bits : (n : ℕ) (b : Bool) (s : ℕ → Bool) → sum n (λ (q : ℕ). bit (b && s q)) ≡ pick b (area n s) 0
sum_bits n true s = sym (area-sum n s)
sum_bits n false s = sum-zero n

-- the area of two sets that have no member in common
pub area_or : (n : ℕ) (s s' : ℕ → Bool) → ((q : ℕ) → q < n → T (s q) → T (s' q) → ⊥) → area n (λ (q : ℕ). s q || s' q) ≡ area n s + area n s'
unfolding area
area_or zero s s' e = omega arith
area_or (suc n) s s' e = omega (arith, area_or n s s' (λ q l. e q (omega arith)), disjoint (s n) (s' n) (e n (omega arith)))
  where
    disjoint : (a b : Bool) → (T a → T b → ⊥) → bit (a || b) ≡ bit a + bit b
    disjoint true true e = absurd (e tt tt)
    disjoint true false e = omega arith
    disjoint false b e = omega arith

pub area-none : (n : ℕ) (s : ℕ → Bool) → ((q : ℕ) → q < n → T (s q) → ⊥) → area n s ≡ 0
unfolding area
area-none zero s e = refl
area-none (suc n) s e = omega (arith, area-none n s (λ q l. e q (omega arith)), bit_no (s n) (e n (omega arith)))

-- one number's set
pub area_single : (n x : ℕ) → area n (λ (q : ℕ). eqb x q) ≤ 1
unfolding area
area_single zero x = omega arith
area_single (suc n) x = elim (choice (eqb x n)) [
  | inl t ↦
      let e : x ≡ n = eqb→eq x n t in
      omega (arith, bit-yes (eqb x n) t, area-none n (λ (q : ℕ). eqb x q) (λ q l u. omega (arith, eqb→eq x q u)))
  | inr t ↦ omega (arith, bit_no (eqb x n) t, area_single n x)
]

-- two sets together are no larger than the two
pub area_or_le : (n : ℕ) (s s' : ℕ → Bool) → area n (λ (q : ℕ). s q || s' q) ≤ area n s + area n s'
unfolding area
area_or_le zero s s' = omega arith
area_or_le (suc n) s s' = omega (arith, area_or_le n s s', two (s n) (s' n))
  where
    two : (a b : Bool) → bit (a || b) ≤ bit a + bit b
    two true b = omega arith
    two false b = omega arith

-- a sum in two parts
pub sum-split : (k d : ℕ) (g : ℕ → ℕ) → sum (k + d) g ≡ sum k g + sum d (λ (j : ℕ). g (k + j))
unfolding sum
sum-split k zero g = rw (add-zero k) (omega arith)
sum-split k (suc d) g = rw (add-suc k d) (omega (arith, sum-split k d g))

-- an area in two parts
pub area-split : (k d : ℕ) (s : ℕ → Bool) → area (k + d) s ≡ area k s + area d (λ (i : ℕ). s (k + i))
unfolding area
area-split k zero s = rw (add-zero k) (omega arith)
area-split k (suc d) s = rw (add-suc k d) (omega (arith, area-split k d s))

-- the first value apart: sums from either end
pub sum_first : (n : ℕ) (g : ℕ → ℕ) → sum (suc n) g ≡ g 0 + sum n (λ (q : ℕ). g (suc q))
unfolding sum
sum_first zero g = omega arith
sum_first (suc n) g = omega (arith, sum_first n g)

-- a set with a member has an area
pub area_pos : (n : ℕ) (s : ℕ → Bool) (q : ℕ) → q < n → T (s q) → 0 < area n s
area_pos n s q l t = elim (area_grows n (λ (q : ℕ). false) s (λ q l t. absurd t)) [
  | inl h ↦ omega arith
  | inr w ↦ absurd (w q l t)
]

-- a sum that is not 0 has a term that is not 0
pub sum_pos : (n : ℕ) (g : ℕ → ℕ) → 1 ≤ sum n g → (q : ℕ) × (q < n) × (1 ≤ g q)
unfolding sum
sum_pos zero g h = absurd (omega arith)
sum_pos (suc n) g h = elim (dec_le 1 (g n)) [
  | yes a ↦ (n, omega arith, a)
  | no a ↦ let r = sum_pos n g (omega arith) in (r.0, omega arith, r.2)
]
