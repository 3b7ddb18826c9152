-- Laws of the bits of a number: adding and subtracting 2 ^ j; the highest bit that is 1.
use mathlib.Core.Path.{◌≡◌, refl, sym, ap, ◌∙◌}
use Prim.Native.Nat.{ℕ, zero, suc, ◌+◌, ◌-◌, ◌*◌, ◌/◌, ◌%◌, ◌^◌, ◌≤◌, ◌<◌}
use native.Mathlib.Nat.{div-one, pow-suc}
use native.Mathlib.Decide.{dec_le}
use native.Mathlib.Numerals.{one-add}
use native.Mathlib.Omega.{arith}
use lib.Pow.{shr-shr, pow-lt, pow_mono}
use Rattle.flood_open_levels.specs.Levels.{bit_at}
use Rattle.flood_open_levels.specs.Words.{Highest}

-- the lowest bit; each other is a bit of the half
bit-zero : (x : ℕ) → bit_at x 0 ≡ x % 2
unfolding bit_at
bit-zero x = ap (λ (y : ℕ). y % 2) (div-one x)

bit-suc : (x j : ℕ) → bit_at x (suc j) ≡ bit_at (x / 2) j
unfolding bit_at
bit-suc x j = ap (λ (k : ℕ). x / 2 ^ k % 2) (sym (one-add j)) ∙ ap (λ (y : ℕ). y % 2) (sym (shr-shr x 1 j))

pub zero_bit : (j : ℕ) → bit_at 0 j ≡ 0
zero_bit zero = bit-zero 0
zero_bit (suc j) = bit-suc 0 j ∙ zero_bit j

-- a number is at least the power of each of its bits that is 1
pub bit_at_least : (j x : ℕ) → bit_at x j ≡ 1 → 2 ^ j ≤ x
bit_at_least zero x e = omega (arith, bit-zero x)
bit_at_least (suc j) x e = omega (arith, pow-suc 2 j, bit_at_least j (x / 2) (sym (bit-suc x j) ∙ e))

-- the bit j of a number from 2 ^ j to 2 ^ (j + 1) - 1
leading_one : (j x : ℕ) → 2 ^ j ≤ x → x < 2 ^ suc j → bit_at x j ≡ 1
leading_one zero x l u = omega (arith, bit-zero x)
leading_one (suc j) x l u = bit-suc x j ∙ leading_one j (x / 2) (omega (arith, pow-suc 2 j)) (omega (arith, pow-suc 2 j, pow-suc 2 (suc j)))

-- `1 << j` in 64 bits
pub shifted : (j : ℕ) → j < 64 → (1 * 2 ^ j) % 2 ^ 64 ≡ 2 ^ j
shifted j l = omega (arith, pow-lt {i = j} {j = 64} l)

-- the greatest member of word a of a layer, x, by its highest bit that is 1
pub highest : (a x k : ℕ) → 2 ^ k ≤ x → x < 2 * 2 ^ k → k < 64 → Highest x a (64 * a + k)
highest a x k l u b =
    let e : (64 * a + k) % 64 ≡ k = omega arith in
    record {
      word = omega arith;
      here = ap (bit_at x) e ∙ leading_one k x l (omega (arith, pow-suc 2 k));
      most = λ j d. elim (dec_le j k) [
        | yes h ↦ omega arith
        | no h ↦ omega (arith, bit_at_least j x d, pow_mono {i = suc k} {j = j} (omega arith), pow-suc 2 k)
      ];
    }

-- ---- 2 ^ j is added where bit j is 0

half_more : (j x : ℕ) → (x + 2 ^ suc j) / 2 ≡ x / 2 + 2 ^ j
half_more j x = omega (arith, pow-suc 2 j)

pub added : (j x : ℕ) → bit_at x j ≡ 0 → bit_at (x + 2 ^ j) j ≡ 1
added zero x e = omega (arith, bit-zero x, bit-zero (x + 1))
added (suc j) x e =
    bit-suc (x + 2 ^ suc j) j ∙ ap (λ (y : ℕ). bit_at y j) (half_more j x) ∙ added j (x / 2) (sym (bit-suc x j) ∙ e)

pub added_other : (j i x : ℕ) → bit_at x j ≡ 0 → (i ≡ j → ⊥) → bit_at (x + 2 ^ j) i ≡ bit_at x i
added_other zero zero x e d = absurd (d refl)
added_other zero (suc i) x e d =
    let h : (x + 1) / 2 ≡ x / 2 = omega (arith, bit-zero x) in
    bit-suc (x + 1) i ∙ ap (λ (y : ℕ). bit_at y i) h ∙ sym (bit-suc x i)
added_other (suc j) zero x e d = omega (arith, pow-suc 2 j, bit-zero x, bit-zero (x + 2 ^ suc j))
added_other (suc j) (suc i) x e d =
    bit-suc (x + 2 ^ suc j) i ∙ ap (λ (y : ℕ). bit_at y i) (half_more j x)
    ∙ added_other j i (x / 2) (sym (bit-suc x j) ∙ e) (λ q. d (ap suc q)) ∙ sym (bit-suc x i)

-- the sum still has n bits
pub added_fits : (n j x : ℕ) → bit_at x j ≡ 0 → x < 2 ^ n → j < n → x + 2 ^ j < 2 ^ n
added_fits zero j x e l b = omega arith
added_fits (suc n) zero x e l b = omega (arith, pow-suc 2 n, bit-zero x)
added_fits (suc n) (suc j) x e l b =
    let r = added_fits n j (x / 2) (sym (bit-suc x j) ∙ e) (omega (arith, pow-suc 2 n)) (omega arith) in
    omega (arith, pow-suc 2 n, pow-suc 2 j)

-- ---- 2 ^ j is subtracted where bit j is 1

pub subtracted : (j x : ℕ) → bit_at x j ≡ 1 → bit_at (x - 2 ^ j) j ≡ 0
subtracted zero x e = omega (arith, bit-zero x, bit-zero (x - 1))
subtracted (suc j) x e =
    let h : (x - 2 ^ suc j) / 2 ≡ x / 2 - 2 ^ j = omega (arith, pow-suc 2 j, bit_at_least (suc j) x e) in
    bit-suc (x - 2 ^ suc j) j ∙ ap (λ (y : ℕ). bit_at y j) h ∙ subtracted j (x / 2) (sym (bit-suc x j) ∙ e)

pub subtracted_other : (j i x : ℕ) → bit_at x j ≡ 1 → (i ≡ j → ⊥) → bit_at (x - 2 ^ j) i ≡ bit_at x i
subtracted_other j i x e d =
    let back : x - 2 ^ j + 2 ^ j ≡ x = omega (arith, bit_at_least j x e) in
    sym (added_other j i (x - 2 ^ j) (subtracted j x e) d) ∙ ap (λ (y : ℕ). bit_at y i) back
