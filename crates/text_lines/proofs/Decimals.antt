-- Laws of decimal numbers: one digit more, and how many there are.
use mathlib.Core.Path.{◌≡◌, sym, ap, ◌∙◌}
use mathlib.Core.Logic.{by_cases}
use mathlib.Core.List.{List, [], ◌∷◌, ◌++◌}
use Prim.Native.Nat.{ℕ, zero, suc, ◌+◌, ◌*◌, ◌/◌, ◌%◌, ◌^◌, ◌≤◌, ◌<◌}
use native.Mathlib.Omega.{arith}
use native.Mathlib.Decide.{dec_lt}
use native.Mathlib.Nat.{pow-suc, div-lt_iff_lt-mul}
use borrow.Author.Tests.{lt-ltb, le-ltb}
use lib.ListN.{length, length-append}
use Rattle.text_lines.specs.Lines.{decimal, digit, digits}

digits_one : (k v : ℕ) → v < 10 → digits (suc k) v ≡ digit v ∷ []
unfolding digits
digits_one k v l = rw (lt-ltb v 10 l, digits)

digits_more : (k v : ℕ) → 10 ≤ v → digits (suc k) v ≡ digits k (v / 10) ++ (digit (v % 10) ∷ [])
unfolding digits
digits_more k v l = rw (le-ltb v 10 l, digits)

-- a bound that is high enough does not matter
digits_bound : (k m v : ℕ) → v < k → v < m → digits k v ≡ digits m v
digits_bound zero m v a b = absurd (omega arith)
digits_bound (suc k) zero v a b = absurd (omega arith)
digits_bound (suc k) (suc m) v a b =
    by_cases (dec_lt v 10)
    (λ l. digits_one k v l ∙ sym (digits_one m v l))
    (λ l.
    let h : 10 ≤ v = omega arith in
    digits_more k v h ∙ ap (λ (s : List ℕ). s ++ (digit (v % 10) ∷ [])) (digits_bound k m (v / 10) (omega arith) (omega arith))
    ∙ sym (digits_more m v h))

-- a number below ten is one digit
pub decimal_one : (v : ℕ) → v < 10 → decimal v ≡ digit v ∷ []
unfolding decimal
decimal_one v l = digits_one v v l

-- any other has those of its tenth, and one digit more
pub decimal-more : (v : ℕ) → 10 ≤ v → decimal v ≡ decimal (v / 10) ++ (digit (v % 10) ∷ [])
unfolding decimal
decimal-more v l =
    digits_more v v l ∙ ap (λ (s : List ℕ). s ++ (digit (v % 10) ∷ [])) (digits_bound v (suc (v / 10)) (v / 10) (omega arith) (omega arith))

-- one digit is put after those of a number
pub decimal_next : (v d : ℕ) → 1 ≤ v → d < 10 → decimal (10 * v + d) ≡ decimal v ++ (digit d ∷ [])
decimal_next v d some l =
    let tenth : (10 * v + d) / 10 ≡ v = omega arith in
    let last : (10 * v + d) % 10 ≡ d = omega arith in
    decimal-more (10 * v + d) (omega arith) ∙ rw (tenth, last)

pub decimal-length : (v : ℕ) → 10 ≤ v → length (decimal v) ≡ length (decimal (v / 10)) + 1
decimal-length v l = ap length (decimal-more v l) ∙ length-append (decimal (v / 10)) (digit (v % 10) ∷ [])

-- a number below the power has at most so many digits
digits_few : (k m v : ℕ) → v < 10 ^ suc k → length (digits m v) ≤ suc k
unfolding digits
digits_few k zero v l = omega arith
digits_few zero (suc m) v l = rw (digits_one m v l) (omega arith)
digits_few (suc k) (suc m) v l =
    by_cases (dec_lt v 10)
    (λ s. rw (digits_one m v s) (omega arith))
    (λ s.
    let tenth : v / 10 < 10 ^ suc k = (div-lt_iff_lt-mul {k = 10} {x = v} {y = 10 ^ suc k} (omega arith)).1 (rw (pow-suc 10 (suc k)) at l) in
    rw (digits_more m v (omega arith), length-append (digits m (v / 10)) (digit (v % 10) ∷ [])) (omega (arith, digits_few k m (v / 10) tenth)))

pub decimal_few : (k v : ℕ) → v < 10 ^ suc k → length (decimal v) ≤ suc k
unfolding decimal
decimal_few k v l = digits_few k (suc v) v l

-- a number of 64 bits has at most twenty
pub decimal_twenty : (v : ℕ) → v < 18446744073709551616 → length (decimal v) ≤ 20
decimal_twenty v l = decimal_few 19 v (omega arith)
