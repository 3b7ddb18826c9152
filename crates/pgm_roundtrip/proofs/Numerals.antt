-- The digits of a number in decimal: what they spell, that they have no leading zero, and that no other digits without one spell it.
use mathlib.Core.Path.{◌≡◌, refl, sym, subst, ap, ◌∙◌}
use mathlib.Core.Bool.{Bool, true, false, not, ◌||◌, and-eq-true_iff}
use mathlib.Core.List.{List, [], ◌∷◌, ◌++◌, append_assoc, append-nil}
use mathlib.Core.Logic.{by_cases}
use Prim.Native.Nat.{ℕ, zero, suc, ◌+◌, ◌-◌, ◌*◌, ◌/◌, ◌%◌, ◌≤◌, ◌<◌}
use native.Mathlib.Decide.{dec_lt}
use native.Mathlib.Omega.{arith}
use borrow.Author.Tests.{eqb-true, eqb-false, eq-eqb, le-leb}
use lib.Dec.{T, eqb}
use lib.ListN.{get_or, length, length-append}
use Rattle.text_lines.specs.Lines.{decimal, digit}
use Rattle.text_lines.proofs.Decimals.{decimal-more, decimal_next, decimal_one}
use Rattle.pgm_header.specs.Grammar.{digits_value, front, is_digit}
use Rattle.pgm_header.proofs.Digits.{digit_range}
use Rattle.pgm_header.proofs.Front.{front_hit, front_miss}
use Rattle.pgm_roundtrip.specs.PlateFiles.{numeral}

-- ---- lists of digits

-- every byte is a digit
abbrev pub AllDigits : List ℕ → Type 0
AllDigits s = front is_digit s ≡ length s

pub digit-is : (d : ℕ) → d < 10 → is_digit (digit d) ≡ true
unfolding is_digit
digit-is d l = rw (le-leb 48 (digit d) (omega arith), le-leb (digit d) 57 (omega arith))

-- the first is one, and so are the others
pub digits-split : (b : ℕ) (s : List ℕ) → AllDigits (b ∷ s) → (is_digit b ≡ true) × AllDigits s
digits-split b s e = go (is_digit b) refl
  where
    go : (t : Bool) → is_digit b ≡ t → (is_digit b ≡ true) × AllDigits s
    go true i = (i, (let h = front_hit is_digit b s i in omega (arith, e, h)))
    go false i = absurd (let m = front_miss is_digit b s i in omega (arith, e, m))

pub digits_cons : (b : ℕ) (s : List ℕ) → is_digit b ≡ true → AllDigits s → AllDigits (b ∷ s)
digits_cons b s i e = front_hit is_digit b s i ∙ ap suc e

-- digits and then other bytes: how many digits are at the front
pub front_append : (a s : List ℕ) → AllDigits a → front is_digit (a ++ s) ≡ length a + front is_digit s
front_append [] s e = omega arith
front_append (b ∷ a) s e =
    let (i, rest) = digits-split b a e in
    let h = front_hit is_digit b (a ++ s) i in
    omega (arith, h, front_append a s rest)

-- the number that digits spell, one after the other
value_append : (v : ℕ) (a s : List ℕ) → digits_value v (a ++ s) ≡ digits_value (digits_value v a) s
unfolding digits_value
value_append v [] s = refl
value_append v (b ∷ a) s = value_append (10 * v + (b - 48)) a s

-- ---- the digits of a number

-- s are the digits of v
pub record Spelled (v : ℕ) (s : List ℕ) : Type 0 where
  pub some : 1 ≤ length s
  pub digits : AllDigits s
  pub value : digits_value 0 s ≡ v
  -- a leading zero is the number 0
  pub leading : get_or s 0 0 ≡ 48 → length s ≡ 1

spelled_one : (v : ℕ) → v < 10 → Spelled v (digit v ∷ [])
unfolding front digits_value
spelled_one v l = record {
  some = omega arith;
  digits = digits_cons (digit v) [] (digit-is v l) refl;
  value = omega arith;
  leading = λ z. refl;
}

not-zero : (v b : ℕ) (s : List ℕ) → Spelled v (b ∷ s) → 1 ≤ v → b ≡ 48 → ⊥
unfolding digits_value
not-zero v b [] k some z = omega (arith, k.value, z)
not-zero v b (c ∷ s) k some z = omega (arith, k.leading z)

spelled_more : (v d : ℕ) (s : List ℕ) → 1 ≤ v → d < 10 → Spelled v s → Spelled (10 * v + d) (s ++ (digit d ∷ []))
unfolding front digits_value
spelled_more v d [] some l k = absurd (omega (arith, k.some))
spelled_more v d (b ∷ s) some l k = record {
  some = omega arith;
  digits =
      let last : AllDigits (digit d ∷ []) = digits_cons (digit d) [] (digit-is d l) refl in
      front_append (b ∷ s) (digit d ∷ []) k.digits ∙ rw last (sym (length-append (b ∷ s) (digit d ∷ [])));
  value = value_append 0 (b ∷ s) (digit d ∷ []) ∙ rw k.value (omega arith);
  leading = λ z. absurd (not-zero v b s k some z);
}

spelled_below : (n v : ℕ) → v < n → Spelled v (decimal v)
spelled_below zero v l = absurd (omega arith)
spelled_below (suc n) v l =
    by_cases (dec_lt v 10)
    (λ s. rw (decimal_one v s) (spelled_one v s))
    (λ s.
    let h : 10 ≤ v = omega arith in
    let e : 10 * (v / 10) + v % 10 ≡ v = omega arith in
    rw (decimal-more v h) (rw e at (spelled_more (v / 10) (v % 10) (decimal (v / 10)) (omega arith) (omega arith) (spelled_below n (v / 10) (omega arith)))))

pub spelled : (v : ℕ) → Spelled v (decimal v)
spelled v = spelled_below (suc v) v (omega arith)

-- ---- numerals

numeral-is : (s : List ℕ) → 1 ≤ length s → AllDigits s → (get_or s 0 0 ≡ 48 → length s ≡ 1) → numeral s ≡ true
unfolding numeral
numeral-is [] some digits leading = absurd (omega arith)
numeral-is (d ∷ ds) some digits leading = go (eqb d 48) refl
  where
    go : (t : Bool) → eqb d 48 ≡ t → numeral (d ∷ ds) ≡ true
    go true z =
        let alone : length ds ≡ 0 = omega (arith, leading (eqb-true d 48 z)) in
        rw (eq-eqb (front is_digit (d ∷ ds)) (suc (length ds)) digits, z, alone)
    go false z = rw (eq-eqb (front is_digit (d ∷ ds)) (suc (length ds)) digits, z)

-- a number in decimal is a numeral
pub decimal-numeral : (v : ℕ) → numeral (decimal v) ≡ true
decimal-numeral v = let k = spelled v in numeral-is (decimal v) k.some k.digits k.leading

-- what is known of a numeral
pub numeral-digits : (s : List ℕ) → numeral s ≡ true → (1 ≤ length s) × AllDigits s
unfolding numeral
numeral-digits [] e = absurd (subst T (sym e) tt)
numeral-digits (d ∷ ds) e =
    (omega arith, eqb-true (front is_digit (d ∷ ds)) (suc (length ds)) ((and-eq-true_iff _ _).0 e).0)

-- digits after those of a number that is not 0
more-digits : (s : List ℕ) (v : ℕ) → AllDigits s → 1 ≤ v → decimal v ++ s ≡ decimal (digits_value v s)
unfolding digits_value
more-digits [] v e some = append-nil (decimal v)
more-digits (b ∷ s) v e some =
    let (i, rest) = digits-split b s e in
    let (low, high) = digit_range b i in
    let next = decimal_next v (b - 48) some (omega arith) in
    let same : digit (b - 48) ≡ b = omega arith in
    sym (append_assoc (decimal v) (b ∷ []) s) ∙ ap (λ (l : List ℕ). l ++ s) (sym (rw same at next))
    ∙ more-digits s (10 * v + (b - 48)) rest (omega arith)

-- a first digit that is not alone is not 0
not_leading : (d c : ℕ) (ds : List ℕ) → numeral (d ∷ c ∷ ds) ≡ true → eqb d 48 ≡ false
unfolding numeral
not_leading d c ds e = go (eqb d 48) refl
  where
    go : (t : Bool) → eqb d 48 ≡ t → eqb d 48 ≡ false
    go false z = z
    go true z =
        let leads = ((and-eq-true_iff (eqb (front is_digit (d ∷ c ∷ ds)) (suc (suc (length ds)))) (not (eqb d 48) || eqb (suc (length ds)) 0)).0 e).1 in
        let more : eqb (suc (length ds)) 0 ≡ true = rw z at leads in
        absurd (omega (arith, eqb-true (suc (length ds)) 0 more))

-- a numeral is the decimal of the number that it spells
pub numeral-decimal : (s : List ℕ) → numeral s ≡ true → s ≡ decimal (digits_value 0 s)
unfolding digits_value
numeral-decimal [] e = absurd (omega (arith, (numeral-digits [] e).0))
numeral-decimal (d ∷ []) e =
    let (low, high) = digit_range d (digits-split d [] (numeral-digits (d ∷ []) e).1).0 in
    let same : digit (d - 48) ≡ d = omega arith in
    let v : 10 * 0 + (d - 48) ≡ d - 48 = omega arith in
    rw v (sym (rw same at (decimal_one (d - 48) (omega arith))))
numeral-decimal (d ∷ c ∷ ds) e =
    let (digit-first, rest) = digits-split d (c ∷ ds) (numeral-digits (d ∷ c ∷ ds) e).1 in
    let (low, high) = digit_range d digit-first in
    let some : 1 ≤ d - 48 = by_cases (dec_lt 48 d) (λ h. omega arith) (λ h. absurd (eqb-false d 48 (not_leading d c ds e) (omega arith))) in
    let same : digit (d - 48) ≡ d = omega arith in
    let v : 10 * 0 + (d - 48) ≡ d - 48 = omega arith in
    let first = rw same at (decimal_one (d - 48) (omega arith)) in
    rw v (rw first at (more-digits (c ∷ ds) (d - 48) rest some))
