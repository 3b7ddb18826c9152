-- The number that one to five digits spell, and the loop that works it out.
use mathlib.Core.Path.{◌≡◌, sym, ap, ◌∙◌}
use mathlib.Core.Bool.{true, and-eq-true_iff}
use mathlib.Core.List.{List}
use Prim.Native.Nat.{ℕ, ◌+◌, ◌-◌, ◌*◌, ◌^◌, ◌≤◌, ◌<◌}
use native.Mathlib.Nat.{pow-succ', pow-le-pow_right}
use native.Mathlib.Numerals.{add-one}
use native.Mathlib.Omega.{arith}
use borrow.Author.Tests.{leb-true, le-leb, lt-leb}
use lib.Dec.{leb, lit<}
use lib.ListN.{length, take, drop, get_or, drop_of_length-le, length-drop}
use lib.Seq.{drop-cons, drop-drop, get_or-take, length-take-le}
use Rattle.std.proofs.Common.{Ok, Err}
use Rattle.pgm_header.specs.Grammar.{Token, fault, is_digit, front, digits_value, number_then, malformed, number}
use Rattle.pgm_header.specs.Steps.{fault_number, IsNumber, NumberStep}
use Rattle.pgm_header.specs.declared.HeaderFault.{HeaderFault}
use Rattle.pgm_header.proofs.Front.{front_end, front_within, front_passes}

pub digit_range : (b : ℕ) → is_digit b ≡ true → (48 ≤ b) × (b ≤ 57)
unfolding is_digit
digit_range b e = let (l, h) = (and-eq-true_iff (leb 48 b) (leb b 57)).0 e in (leb-true 48 b l, leb-true b 57 h)

-- v is what the digits before i spell
pub record Spelling (s : List ℕ) (i v : ℕ) : Type 0 where
  pub small : v < 10 ^ i
  pub same : digits_value v (drop i s) ≡ digits_value 0 s

module _ {s : List ℕ} {i v : ℕ} (d : IsNumber s) (k : Spelling s i v) where
  -- before the last digit the number has at most four
  pub spelling_small : i < length s → v < 10000
  spelling_small h =
      let few : i ≤ 4 = omega (arith, d.few) in
      let p : 10 ^ i ≤ 10000 = pow-le-pow_right (lit< tt) few in
      omega (arith, k.small)

  pub spelling_digit : i < length s → (48 ≤ get_or s i 0) × (get_or s i 0 ≤ 57)
  spelling_digit h = digit_range (get_or s i 0) (d.all i h)

  pub spelling_more : i < length s → Spelling s (i + 1) (10 * v + (get_or s i 0 - 48))
  unfolding digits_value
  spelling_more h = record {
    small = let r = spelling_digit h in rw (add-one i, pow-succ') (omega (arith, k.small));
    same = rw (add-one i) (sym (ap (digits_value v) (drop-cons s i 0 h)) ∙ k.same);
  }

  pub spelling_done : length s ≤ i → v ≡ digits_value 0 s
  unfolding digits_value
  spelling_done h = sym (ap (digits_value v) (drop_of_length-le s h)) ∙ k.same

-- ---- a number at a place

pub number-none : (l : List ℕ) → front is_digit l ≡ 0 → number l ≡ malformed
unfolding number
number-none l e = rw e

pub number_many : (l : List ℕ) → 5 < front is_digit l → number l ≡ malformed
unfolding number
number_many l h = rw (lt-leb (front is_digit l) 5 h, le-leb 1 (front is_digit l) (omega arith))

pub number_few : (l : List ℕ) → 1 ≤ front is_digit l → front is_digit l ≤ 5
    → number l ≡ number_then (digits_value 0 (take (front is_digit l) l)) (drop (front is_digit l) l)
unfolding number
number_few l h k = rw (le-leb 1 (front is_digit l) h, le-leb (front is_digit l) 5 k)

pub number_absent : (s : List ℕ) (at : ℕ) → length s ≤ at → number (drop at s) ≡ malformed
number_absent s at h = number-none (drop at s) (front_end is_digit s at h)

-- the step's answer where there is none
pub number_stopped : {s : List ℕ} {t : Token} (f : HeaderFault) → t ≡ fault (fault_number f) → NumberStep s t (Err f)
number_stopped f e = record { same = sym e; within = tt }

module _ (s : List ℕ) (at : ℕ) {n : ℕ} (is : n ≡ front is_digit (drop at s)) where
  pub number_empty : n < 1 → number (drop at s) ≡ malformed
  number_empty h = number-none (drop at s) (omega arith)

  pub number_long : 5 < n → number (drop at s) ≡ malformed
  number_long h = number_many (drop at s) (omega arith)

  pub number_digits : n ≤ 5 → IsNumber (take n (drop at s))
  number_digits h =
      let e = length-take-le n (drop at s) (rw is (front_within is_digit (drop at s))) in
      record {
        few = omega (arith, e);
        all = λ k l. let l' : k < n = omega (arith, e) in rw get_or-take (front_passes is_digit (drop at s) k (omega (arith, e)));
      }

  -- the step's answer where there is a number
  pub number_step : {v : ℕ} → at ≤ length s → 1 ≤ n → n ≤ 5 → v ≡ digits_value 0 (take n (drop at s))
      → NumberStep s (number (drop at s)) (Ok (v, record { at = at + n }))
  number_step {v} l h h' e = record {
    same = rw (number_few (drop at s) (omega arith) (omega arith), drop-drop, ← is, ← e);
    within = let w = front_within is_digit (drop at s) in omega (arith, length-drop at s);
  }
