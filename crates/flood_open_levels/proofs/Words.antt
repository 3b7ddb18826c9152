-- Laws of a set in words: a part of the slice as such a set, one bit changed, the summary above, the greatest member of a word.
use mathlib.Core.Path.{◌≡◌, sym, ap, ◌∙◌, subst}
use mathlib.Core.Bool.{Bool, true, false}
use mathlib.Core.Logic.{inl, inr}
use mathlib.Core.List.{List}
use Prim.Native.Nat.{ℕ, ◌+◌, ◌-◌, ◌/◌, ◌%◌, ◌^◌, ◌≤◌, ◌<◌}
use native.Mathlib.Decide.{dec_le, ℕ_discrete}
use native.Mathlib.Nat.{pos_of_ne-zero}
use native.Mathlib.Omega.{arith}
use Rattle.std.proofs.lemmas.Bool.{eqb-true, true≢false}
use Rattle.std.proofs.lemmas.Bool.Decides.{eqb_tells}
use lib.Dec.{eqb, ltb, ltb→lt, lt→ltb}
use lib.Pow.{pow_pos}
use lib.ListN.{length, set, take, drop, length-take, length-drop, get_or-eq_default}
use lib.Seq.{get_or-set_same, get_or-set_other, get_or-take, get_or-drop, take-set-lt, take-set-le, drop-set-add, drop-set-lt}
use Rattle.meaning.specs.Sets.{nth}
use Rattle.theory_lists.proofs.Tests.{bit-true, bit-yes}
use Rattle.flood_open_levels.specs.Levels.{bit_at, signum, member, part, Summary}
use Rattle.flood_open_levels.specs.Words.{Highest}
use Rattle.flood_open_levels.proofs.Bits.{zero_bit, bit_at_least, added, added_other, subtracted, subtracted_other}

-- ---- the signum

pub signum_positive : (x : ℕ) → 0 < x → signum x ≡ 1
signum_positive x l = bit-yes (ltb 0 x) (lt→ltb 0 x l)

pub positive_signum : (x : ℕ) → signum x ≡ 1 → 0 < x
positive_signum x e = ltb→lt 0 x (bit-true (ltb 0 x) (omega arith))

pub signum-zero : (x : ℕ) → x ≡ 0 → signum x ≡ 0
signum-zero x e = ap signum e

-- a test of a word for 0
pub zero_word : {x : ℕ} {r : Bool} → r ≡ eqb x 0 → r ≡ true → x ≡ 0
zero_word {x} e t = eqb-true x 0 (sym e ∙ t)

pub nonzero_word : {x : ℕ} {r : Bool} → r ≡ eqb x 0 → r ≡ false → 0 < x
nonzero_word {x} e t = elim (eqb_tells x 0) [
  | inl y ↦ absurd (true≢false (sym y.0 ∙ sym e ∙ t))
  | inr y ↦ pos_of_ne-zero y.1
]

-- ---- a part of the slice

pub part_in : (b n : ℕ) (s : List ℕ) (a : ℕ) → a < n → nth (part b n s) a ≡ nth s (b + a)
unfolding part
part_in b n s a l = get_or-take n (drop b s) a 0 l ∙ get_or-drop b s a 0

pub part_length : (b n : ℕ) (s : List ℕ) → b + n ≤ length s → length (part b n s) ≡ n
unfolding part
part_length b n s l = simp (length-take, length-drop) (omega arith)

pub part_out : (b n : ℕ) (s : List ℕ) (a : ℕ) → b + n ≤ length s → n ≤ a → nth (part b n s) a ≡ 0
part_out b n s a l o = get_or-eq_default (part b n s) 0 {n = a} (omega (arith, part_length b n s l))

pub part-set : (b n : ℕ) (s : List ℕ) (a x : ℕ) → a < n → part b n (set s (b + a) x) ≡ set (part b n s) a x
unfolding part
part-set b n s a x l = ap (take n) (drop-set-add b s a x) ∙ take-set-lt n (drop b s) a x l

-- a store before or after the part leaves it
pub part-before : (b n : ℕ) (s : List ℕ) (i x : ℕ) → i < b → part b n (set s i x) ≡ part b n s
unfolding part
part-before b n s i x l = ap (take n) (drop-set-lt b s i x l)

pub part_after : (b n : ℕ) (s : List ℕ) (i x : ℕ) → b + n ≤ i → part b n (set s i x) ≡ part b n s
unfolding part
part_after b n s i x l =
    let q : i ≡ b + (i - b) = omega arith in
    ap (λ (k : ℕ). take n (drop b (set s k x))) q ∙ ap (take n) (drop-set-add b s (i - b) x) ∙ take-set-le n (drop b s) (i - b) x (omega arith)

-- the word of a member is within the part
pub member_inside : (b n : ℕ) (s : List ℕ) (j : ℕ) → b + n ≤ length s → member (part b n s) j ≡ 1 → j / 64 < n
unfolding member
member_inside b n s j l e = elim (dec_le n (j / 64)) [
  | yes o ↦ omega (arith, zero_bit (j % 64), ap (λ (x : ℕ). bit_at x (j % 64)) (part_out b n s (j / 64) l o))
  | no h ↦ omega arith
]

-- ---- one bit is changed

-- f' is f with v as the bit of j
pub record Updated (f f' : List ℕ) (j v : ℕ) : Type 0 where
  pub here : member f' j ≡ v
  pub other : (l : ℕ) → (l ≡ j → ⊥) → member f' l ≡ member f l
  pub apart : (a : ℕ) → (a ≡ j / 64 → ⊥) → nth f' a ≡ nth f a

updated : (f : List ℕ) (j x v : ℕ) → j / 64 < length f → bit_at x (j % 64) ≡ v
    → ((i : ℕ) → (i ≡ j % 64 → ⊥) → bit_at x i ≡ bit_at (nth f (j / 64)) i) → Updated f (set f (j / 64) x) j v
unfolding member
updated f j x v l e o = record {
  here = ap (λ (y : ℕ). bit_at y (j % 64)) (get_or-set_same f (j / 64) x 0 l) ∙ e;
  other = λ k d. elim (ℕ_discrete (k / 64) (j / 64)) [
    | yes q ↦ ap (λ (y : ℕ). bit_at y (k % 64)) (ap (nth (set f (j / 64) x)) q ∙ get_or-set_same f (j / 64) x 0 l)
        ∙ o (k % 64) (λ r. d (omega arith)) ∙ ap (λ (a : ℕ). bit_at (nth f a) (k % 64)) (sym q)
    | no q ↦ ap (λ (y : ℕ). bit_at y (k % 64)) (get_or-set_other f (j / 64) (k / 64) x 0 q)
  ];
  apart = λ a d. get_or-set_other f (j / 64) a x 0 d;
}

pub updated_set : (f : List ℕ) (j : ℕ) → j / 64 < length f → member f j ≡ 0
    → Updated f (set f (j / 64) (nth f (j / 64) + 2 ^ (j % 64))) j 1
unfolding member
updated_set f j l e =
    let x = nth f (j / 64) in
    updated f j (x + 2 ^ (j % 64)) 1 l (added (j % 64) x e) (λ i d. added_other (j % 64) i x e d)

pub updated_cleared : (f : List ℕ) (j : ℕ) → j / 64 < length f → member f j ≡ 1
    → Updated f (set f (j / 64) (nth f (j / 64) - 2 ^ (j % 64))) j 0
unfolding member
updated_cleared f j l e =
    let x = nth f (j / 64) in
    updated f j (x - 2 ^ (j % 64)) 0 l (subtracted (j % 64) x e) (λ i d. subtracted_other (j % 64) i x e d)

-- ---- a set and its summary

-- the word of a member is not 0, and is a member of the summary
pub member_nonzero : (f : List ℕ) (j : ℕ) → member f j ≡ 1 → 0 < nth f (j / 64)
unfolding member
member_nonzero f j e = omega (arith, bit_at_least (j % 64) (nth f (j / 64)) e, pow_pos (j % 64))

pub member_above : {f g : List ℕ} → Summary f g → (j : ℕ) → member f j ≡ 1 → member g (j / 64) ≡ 1
member_above {f} o j e = o.tells (j / 64) ∙ signum_positive (nth f (j / 64)) (member_nonzero f j e)

-- word k and its bit in the summary are changed
pub summary_updated : {f f' g g' : List ℕ} (k : ℕ) → Summary f g → ((a : ℕ) → (a ≡ k → ⊥) → nth f' a ≡ nth f a)
    → ((a : ℕ) → (a ≡ k → ⊥) → member g' a ≡ member g a) → member g' k ≡ signum (nth f' k) → Summary f' g'
summary_updated {f' = f'} {g' = g'} k o p q e = record {
  tells = λ a. elim (ℕ_discrete a k) [
    | yes r ↦ subst (λ (n : ℕ). member g' n ≡ signum (nth f' n)) (sym r) e
    | no d ↦ q a d ∙ o.tells a ∙ ap signum (sym (p a d))
  ];
}

-- ---- the greatest member of a word

pub highest_member : (f : List ℕ) {c r : ℕ} → Highest (nth f c) c r → member f r ≡ 1
unfolding member
highest_member f {c} {r} t = ap (λ (a : ℕ). bit_at (nth f a) (r % 64)) t.word ∙ t.here

pub highest_most : (f : List ℕ) {c r : ℕ} → Highest (nth f c) c r → (l : ℕ) → member f l ≡ 1 → l / 64 ≤ c → l ≤ r
unfolding member
highest_most f {c} {r} t l e b = elim (ℕ_discrete (l / 64) c) [
  | yes q ↦
      let m : l % 64 ≤ r % 64 = t.most (l % 64) (ap (λ (a : ℕ). bit_at (nth f a) (l % 64)) (sym q) ∙ e) in
      omega (arith, t.word)
  | no d ↦ let n : l / 64 < c = elim (dec_le c (l / 64)) [ yes g ↦ absurd (d (omega arith)) | no g ↦ omega arith ] in omega (arith, t.word)
]
