-- What stands at a place of a file: one blank, "P5" and a gap.
use mathlib.Core.Path.{◌≡◌, refl, sym, ◌∙◌}
use mathlib.Core.Bool.{true, false, and-true, and-false}
use mathlib.Core.List.{List, [], ◌∷◌}
use Prim.Native.Nat.{ℕ, ◌+◌, ◌≤◌, ◌<◌}
use native.Mathlib.Numerals.{add-one}
use native.Mathlib.Omega.{arith}
use lib.ListN.{length, drop, get_or, drop_of_length-le}
use lib.Dec.{eqb}
use lib.Seq.{drop-cons, drop-drop}
use Rattle.std.proofs.lemmas.Bool.Decides.{nat_tests}
use Rattle.std.specs.List.{starts_with}
use Rattle.std.proofs.Common.{Err}
use Rattle.meaning.specs.Sets.{pick}
use Rattle.pgm_header.specs.Grammar.{Token, gap_then, fault, no_letters, malformed, blank, one_blank, gap, opening}
use Rattle.pgm_header.specs.Steps.{fault_number, GapStep}
use Rattle.pgm_header.specs.declared.HeaderFault.{HeaderFault}

-- the answer where the grammar gives a fault
pub faulted : {s : List ℕ} {t : Token} (f : HeaderFault) → t ≡ fault (fault_number f) → GapStep s t (Err f)
faulted f e = record { same = sym e; within = tt }

-- ---- one blank

module _ (s : List ℕ) (i : ℕ) where
  pub blank_absent : length s ≤ i → one_blank (drop i s) ≡ malformed
  unfolding one_blank
  blank_absent h = rw (drop_of_length-le s h)

  pub blank_missing : i < length s → blank (get_or s i 0) ≡ false → one_blank (drop i s) ≡ malformed
  unfolding one_blank
  blank_missing h e = rw (drop-cons s i 0 h, e)

  pub blank_here : i < length s → blank (get_or s i 0) ≡ true → one_blank (drop i s) ≡ gap_then (drop (i + 1) s)
  unfolding one_blank
  blank_here h e = rw (add-one i, drop-cons s i 0 h, e)

-- ---- "P5" and the gap after it

eqb_sym : (a b : ℕ) → eqb a b ≡ eqb b a
eqb_sym a b = grind (arith, nat_tests)

-- the test for "P5" at the front decides
letters : (r : List ℕ) → opening r ≡ pick (starts_with eqb r (80 ∷ 53 ∷ [])) (gap (drop 2 r)) no_letters
unfolding opening
letters [] = refl
letters (p ∷ []) = rw (and-false (eqb 80 p))
letters (p ∷ five ∷ s) = rw (eqb_sym 80 p, eqb_sym 53 five, and-true (eqb five 53))

module _ (s : List ℕ) (i : ℕ) where
  pub letters_absent : length s < i → opening (drop i s) ≡ no_letters
  unfolding opening
  letters_absent h = let l : length s ≤ i = omega arith in rw (drop_of_length-le s l)

  pub letters_other : starts_with eqb (drop i s) (80 ∷ 53 ∷ []) ≡ false → opening (drop i s) ≡ no_letters
  letters_other e = letters (drop i s) ∙ rw e

  pub letters_here : starts_with eqb (drop i s) (80 ∷ 53 ∷ []) ≡ true → opening (drop i s) ≡ gap (drop (i + 2) s)
  letters_here e = letters (drop i s) ∙ rw (e, drop-drop)
