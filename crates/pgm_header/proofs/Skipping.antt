-- What skipping blanks and comments leaves, place by place.
use mathlib.Core.Path.{◌≡◌, sym, ◌∙◌}
use mathlib.Core.Bool.{true, false}
use mathlib.Core.List.{List, ◌∷◌}
use Prim.Native.Nat.{ℕ, ◌+◌, ◌-◌, ◌≤◌, ◌<◌}
use native.Mathlib.Numerals.{add-one}
use native.Mathlib.Omega.{arith}
use borrow.Author.Tests.{ne_eqb, not-true, not-false}
use lib.ListN.{length, take, drop, get_or, drop_of_length-le}
use lib.Seq.{drop-cons}
use Rattle.pgm_header.specs.Grammar.{gap_then, blank, line_end, in_comment, mix, comment, front}
use Rattle.pgm_header.specs.Steps.{Skipped, SkipWithin}
use Rattle.pgm_header.specs.declared.Skip.{Skip}
use Rattle.pgm_header.specs.declared.Skip.TheVariants.{Past, Paused, Unended}
use Rattle.pgm_header.proofs.Front.{Ends, ends, past}

-- ---- the grammar at one byte

pub mix_blank : (b : ℕ) (s : List ℕ) → blank b ≡ true → mix (b ∷ s) ≡ mix s
unfolding mix
mix_blank b s e = rw (e, mix)

pub mix_opens : (b : ℕ) (s : List ℕ) → b ≡ 35 → mix (b ∷ s) ≡ comment s
unfolding mix
mix_opens b s e = rw e

pub mix_other : (b : ℕ) (s : List ℕ) → blank b ≡ false → (b ≡ 35 → ⊥) → mix (b ∷ s) ≡ gap_then (b ∷ s)
unfolding mix
mix_other b s e ne = rw (e, ne_eqb b 35 ne, mix)

pub comment_inside : (b : ℕ) (s : List ℕ) → in_comment b ≡ true → comment (b ∷ s) ≡ comment s
unfolding mix
comment_inside b s e = rw (not-true (line_end b) e, comment)

pub comment_ends : (b : ℕ) (s : List ℕ) → in_comment b ≡ false → comment (b ∷ s) ≡ mix s
unfolding mix
comment_ends b s e = rw (not-false (line_end b) e, comment)

-- ---- where skipping stops

within_from : (s : List ℕ) (from from' turns turns' : ℕ) (r : Skip) → from + turns ≤ from' + turns' → SkipWithin s from' turns' r
    → SkipWithin s from turns r
within_from s from from' turns turns' (Past c) h w = w
within_from s from from' turns turns' (Paused c) h w = omega arith
within_from s from from' turns turns' Unended h w = tt

module _ (s : List ℕ) (at i : ℕ) (is_blanks : i ≡ at + front blank (drop at s)) (h : at ≤ length s) where
  from_blanks : mix (drop at s) ≡ mix (drop i s)
  from_blanks = past blank s at i is_blanks mix mix_blank

  pub blanks_at_end : {turns : ℕ} → i ≡ length s → Skipped s at turns (mix (drop at s)) (Past (record { at = i }))
  unfolding mix
  blanks_at_end e =
      let l : length s ≤ i = omega arith in
      record { same = sym (from_blanks ∙ rw (drop_of_length-le s l)); within = omega arith }

  blanks_end : Ends blank s at i
  blanks_end = ends blank s at i is_blanks h

  -- another byte than a blank is there
  there : (i ≡ length s → ⊥) → i < length s
  there e = let b = blanks_end in omega arith

  pub blanks_at_other : {turns : ℕ} → (i ≡ length s → ⊥) → (get_or s i 0 ≡ 35 → ⊥)
      → Skipped s at turns (mix (drop at s)) (Past (record { at = i }))
  blanks_at_other e ne = record {
    same = sym (from_blanks ∙ rw (drop-cons s i 0 (there e)) (mix_other _ _ (blanks_end.fails (there e)) ne));
    within = blanks_end.within;
  }

  pub blanks_paused : {turns : ℕ} → turns ≡ 0 → Skipped s at turns (mix (drop at s)) (Paused (record { at = i }))
  blanks_paused z = let e = blanks_end in record { same = sym from_blanks; within = omega arith }

  pub blanks_comment : (turns : ℕ) → (i ≡ length s → ⊥) → get_or s i 0 ≡ 35 → (turns ≡ 0 → ⊥) → (r : Skip)
      → Skipped s (i + 1) (turns - 1) (comment (drop (i + 1) s)) r → Skipped s at turns (mix (drop at s)) r
  blanks_comment turns l e nz r k = record {
    same = k.same ∙ sym (from_blanks ∙ rw (drop-cons s i 0 (there l), add-one i) (mix_opens _ _ e));
    within = within_from s _ (i + 1) _ (turns - 1) r (omega arith) k.within;
  }

module _ (s : List ℕ) (at i : ℕ) (is_comment : i ≡ at + front in_comment (drop at s)) (h : at ≤ length s) where
  from_comment : comment (drop at s) ≡ comment (drop i s)
  from_comment = past in_comment s at i is_comment comment comment_inside

  pub comment_unended : {turns : ℕ} → i ≡ length s → Skipped s at turns (comment (drop at s)) Unended
  unfolding mix
  comment_unended e =
      let l : length s ≤ i = omega arith in
      record { same = sym (from_comment ∙ rw (drop_of_length-le s l)); within = tt }

  pub comment_blanks : (turns : ℕ) → (i ≡ length s → ⊥) → (r : Skip)
      → Skipped s (i + 1) turns (mix (drop (i + 1) s)) r → Skipped s at turns (comment (drop at s)) r
  comment_blanks turns e r k =
      let en = ends in_comment s at i is_comment h in
      let l : i < length s = omega arith in
      record {
        same = k.same ∙ sym (from_comment ∙ rw (drop-cons s i 0 l, add-one i) (comment_ends _ _ (en.fails l)));
        within = within_from s _ (i + 1) _ turns r (omega arith) k.within;
      }
