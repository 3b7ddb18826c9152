-- The two forms of one record as bytes: the new one has 0 2 255 1 in front of the old one.
use mathlib.Core.Path.{◌≡◌, refl, sym, ap, ◌∙◌}
use mathlib.Core.Bool.{Bool, true, false}
use mathlib.Core.List.{List, ◌∷◌}
use Prim.Native.Nat.{ℕ, ◌≤◌}
use native.Mathlib.Omega.{arith}
use borrow.Author.Tests.{eqb-true}
use lib.ListN.{length, drop}
use Rattle.meaning.specs.Plate.{byte_greatest}
use Rattle.meaning.specs.Record.{old_record_of, record_in, record_of}
use Rattle.record_parse.specs.Parse.{plate, read_of}
use Rattle.record_roundtrip.proofs.Exactly.{read_exact}
use Rattle.record_convert.specs.Converting.{form_fits}

pub front-is : (k w h : ℕ) (f : List ℕ) → record_of k w h byte_greatest f ≡ 0 ∷ 2 ∷ 255 ∷ 1 ∷ old_record_of k w h f
unfolding record_of old_record_of
front-is k w h f = refl

-- a form that fits: the new one, or the old one of a greatest grey of 255
pub old_fits : {M : ℕ} → form_fits false M ≡ true → M ≡ byte_greatest
unfolding form_fits
old_fits {M} e = eqb-true M byte_greatest e

-- the bytes s are the record, in the form `was`, of a plate
pub record Spelt (s : List ℕ) (was : Bool) (k w h M : ℕ) (f : List ℕ) : Type 0 where
  pub bytes : s ≡ record_in was k w h M f
  pub form : was ≡ false → M ≡ byte_greatest

pub spelt : (s : List ℕ) (work : ℕ) {was : Bool} {k w h M : ℕ} {f : List ℕ} → read_of s work ≡ plate was k w h M f → Spelt s was k w h M f
spelt s work {was} {k} {w} {h} {M} {f} e = let x = read_exact s work was k w h M f e in record { bytes = x.0; form = x.1.old }

-- ---- from the form `was` to the form `new`

module _ {s : List ℕ} {was : Bool} (new : Bool) {k w h M : ℕ} {f : List ℕ} (x : Spelt s was k w h M f) where
  -- the same
  pub form_kept : was ≡ new → s ≡ record_in new k w h M f
  form_kept e = x.bytes ∙ ap (λ (b : Bool). record_in b k w h M f) e

  -- the old form in the new one
  pub front_added : was ≡ false → new ≡ true → 0 ∷ 2 ∷ 255 ∷ 1 ∷ s ≡ record_in new k w h M f
  front_added e n =
      ap (λ (t : List ℕ). 0 ∷ 2 ∷ 255 ∷ 1 ∷ t) (x.bytes ∙ ap (λ (b : Bool). record_in b k w h M f) e)
      ∙ sym (front-is k w h f)
      ∙ ap (λ (m : ℕ). record_of k w h m f) (sym (x.form e))
      ∙ ap (λ (b : Bool). record_in b k w h M f) (sym n)

  -- the new form, of a greatest grey of 255, has the front
  module _ (e : was ≡ true) (n : new ≡ false) (fits : form_fits new M ≡ true) where
    front_there : s ≡ 0 ∷ 2 ∷ 255 ∷ 1 ∷ old_record_of k w h f
    front_there =
        x.bytes
        ∙ ap (λ (b : Bool). record_in b k w h M f) e
        ∙ ap (λ (m : ℕ). record_of k w h m f) (old_fits (sym (ap (λ (b : Bool). form_fits b M) n) ∙ fits))
        ∙ front-is k w h f

    pub front_fits : 4 ≤ length s
    front_fits = omega (arith, ap length front_there)

    -- and is the old form without it
    pub front_dropped : drop 4 s ≡ record_in new k w h M f
    front_dropped = ap (drop 4) front_there ∙ ap (λ (b : Bool). record_in b k w h M f) (sym n)
