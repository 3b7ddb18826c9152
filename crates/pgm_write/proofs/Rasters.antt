-- The bytes of a raster: how many there are, and where those of each pixel stand.
use mathlib.Core.Path.{◌≡◌, refl, sym, ◌∙◌}
use mathlib.Core.Bool.{false}
use mathlib.Core.Logic.{inl, inr}
use mathlib.Core.List.{List, [], ◌∷◌, append_assoc}
use Prim.Native.Nat.{ℕ, zero, suc, ◌+◌, ◌*◌, ◌-◌, ◌/◌, ◌%◌, ◌≤◌, ◌<◌}
use native.Mathlib.Numerals.{add-one}
use native.Mathlib.Omega.{arith}
use lib.ListN.{length, take, drop, set}
use lib.Seq.{drop-drop, sets-eq}
use borrow.Rule.Slice.PartMut.{put_mid}
use Rattle.text_lines.proofs.Pieces.{Putting, putting_more}
use Rattle.meaning.specs.Plate.{byte_greatest, grey}
use Rattle.meaning.specs.Answers.{any_above}
use Rattle.plate_refusals.proofs.Refusals.{above_none, none_above}
use Rattle.pgm.specs.File.{pixel_bytes}
use Rattle.pgm.proofs.Raster.{one_low, one_or_two}
use Rattle.pgm_write.specs.Writing.{byte_pairs, raster_of}

-- ---- two bytes a pixel

pub byte_pairs-length : (f : List ℕ) → length (byte_pairs f) ≡ 2 * length f
unfolding byte_pairs
byte_pairs-length [] = refl
byte_pairs-length (g ∷ f) = omega (arith, byte_pairs-length f)

pub byte_pairs_high : (f : List ℕ) (p : ℕ) → p < length f → grey (byte_pairs f) (2 * p) ≡ grey f p / 256
unfolding byte_pairs
byte_pairs_high [] p l = absurd (omega arith)
byte_pairs_high (g ∷ f) zero l = refl
byte_pairs_high (g ∷ f) (suc p) l = let e : 2 * suc p ≡ suc (suc (2 * p)) = omega arith in rw e (byte_pairs_high f p (omega arith))

pub byte_pairs_low : (f : List ℕ) (p : ℕ) → p < length f → grey (byte_pairs f) (2 * p + 1) ≡ grey f p % 256
unfolding byte_pairs
byte_pairs_low [] p l = absurd (omega arith)
byte_pairs_low (g ∷ f) zero l = refl
byte_pairs_low (g ∷ f) (suc p) l = let e : 2 * suc p + 1 ≡ suc (suc (2 * p + 1)) = omega arith in rw e (byte_pairs_low f p (omega arith))

-- two bytes in a row are put as one after the other
pair_put : (l : List ℕ) (i a b : ℕ) → i + 2 ≤ length l → put_mid i (i + 2 - i) l (a ∷ b ∷ []) ≡ set (set l i a) (i + 1) b
pair_put l i a b h =
    let two : i + 2 - i ≡ 2 = omega arith in
    rw (two, add-one i, drop-drop) (sym (append_assoc (take i l) (a ∷ b ∷ []) (drop (i + 2) l)) ∙ sym (sets-eq (a ∷ b ∷ []) l i h))

-- the two bytes of pixel p are put after those of the pixels before it
pub putting_pair : (image : List ℕ) (p : ℕ) {text text' bytes : List ℕ} {at : ℕ} → Putting text at (byte_pairs image) text' (2 * p) → p < length image
    → grey image p < 65536 → bytes ≡ grey image p / 256 % 256 ∷ grey image p % 256 ∷ []
    → Putting text at (byte_pairs image) (put_mid (at + 2 * p) (at + 2 * p + 2 - (at + 2 * p)) text' bytes) (2 * (p + 1))
putting_pair image p {text' = text'} {at = at} k l small e =
    let long = byte_pairs-length image in
    let high = putting_more k (omega (arith, long)) in
    let both = putting_more high (omega (arith, long)) in
    let next : 2 * p + 1 + 1 ≡ 2 * (p + 1) = omega arith in
    let place : at + (2 * p + 1) ≡ at + 2 * p + 1 = omega arith in
    let byte : grey image p / 256 % 256 ≡ grey image p / 256 = omega arith in
    rw (e, byte, pair_put text' (at + 2 * p) (grey image p / 256) (grey image p % 256) (omega (arith, k.room, k.long, long)))
    (rw (next, place, byte_pairs_high image p l, byte_pairs_low image p l) at both)

-- ---- one byte a pixel, or two

module _ (M : ℕ) (f : List ℕ) where
  pub raster_one : pixel_bytes M ≡ 1 → raster_of M f ≡ f
  unfolding raster_of
  raster_one e = rw e

  pub raster_two : pixel_bytes M ≡ 2 → raster_of M f ≡ byte_pairs f
  unfolding raster_of
  raster_two e = rw e

  pub raster_length : length (raster_of M f) ≡ pixel_bytes M * length f
  raster_length = elim (one_or_two M) [
    | inl e ↦ rw (raster_one e, e) (omega arith)
    | inr e ↦ rw (raster_two e, e) (byte_pairs-length f)
  ]

  -- b was found to be how many bytes a pixel has
  module _ {b : ℕ} (is : b ≡ pixel_bytes M) where
    pub raster_bytes_lem : b ≡ 1 → raster_of M f ≡ f
    raster_bytes_lem e = raster_one (sym is ∙ e)

    -- no grey is above a byte
    pub bytes_low : b ≡ 1 → any_above M f ≡ false → any_above byte_greatest f ≡ false
    bytes_low e low = above_none byte_greatest f (λ p l. omega (arith, none_above M f low p l, one_low M (sym is ∙ e)))

    pub raster_pairs : (b ≡ 1 → ⊥) → raster_of M f ≡ byte_pairs f
    raster_pairs ne = elim (one_or_two M) [
      | inl e ↦ absurd (ne (is ∙ e))
      | inr e ↦ raster_two e
    ]
