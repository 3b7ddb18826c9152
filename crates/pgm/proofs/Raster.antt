-- The greys of a raster: how many there are, and where the bytes of each stand.
use mathlib.Core.Path.{◌≡◌, refl, sym, ap, ◌∙◌}
use mathlib.Core.Bool.{Bool, true, false}
use mathlib.Core.List.{List, [], ◌∷◌}
use mathlib.Core.Logic.{◌⊎◌, inl, inr}
use Prim.Native.Nat.{ℕ, zero, suc, ◌+◌, ◌*◌, ◌/◌, ◌≤◌, ◌<◌}
use native.Mathlib.Nat.{zero-add}
use native.Mathlib.Omega.{arith}
use borrow.Author.Tests.{leb-true}
use lib.Dec.{leb}
use lib.ListN.{length}
use Rattle.std.specs.Bool.{MatchBool}
use Rattle.std.specs.List.{AllWithin, HoldsAt, range_with_len}
use Rattle.std.proofs.lemmas.List.FromFn.{get_or-range_with_len, length-range_with_len}
use Rattle.meaning.specs.Answers.{any_above}
use Rattle.plate_refusals.proofs.Refusals.{above_met, above_none}
use Rattle.meaning.specs.Plate.{byte_greatest, grey, grid_fits, max_pixels}
use Rattle.theory_connectivity.proofs.Sizes.{grid_sizes}
use Rattle.pgm.specs.File.{pairs, pixel_bytes, greys_of}

-- ---- pairs

pairs-length : (s : List ℕ) → length (pairs s) ≡ length s / 2
unfolding pairs
pairs-length [] = refl
pairs-length (high ∷ []) = refl
pairs-length (high ∷ low ∷ s) = omega (arith, pairs-length s)

pairs_at : (s : List ℕ) (p : ℕ) → 2 * p + 1 < length s → grey (pairs s) p ≡ 256 * grey s (2 * p) + grey s (2 * p + 1)
unfolding pairs
pairs_at [] p l = absurd (omega arith)
pairs_at (high ∷ []) p l = absurd (omega arith)
pairs_at (high ∷ low ∷ s) zero l = refl
pairs_at (high ∷ low ∷ s) (suc p) l =
    let e : 2 * suc p ≡ suc (suc (2 * p)) = omega arith in
    let e' : 2 * suc p + 1 ≡ suc (suc (2 * p + 1)) = omega arith in
    rw (e', e) (pairs_at s p (omega arith))

-- ---- one byte a pixel, or two

-- a pixel has one byte or two
pub one_or_two : (M : ℕ) → (pixel_bytes M ≡ 1) ⊎ (pixel_bytes M ≡ 2)
one_or_two M = go (leb M byte_greatest) refl
  where
    go : (b : Bool) → leb M byte_greatest ≡ b → (pixel_bytes M ≡ 1) ⊎ (pixel_bytes M ≡ 2)
    go true e = inl (rw e)
    go false e = inr (rw e)

-- where it has one the greatest grey is a byte
pub one_low : (M : ℕ) → pixel_bytes M ≡ 1 → M ≤ byte_greatest
one_low M e = go (leb M byte_greatest) refl
  where
    go : (b : Bool) → leb M byte_greatest ≡ b → M ≤ byte_greatest
    go true t = leb-true M byte_greatest t
    go false t = absurd (let two : 2 ≡ 1 = rw t at e in omega (arith, two))

pub bytes-some : (M : ℕ) → 0 < pixel_bytes M
bytes-some M = elim (one_or_two M) [
  | inl e ↦ omega (arith, e)
  | inr e ↦ omega (arith, e)
]

pub bytes_least : (M n : ℕ) → n ≤ pixel_bytes M * n
bytes_least M n = elim (one_or_two M) [
  | inl e ↦ rw e (omega arith)
  | inr e ↦ rw e (omega arith)
]

pub bytes_most : (M n : ℕ) → pixel_bytes M * n ≤ 2 * n
bytes_most M n = elim (one_or_two M) [
  | inl e ↦ rw e (omega arith)
  | inr e ↦ rw e (omega arith)
]

-- the pixels of a plate within the grid are few
pub few_pixels : (w h : ℕ) → grid_fits w h ≡ true → w * h ≤ max_pixels
few_pixels w h e = (grid_sizes w h e).few_pixels

module _ (M : ℕ) (raster : List ℕ) where
  pub one_byte : pixel_bytes M ≡ 1 → greys_of M raster ≡ raster
  unfolding greys_of
  one_byte e = rw e

  pub two_bytes : pixel_bytes M ≡ 2 → greys_of M raster ≡ pairs raster
  unfolding greys_of
  two_bytes e = rw e

  pub greys_count : length (greys_of M raster) ≡ length raster / pixel_bytes M
  greys_count = elim (one_or_two M) [
    | inl e ↦ rw (one_byte e, e) (omega arith)
    | inr e ↦ rw (two_bytes e, e) (pairs-length raster)
  ]

  pub greys_long : (n : ℕ) → length raster ≡ pixel_bytes M * n → length (greys_of M raster) ≡ n
  greys_long n long = elim (one_or_two M) [
    | inl e ↦ (let long' : length raster ≡ 1 * n = rw e at long in rw (one_byte e) (omega arith))
    | inr e ↦ (let long' : length raster ≡ 2 * n = rw e at long in rw (two_bytes e) (omega (arith, pairs-length raster)))
  ]

  -- the grey of pixel p, where b is how many bytes a pixel has
  module _ {p b : ℕ} (is : b ≡ pixel_bytes M) (l : p < length (greys_of M raster)) where
    module _ (one : b ≡ 1) where
      pub byte_within : p < length raster
      byte_within = omega (arith, l, ap length (one_byte (sym is ∙ one)))

      pub byte_grey : grey raster p ≡ grey (greys_of M raster) p
      byte_grey = rw (one_byte (sym is ∙ one))

    module _ (more : b ≡ 1 → ⊥) where
      two : pixel_bytes M ≡ 2
      two = elim (one_or_two M) [
        | inl e ↦ absurd (more (is ∙ e))
        | inr e ↦ e
      ]

      pub pair_within : 2 * p + 1 < length raster
      pair_within = omega (arith, l, ap length (two_bytes two), pairs-length raster)

      pub pair_grey : 256 * grey raster (2 * p) + grey raster (2 * p + 1) ≡ grey (greys_of M raster) p
      pair_grey = rw (two_bytes two) (sym (pairs_at raster p pair_within))

-- ---- 28

-- where a search over the pixels finds one above the greatest
pub above_is : (M : ℕ) (f : List ℕ) (n : ℕ) → n ≡ length f → (r : Bool)
    → MatchBool r ((k : ℕ) × (k < length (range_with_len 0 n)) × HoldsAt (λ p. M < grey f p) (range_with_len 0 n) k)
    (AllWithin (λ p. grey f p ≤ M) (range_with_len 0 n) 0 (length (range_with_len 0 n)))
    → r ≡ any_above M f
above_is M f n long true (k, l, high) =
    let l' : k < n = omega (arith, length-range_with_len 0 n) in
    sym (above_met M f k (omega arith) (rw (get_or-range_with_len 0 n k 0 l', zero-add) at (high 0)))
above_is M f n long false low =
    sym (above_none M f (λ p l. let l' : p < n = omega arith in
    rw (get_or-range_with_len 0 n p 0 l', zero-add) at (low p 0 (omega arith) (omega (arith, length-range_with_len 0 n)))))
