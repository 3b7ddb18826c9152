-- The raster of a plate and the greys of a raster are each other's inverse, where the raster is made of bytes.
use mathlib.Core.Path.{◌≡◌, refl}
use mathlib.Core.List.{List, [], ◌∷◌, ◌++◌}
use mathlib.Core.Logic.{inl, inr}
use Prim.Native.Nat.{ℕ, zero, suc, ◌+◌, ◌*◌, ◌/◌, ◌%◌, ◌≤◌, ◌<◌}
use native.Mathlib.Omega.{arith}
use lib.ListN.{get_or, length}
use Rattle.meaning.specs.Plate.{grey, max_greatest}
use Rattle.pgm_header.proofs.Digits.{digit_range}
use Rattle.pgm.specs.File.{greys_of, pairs, pixel_bytes}
use Rattle.pgm.proofs.Raster.{one_byte, one_low, one_or_two, two_bytes}
use Rattle.pgm_write.specs.Writing.{byte_pairs, raster_of}
use Rattle.pgm_write.proofs.Rasters.{raster_one, raster_two}
use Rattle.pgm_roundtrip.specs.PlateFiles.{Bytes, IsByte}
use Rattle.pgm_roundtrip.proofs.Numerals.{AllDigits, digits-split}

-- ---- lists of bytes

bytes-none : Bytes []
bytes-none = record { small = λ i l. absurd (omega arith) }

pub bytes_cons : {b : ℕ} {s : List ℕ} → IsByte b → Bytes s → Bytes (b ∷ s)
bytes_cons {b} {s} l e = record { small = at }
  where
    at : (i : ℕ) → i < length (b ∷ s) → IsByte (get_or (b ∷ s) i 0)
    at zero h = l
    at (suc i) h = e.small i (omega arith)

-- those after the first, and after some
pub bytes_rest : {b : ℕ} {s : List ℕ} → Bytes (b ∷ s) → Bytes s
bytes_rest e = record { small = λ i h. e.small (suc i) (omega arith) }

pub bytes_after : (a : List ℕ) {s : List ℕ} → Bytes (a ++ s) → Bytes s
bytes_after [] e = e
bytes_after (b ∷ a) e = bytes_after a (bytes_rest e)

pub bytes_append : (a : List ℕ) {s : List ℕ} → Bytes a → Bytes s → Bytes (a ++ s)
bytes_append [] x y = y
bytes_append (b ∷ a) x y = bytes_cons (x.small 0 (omega arith)) (bytes_append a (bytes_rest x) y)

pub digits-bytes : (s : List ℕ) → AllDigits s → Bytes s
digits-bytes [] e = bytes-none
digits-bytes (b ∷ s) e =
    let (d, rest) = digits-split b s e in
    bytes_cons (let (low, high) = digit_range b d in omega arith) (digits-bytes s rest)

-- ---- from the plate

pairs_back : (f : List ℕ) → pairs (byte_pairs f) ≡ f
unfolding pairs byte_pairs
pairs_back [] = refl
pairs_back (g ∷ f) =
    let e : 256 * (g / 256) + g % 256 ≡ g = omega arith in
    rw (e, pairs_back f)

pub raster_back : (M : ℕ) (f : List ℕ) → greys_of M (raster_of M f) ≡ f
raster_back M f = elim (one_or_two M) [
  | inl e ↦ rw (raster_one M f e) (one_byte M f e)
  | inr e ↦ rw (raster_two M f e, two_bytes M (byte_pairs f) e) (pairs_back f)
]

-- it is made of bytes
pairs-bytes : (f : List ℕ) → ((p : ℕ) → p < length f → grey f p ≤ max_greatest) → Bytes (byte_pairs f)
unfolding byte_pairs
pairs-bytes [] low = bytes-none
pairs-bytes (g ∷ f) low =
    let h = low 0 (omega arith) in
    bytes_cons (omega arith) (bytes_cons (omega arith) (pairs-bytes f (λ p l. low (suc p) (omega arith))))

pub raster_made : (M : ℕ) (f : List ℕ) → M ≤ max_greatest → ((p : ℕ) → p < length f → grey f p ≤ M) → Bytes (raster_of M f)
raster_made M f most low = elim (one_or_two M) [
  | inl e ↦ rw (raster_one M f e) (record { small = λ p l. omega (arith, low p l, one_low M e) })
  | inr e ↦ rw (raster_two M f e) (pairs-bytes f (λ p l. omega (arith, low p l)))
]

-- ---- from the raster

pairs_there : (n : ℕ) (raster : List ℕ) → length raster ≡ 2 * n → Bytes raster → byte_pairs (pairs raster) ≡ raster
unfolding pairs byte_pairs
pairs_there n [] long bytes = refl
pairs_there n (high ∷ []) long bytes = absurd (omega arith)
pairs_there zero (high ∷ low ∷ s) long bytes = absurd (omega arith)
pairs_there (suc n) (high ∷ low ∷ s) long bytes =
    let l : IsByte low = bytes.small 1 (omega arith) in
    let e : (256 * high + low) / 256 ≡ high = omega arith in
    let e' : (256 * high + low) % 256 ≡ low = omega arith in
    rw (e, e', pairs_there n s (omega arith) (bytes_rest (bytes_rest bytes)))

pub raster_there : (M n : ℕ) (raster : List ℕ) → length raster ≡ pixel_bytes M * n → Bytes raster → raster_of M (greys_of M raster) ≡ raster
raster_there M n raster long bytes = elim (one_or_two M) [
  | inl e ↦ rw (one_byte M raster e) (raster_one M raster e)
  | inr e ↦ rw (two_bytes M raster e, raster_two M (pairs raster) e) (pairs_there n raster (rw e at long) bytes)
]
