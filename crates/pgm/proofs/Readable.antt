-- What is known of a plate where nothing is refused after a sound header.
use mathlib.Core.Path.{◌≡◌}
use mathlib.Core.Bool.{true, not}
use mathlib.Core.List.{List}
use Prim.Native.Nat.{ℕ, ◌*◌, ◌≤◌, ◌<◌}
use native.Mathlib.Omega.{arith}
use borrow.Author.Tests.{le-ltb, ltb-false, not-false}
use lib.Dec.{ltb}
use lib.ListN.{length}
use Rattle.meaning.specs.Plate.{grid_fits, greatest_fits, grey}
use Rattle.meaning.specs.Answers.{any_above}
use Rattle.plate_refusals.proofs.Refusals.{Chain, above_none, chained, decided, none_above, one, out_none, refuse-none}
use Rattle.refusals.specs.Numbers.{number_of}
use Rattle.refusals.specs.declared.Refusal.{Refusal}
use Rattle.refusals.proofs.Numbers.{number_nonzero}
use Rattle.pgm.specs.File.{greys_of, raster_bytes, raster_refusal, short_refusal}
use Rattle.pgm.proofs.Raster.{greys_long}

-- ---- 2, 12 and 14

-- the sizes and the greatest grey are those of a plate, whose raster is there whole
pub record Whole (w h M follow : ℕ) : Type 0 where
  pub sizes : grid_fits w h ≡ true
  pub range : greatest_fits M ≡ true
  pub enough : raster_bytes w h M ≤ follow

module _ (w h M follow : ℕ) where
  pub short_chain : Chain (short_refusal w h M follow)
  short_chain =
      chained (one (not (grid_fits w h)) 2 (omega arith))
      (chained (one (not (greatest_fits M)) 12 (omega arith)) (one (ltb follow (raster_bytes w h M)) 14 (omega arith)))

  -- what none of them refuses
  pub short_none : (later : ℕ) → short_refusal w h M follow later ≡ 0 → Whole w h M follow × (later ≡ 0)
  short_none later e =
      let (grid, e₁) = refuse-none (not (grid_fits w h)) 2 _ (omega arith) e in
      let (range, e₂) = refuse-none (not (greatest_fits M)) 12 _ (omega arith) e₁ in
      let (enough, e₃) = refuse-none (ltb follow (raster_bytes w h M)) 14 later (omega arith) e₂ in (
        record {
          sizes = not-false (grid_fits w h) grid;
          range = not-false (greatest_fits M) range;
          enough = ltb-false follow (raster_bytes w h M) enough;
        },
        e₃,
      )

  -- none of them is met, and the later conditions decide
  pub whole_passes : Whole w h M follow → (later : ℕ) → short_refusal w h M follow later ≡ later
  whole_passes k later = rw (k.sizes, k.range, le-ltb follow (raster_bytes w h M) k.enough)

-- ---- all

-- f is a plate of width w, height h and greatest grey M, and fits an output of length `room`
pub record Readable (w h M : ℕ) (f : List ℕ) (room : ℕ) : Type 0 where
  pub sizes : grid_fits w h ≡ true
  pub range : greatest_fits M ≡ true
  pub long : length f ≡ w * h
  pub greys : (p : ℕ) → p < length f → grey f p ≤ M
  pub fits : w * h ≤ room

-- where nothing is refused the raster has its bytes, and its greys are a plate
raster_passed : (w h M : ℕ) (raster : List ℕ) (room : ℕ) → raster_refusal w h M raster room ≡ 0
    → (length raster ≡ raster_bytes w h M) × Readable w h M (greys_of M raster) room
unfolding raster_refusal
raster_passed w h M raster room e =
    let needed = raster_bytes w h M in
    let (whole, e₁) = short_none w h M (length raster) _ e in
    let (all, e₂) = refuse-none (ltb needed (length raster)) 15 _ (omega arith) e₁ in
    let (low, e₃) = refuse-none (any_above M (greys_of M raster)) 28 _ (omega arith) e₂ in
    let long : length raster ≡ needed = omega (arith, whole.enough, ltb-false needed (length raster) all) in (
      long,
      record {
        sizes = whole.sizes;
        range = whole.range;
        long = greys_long M raster (w * h) long;
        greys = none_above M (greys_of M raster) low;
        fits = (out_none (w * h) room 0 e₃).0;
      },
    )

module _ (w h M : ℕ) (raster : List ℕ) (room : ℕ) (e : raster_refusal w h M raster room ≡ 0) where
  pub raster_long : length raster ≡ raster_bytes w h M
  raster_long = (raster_passed w h M raster room e).0

  pub raster_none : Readable w h M (greys_of M raster) room
  raster_none = (raster_passed w h M raster room e).1

-- 2, 12 or 14 stays
pub raster_short : (w h M : ℕ) (raster : List ℕ) (room : ℕ) {n : ℕ} → n ≡ short_refusal w h M (length raster) 0 → (n ≡ 0 → ⊥)
    → n ≡ raster_refusal w h M raster room
unfolding raster_refusal
raster_short w h M raster room is x = decided (short_chain w h M (length raster)) is x _

pub raster_stopped : (w h M : ℕ) (raster : List ℕ) (room : ℕ) (r : Refusal) → number_of r ≡ short_refusal w h M (length raster) 0
    → number_of r ≡ raster_refusal w h M raster room
raster_stopped w h M raster room r is = raster_short w h M raster room is (number_nonzero r)

-- and nothing is refused where that holds
pub raster_read : (w h M : ℕ) (raster : List ℕ) (room : ℕ) → length raster ≡ raster_bytes w h M → Readable w h M (greys_of M raster) room
    → raster_refusal w h M raster room ≡ 0
unfolding raster_refusal
raster_read w h M raster room long r =
    let needed = raster_bytes w h M in
    rw (
      r.sizes,
      r.range,
      le-ltb (length raster) needed (omega (arith, long)),
      le-ltb needed (length raster) (omega (arith, long)),
      above_none M (greys_of M raster) r.greys,
      le-ltb room (w * h) r.fits,
    )
