-- The claim on test plates.
use Rattle.std.proofs.Common.{◌≡◌, ℕ, ◌+◌, ◌*◌, ◌<◌, ◌≤◌, true, List, length, drop, sym, refl, ap, ◌∙◌, mul_comm, add-one, arith, take_at, le-ltb}
use lib.Arith.{digits_lt}
use Rattle.meaning.specs.Plate.{Plate, byte_greatest, connectivity_fits, grey, grid_fits}
use Rattle.theory_connectivity.proofs.Sizes.{byte_range}
use Rattle.pgm_write.specs.Writing.{pgm_of}
use Rattle.pgm_roundtrip.specs.PlateFiles.{ReadsAs}
use Rattle.pgm_roundtrip.proofs.PlateFiles.{plate_files}
use Rattle.seeded_plates.specs.Sequence.{seeded_plate, seeded_refusal, top_eight}
use Rattle.seeded_plates.specs.SeededPlates.{SeededPlateClaim, written_file, generated, state_after}
use Rattle.seeded_plates.proofs.Sequence.{grey-is, greys_long, greys_low}

plate_long : (seed w h : ℕ) → length (seeded_plate seed w h) ≡ w * h
unfolding seeded_plate
plate_long seed w h = greys_long (w * h) seed

plate_is : (seed k w h : ℕ) → connectivity_fits k ≡ true → grid_fits w h ≡ true → Plate k w h byte_greatest (seeded_plate seed w h)
unfolding seeded_plate
plate_is seed k w h kind sizes = record {
  kind = kind;
  sizes = sizes;
  range = byte_range;
  long = plate_long seed w h;
  greys = λ p l. greys_low (w * h) seed p (omega (arith, l, plate_long seed w h));
}

-- a column and a row within the plate give a pixel of it
inside : (w h x y : ℕ) → x < w → y < h → y * w + x < w * h
inside w h x y l m = rw (mul_comm w h) (digits_lt m l)

pixel_is : (seed w h x y : ℕ) → x < w → y < h → grey (seeded_plate seed w h) (y * w + x) ≡ top_eight (state_after (y * w + x + 1) seed)
unfolding seeded_plate
pixel_is seed w h x y l m =
    grey-is (w * h) seed (y * w + x) (inside w h x y l m) ∙ ap (λ (n : ℕ). top_eight (state_after n seed)) (sym (add-one (y * w + x)))

module _ (seed w h : ℕ) (sizes : grid_fits w h ≡ true) where
  abbrev greys : List ℕ
  greys = seeded_plate seed w h

  plate : Plate 4 w h byte_greatest greys
  unfolding connectivity_fits
  plate = plate_is seed 4 w h refl sizes

  generated-is : (out : List ℕ) → w * h ≤ length out → generated seed w h out ≡ greys
  unfolding seeded_refusal
  generated-is out l = rw (sizes, le-ltb (length out) (w * h) l) (take_at greys (drop (length greys) out) (w * h) (plate_long seed w h))

  back_is : (out file : List ℕ) (room : ℕ) → w * h ≤ length out → length (pgm_of w h byte_greatest greys) ≤ length file → w * h ≤ room
      → ReadsAs w h byte_greatest (generated seed w h out) (written_file w h (generated seed w h out) file) room
  back_is out file room l m n =
      rw (generated-is out l, (plate_files.written 4 w h byte_greatest greys file plate m).1) (plate_files.back 4 w h byte_greatest greys room plate n)

pub seeded_plates : SeededPlateClaim
seeded_plates = record {
  pixel = pixel_is;
  plate = plate_is;
  back = λ seed w h out file room sizes l m n. (generated-is seed w h sizes out l, back_is seed w h sizes out file room l m n);
}
