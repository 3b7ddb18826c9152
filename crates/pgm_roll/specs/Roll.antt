-- A roll, plate files one after the other (SPECIFICATION 5), and what the operations on rolls answer (9). w: width, h: height, M: greatest grey.
use Rattle.std.specs.Prelude.{List, [], ◌∷◌, ◌++◌, ℕ, zero, suc, ◌-◌, ◌*◌, max, eqb, leb, drop, get_or, length, take, Result, Ok, Err}
use Rattle.meaning.specs.Sets.{pick}
use Rattle.meaning.specs.Plate.{grid_fits, greatest_fits}
use Rattle.meaning.specs.Answers.{any_above, greys_refusal, out_refusal, refuse}
use Rattle.pgm_header.specs.Grammar.{ParsedHeader, sound, faulty, header}
use Rattle.pgm.specs.File.{greys_of, raster_bytes, short_refusal, sizes_read}
use Rattle.pgm.specs.declared.PgmRead.{PgmRead}
use Rattle.refusals.specs.Numbers.{number_of}
use Rattle.refusals.specs.declared.Refusal.{Refusal}
use Rattle.pgm_roll.specs.declared.FoundPlate.{FoundPlate}
use Rattle.pgm_roll.specs.declared.PlateAt.{PlateAt}
use Rattle.pgm_roll.specs.declared.RollCount.{RollCount}

-- a plate with its sizes and its greatest grey
pub record Image : Type 0 where
  pub width : ℕ
  pub height : ℕ
  pub greatest : ℕ
  pub greys : List ℕ

abbrev pub pixels : Image → ℕ
pixels p = p.width * p.height

-- ---- the plate at the front of some bytes

-- a plate, with the bytes after its raster; or a fault, with its number
pub data FirstPlate : Type 0 where
  plate_then : (plate : Image) → (after : List ℕ) → FirstPlate
  fault : (number : ℕ) → FirstPlate

-- after a sound header, which the bytes s follow: 2, 12, 14, then 28 of the raster. What stands after the raster is not looked at, so 15 is not met
unfoldable pub raster_fault : ℕ → ℕ → ℕ → List ℕ → ℕ
unfolding grid_fits greatest_fits greys_of any_above
raster_fault w h M s = short_refusal w h M (length s) (greys_refusal M (greys_of M (take (raster_bytes w h M) s)) 0)

abbrev pub sound_plate : ℕ → ℕ → ℕ → List ℕ → FirstPlate
sound_plate w h M s =
    plate_then (record { width = w; height = h; greatest = M; greys = greys_of M (take (raster_bytes w h M) s) }) (drop (raster_bytes w h M) s)

abbrev pub after_header : ParsedHeader → FirstPlate
after_header (sound w h M s) = pick (eqb (raster_fault w h M s) 0) (sound_plate w h M s) (fault (raster_fault w h M s))
after_header (faulty n) = fault n

unfoldable pub first_plate : List ℕ → FirstPlate
unfolding header raster_fault
first_plate s = after_header (header s)

-- ---- the roll

-- its plates, or the number of the first fault
pub data Roll : Type 0 where
  plates : List Image → Roll
  refused : (number : ℕ) → Roll

-- a roll with plates in front of it
abbrev pub before : List Image → Roll → Roll
before ps (plates qs) = plates (ps ++ qs)
before ps (refused n) = refused n

-- what goes on after a plate
abbrev pub on_plate : FirstPlate → (List ℕ → Roll) → Roll
on_plate (plate_then p after) next = before (p ∷ []) (next after)
on_plate (fault n) next = refused n

-- plates one after the other, at most so many; no bytes are a roll of none
unfoldable pub roll_up_to : ℕ → List ℕ → Roll
unfolding first_plate
roll_up_to zero s = plates []
roll_up_to (suc most) s = pick (eqb (length s) 0) (plates []) (on_plate (first_plate s) (λ after. roll_up_to most after))

-- a roll: it has no more plates than bytes, since each has a byte
unfoldable pub roll : List ℕ → Roll
unfolding roll_up_to
roll s = roll_up_to (length s) s

-- ---- the answers

-- the number of plates: a refusal, or the count
abbrev pub count_of : Roll → RollCount
count_of (plates ps) = record { refusal = 0; count = length ps }
count_of (refused n) = record { refusal = n; count = 0 }

-- what an answer says: the count, or the refusal
abbrev pub count_answer : Result ℕ Refusal → RollCount
count_answer (Ok n) = record { refusal = 0; count = n }
count_answer (Err r) = record { refusal = number_of r; count = 0 }

-- its plates; none where it is refused
abbrev pub plates_of : Roll → List Image
plates_of (plates ps) = ps
plates_of (refused n) = []

-- the plate of a number, counted from 0; one of nothing where the number is not below the count
abbrev pub no_image : Image
no_image = record { width = 0; height = 0; greatest = 0; greys = [] }

abbrev pub numbered : Roll → ℕ → Image
numbered r number = get_or (plates_of r) number no_image

-- the first fault; 25 the number is not below the count; 5 output shorter than the plate. `room` is the output's length
abbrev pub number_refusal : Roll → ℕ → ℕ → ℕ
number_refusal (plates ps) number room = refuse (leb (length ps) number) 25 (out_refusal (pixels (get_or ps number no_image)) room 0)
number_refusal (refused n) number room = n

-- the plate of a number: a refusal, or its sizes and greatest grey
abbrev pub plate_read : Roll → ℕ → ℕ → PgmRead
plate_read r number room =
    let p = numbered r number in
    sizes_read (number_refusal r number room) p.width p.height p.greatest

-- ---- the plate that begins at a place

abbrev pub refused_at : ℕ → PlateAt
refused_at n = record { refusal = n; width = 0; height = 0; greatest = 0; raster = 0; end = 0 }

-- what an answer says: where the plate stands, or the refusal
abbrev pub place_answer : Result FoundPlate Refusal → PlateAt
place_answer (Ok p) =
    record { refusal = 0; width = p.head.width; height = p.head.height; greatest = p.head.greatest; raster = p.raster; end = p.end }
place_answer (Err r) = refused_at (number_of r)

-- a refusal, or its sizes, its greatest grey and the places where its raster begins and ends in a file of so many bytes
abbrev pub place_of : ℕ → FirstPlate → PlateAt
place_of long (plate_then p after) =
    let end = long - length after in
    record {
      refusal = 0;
      width = p.width;
      height = p.height;
      greatest = p.greatest;
      raster = end - raster_bytes p.width p.height p.greatest;
      end = end;
    }
place_of long (fault n) = refused_at n

unfoldable pub plate_at : List ℕ → ℕ → PlateAt
unfolding first_plate
plate_at file at = place_of (length file) (first_plate (drop at file))

-- ---- its largest plate

-- the pixels of the largest; 0 where there is none
unfoldable pub largest : List Image → ℕ
largest [] = 0
largest (p ∷ ps) = max (pixels p) (largest ps)
