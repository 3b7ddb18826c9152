-- What reading a plate file answers: the refusals of SPECIFICATION 9 in their order, and the plate. 10 and 11 are the header's faults.
use Rattle.std.specs.Prelude.{◌≡◌, not, List, [], ◌∷◌, ℕ, ◌+◌, ◌*◌, eqb, leb, ltb, length, Result, Ok, Err}
use Rattle.meaning.specs.Sets.{pick}
use Rattle.meaning.specs.Plate.{byte_greatest, grid_fits, greatest_fits}
use Rattle.meaning.specs.Answers.{refuse, any_above, greys_refusal, out_refusal, out_after}
use Rattle.pgm_header.specs.Grammar.{ParsedHeader, sound, faulty, header}
use Rattle.refusals.specs.Numbers.{number_of}
use Rattle.refusals.specs.declared.Refusal.{Refusal}
use Rattle.pgm_header.specs.declared.Header.{Header}
use Rattle.pgm.specs.declared.PgmHead.{PgmHead}
use Rattle.pgm.specs.declared.PgmRead.{PgmRead}

-- ---- the raster. M: the greatest grey, the header's third number

-- how many bytes a pixel has: one where the greatest grey is a byte, else two
abbrev pub pixel_bytes : ℕ → ℕ
pixel_bytes M = pick (leb M byte_greatest) 1 2

-- two bytes a pixel, the high byte first; a last byte without a second is no pixel
unfoldable pub pairs : List ℕ → List ℕ
pairs [] = []
pairs (high ∷ []) = []
pairs (high ∷ low ∷ s) = (256 * high + low) ∷ pairs s

-- the greys of a raster: its bytes, or its pairs of bytes
unfoldable pub greys_of : ℕ → List ℕ → List ℕ
unfolding pairs
greys_of M raster = pick (eqb (pixel_bytes M) 1) raster (pairs raster)

-- how many bytes the raster of a plate of width w and height h has
abbrev pub raster_bytes : ℕ → ℕ → ℕ → ℕ
raster_bytes w h M = pixel_bytes M * (w * h)

-- ---- the answer

-- after a sound header that so many bytes follow: 2 sizes beyond the grid; 12 the greatest grey is 0 or above 65,535; 14 raster short
abbrev pub short_refusal : ℕ → ℕ → ℕ → ℕ → ℕ → ℕ
short_refusal w h M follow later =
    refuse (not (grid_fits w h)) 2 (refuse (not (greatest_fits M)) 12 (refuse (ltb follow (raster_bytes w h M)) 14 later))

-- after a sound header: 2 sizes beyond the grid; 12 the greatest grey is 0 or above 65,535; 14 raster short; 15 bytes left over; 28 a pixel above the
-- greatest grey; 5 output shorter than the pixels. `room` is the output's length
unfoldable pub raster_refusal : ℕ → ℕ → ℕ → List ℕ → ℕ → ℕ
unfolding grid_fits greatest_fits greys_of any_above
raster_refusal w h M raster room =
    refuse (not (grid_fits w h)) 2 (refuse (not (greatest_fits M)) 12
    (refuse (ltb (length raster) (pixel_bytes M * (w * h))) 14 (refuse (ltb (pixel_bytes M * (w * h)) (length raster)) 15
    (greys_refusal M (greys_of M raster) (out_refusal (w * h) room 0)))))

-- a refusal: its number, and zeros elsewhere
abbrev pub refused_read : ℕ → PgmRead
refused_read n = record { refusal = n; width = 0; height = 0; greatest = 0 }

-- a header without the place of its raster
abbrev pub head_of : Header → PgmHead
head_of h = record { width = h.width; height = h.height; greatest = h.greatest }

-- what an answer says: the sizes and the greatest grey, or the refusal
abbrev pub read_answer : Result PgmHead Refusal → PgmRead
read_answer (Ok h) = record { refusal = 0; width = h.width; height = h.height; greatest = h.greatest }
read_answer (Err r) = refused_read (number_of r)

-- a refusal where there is one, else the sizes and the greatest grey
abbrev pub sizes_read : ℕ → ℕ → ℕ → ℕ → PgmRead
sizes_read n w h M = pick (eqb n 0) (record { refusal = 0; width = w; height = h; greatest = M }) (refused_read n)

-- a plate is read after a sound header: the answer r, and the output afterwards
pub record ReadPlate (w h M : ℕ) (raster out : List ℕ) (r : PgmRead) (after : List ℕ) : Type 0 where
  pub answer : r ≡ sizes_read (raster_refusal w h M raster (length out)) w h M
  pub output : after ≡ out_after (raster_refusal w h M raster (length out)) (greys_of M raster) out

abbrev pub answer_of : ParsedHeader → ℕ → PgmRead
answer_of (sound w h M raster) room = sizes_read (raster_refusal w h M raster room) w h M
answer_of (faulty n) room = refused_read n

-- what reading the file answers, with an output of length `room`
unfoldable pub read_pgm : List ℕ → ℕ → PgmRead
unfolding header raster_refusal
read_pgm file room = answer_of (header file) room

abbrev pub plate_after : ParsedHeader → List ℕ
plate_after (sound w h M raster) = greys_of M raster
plate_after (faulty n) = []

-- the plate: the greys of the raster, the bytes after the header
unfoldable pub plate_of : List ℕ → List ℕ
unfolding header greys_of
plate_of file = plate_after (header file)
