-- The plate file of a plate (SPECIFICATION 5), and what writing it answers (9). w: width, h: height, M: greatest grey, f: the plate.
use Rattle.std.specs.Prelude.{List, [], ◌∷◌, ◌++◌, ℕ, ◌/◌, ◌%◌, eqb, length, Result, Ok, Err}
use Rattle.meaning.specs.Sets.{pick}
use Rattle.meaning.specs.Plate.{grid_fits, greatest_fits}
use Rattle.meaning.specs.Answers.{any_above, image_refusal, out_refusal}
use Rattle.text_lines.specs.Lines.{decimal, line}
use Rattle.pgm.specs.File.{pixel_bytes}
use Rattle.pgm.specs.Text.{bytes}
use Rattle.refusals.specs.Numbers.{number_of}
use Rattle.refusals.specs.declared.Refusal.{Refusal}
use Rattle.pgm_write.specs.declared.PgmWritten.{PgmWritten}

-- the header, three lines: "P5"; width and height; the greatest grey
unfoldable pub header_lines : ℕ → ℕ → ℕ → List ℕ
unfolding bytes decimal line
header_lines w h M = line (bytes "P5") [] ++ (line (decimal w) (h ∷ []) ++ line (decimal M) [])

-- two bytes a pixel, the high byte first
unfoldable pub byte_pairs : List ℕ → List ℕ
byte_pairs [] = []
byte_pairs (g ∷ f) = (g / 256) ∷ (g % 256) ∷ byte_pairs f

-- the raster: one byte a pixel, or two
unfoldable pub raster_of : ℕ → List ℕ → List ℕ
unfolding byte_pairs
raster_of M f = pick (eqb (pixel_bytes M) 1) f (byte_pairs f)

-- the plate file
unfoldable pub pgm_of : ℕ → ℕ → ℕ → List ℕ → List ℕ
unfolding header_lines raster_of
pgm_of w h M f = header_lines w h M ++ raster_of M f

-- 2, 29, 3, 28, then 5 when the output's length, `room`, is below the file's
unfoldable pub write_refusal : ℕ → ℕ → ℕ → List ℕ → ℕ → ℕ
unfolding grid_fits greatest_fits any_above pgm_of
write_refusal w h M f room = image_refusal w h M f (out_refusal (length (pgm_of w h M f)) room 0)

-- a refusal: its number, and zeros elsewhere
abbrev pub refused_write : ℕ → PgmWritten
refused_write n = record { refusal = n; length = 0 }

-- what an answer says: the file's length, or the refusal
abbrev pub write_answer : Result ℕ Refusal → PgmWritten
write_answer (Ok n) = record { refusal = 0; length = n }
write_answer (Err r) = refused_write (number_of r)

-- what writing the file answers: a refusal, or the file's length
unfoldable pub write_pgm : ℕ → ℕ → ℕ → List ℕ → ℕ → PgmWritten
unfolding write_refusal
write_pgm w h M f room =
    pick (eqb (write_refusal w h M f room) 0) (record { refusal = 0; length = length (pgm_of w h M f) }) (refused_write (write_refusal w h M f room))
