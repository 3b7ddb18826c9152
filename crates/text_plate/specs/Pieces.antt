-- What the function that makes the text of a plate is given.
use Rattle.std.specs.Prelude.{List, ℕ, ◌+◌, ◌*◌, ◌≤◌, length}
use Rattle.meaning.specs.Plate.{Plate}
use Rattle.text_plate.specs.Text.{four, most_pixels}

-- as many bytes as the text of a plate may have, by its pixels: 89 for the first line, 63 for each area, 26 and 47 for the last two
abbrev pub plate_bytes : ℕ → ℕ
plate_bytes n = 99 + 63 * n

-- an accepted plate of no more pixels, and the place `at` of a text from which on its text has room
pub record SmallPlate (w h M : ℕ) (f text : List ℕ) (at : ℕ) : Type 0 where
  pub plate : Plate four w h M f
  pub small : length f ≤ most_pixels
  pub room : at + plate_bytes (length f) ≤ length text
