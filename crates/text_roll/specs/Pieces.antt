-- What the functions that make the text are given and leave.
use Rattle.std.specs.Prelude.{◌≡◌, List, ℕ, ◌*◌, ◌≤◌, length}
use Rattle.meaning.specs.Answers.{over}
use Rattle.pgm_roll.specs.Roll.{largest, plates, plates_of, roll}
use Rattle.pgm_roll.specs.Scan.{greys_at}
use Rattle.pgm_roll.specs.declared.PlateAt.{PlateAt}
use Rattle.text_lines.specs.Pieces.{HasRoom}
use Rattle.text_lines.specs.declared.Text.{Text}
use Rattle.text_plate.specs.Text.{most_pixels}
use Rattle.text_plate.specs.Pieces.{SmallPlate}

-- the bytes that the longest text needs, and more
abbrev pub text_places : ℕ
text_places = 262144

-- an accepted plate of at most 1,024 pixels stands in the file where c says
pub record SmallPlace (file : List ℕ) (c : PlateAt) (text : List ℕ) (at : ℕ) : Type 0 where
  pub from : c.raster ≤ c.end
  pub till : c.end ≤ length file
  pub small : SmallPlate c.width c.height c.greatest (greys_at file c) text at

-- a sound roll of such plates, and a text with room for theirs
pub record SmallRoll (file : List ℕ) (text : Text) : Type 0 where
  pub sound : roll file ≡ plates (plates_of (roll file))
  pub small : largest (plates_of (roll file)) ≤ most_pixels
  pub room : HasRoom text (63 * length file)

-- the whole text was made: its length, and the excess untouched
pub record Made (answer text text' : List ℕ) (r : ℕ) : Type 0 where
  pub long : r ≡ length answer
  pub output : text' ≡ over answer text
