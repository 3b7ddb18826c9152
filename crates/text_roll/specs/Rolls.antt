-- The text of a roll, as a claim over all inputs: each listed plate has the text, and so the counts, losses and held, that it has if sent by itself.
use Rattle.std.specs.Prelude.{◌≡◌, List, [], map, ℕ, ◌≤◌, length}
use Rattle.pgm_roll.specs.Roll.{Image, largest, plates, roll}
use Rattle.pgm_roll.specs.Rolls.{ReadEach, joined}
use Rattle.text_plate.specs.Text.{most_pixels}
use Rattle.text_roll.specs.Text.{image_text, input_bytes, size_text}

-- the input is plate files one after the other, and its text is theirs one after the other
pub record TextsAlone (file : List ℕ) (ps : List Image) : Type 0 where
  pub files : List (List ℕ)
  pub make_up : file ≡ joined files
  -- each alone is read as its plate, and has its text
  pub each : ReadEach files ps
  pub alone : map size_text files ≡ map image_text ps
  pub text : size_text file ≡ joined (map size_text files)

pub record SizeTextClaim : Type 0 where
  -- nothing is printed for the empty roll
  pub none : size_text [] ≡ []
  -- an input that is not too long, whose plates are sound and not too large
  pub listed : (file : List ℕ) (ps : List Image) → length file ≤ input_bytes → roll file ≡ plates ps → largest ps ≤ most_pixels → TextsAlone file ps
