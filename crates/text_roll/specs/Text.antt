-- What the program sizelist prints for a file, as bytes: SPECIFICATION 7.
use Rattle.std.specs.Prelude.{List, [], ◌∷◌, ◌++◌, ℕ, ltb, length}
use Rattle.meaning.specs.Sets.{pick}
use Rattle.pgm_roll.specs.Roll.{Image, Roll, largest, plates, refused, roll}
use Rattle.text_plate.specs.Text.{most_pixels, plate_text, refused_text}

-- the longest input, in bytes
abbrev pub input_bytes : ℕ
input_bytes = 4096

-- a plate, and plates one after the other
abbrev pub image_text : Image → List ℕ
image_text p = plate_text p.width p.height p.greatest p.greys

unfoldable pub plates_text : List Image → List ℕ
unfolding plate_text
plates_text [] = []
plates_text (p ∷ ps) = image_text p ++ plates_text ps

-- a roll: its refusal; 5 where a plate has more pixels; the texts of its plates
abbrev pub roll_text : Roll → List ℕ
roll_text (plates ps) = pick (ltb most_pixels (largest ps)) (refused_text 5) (plates_text ps)
roll_text (refused n) = refused_text n

-- the text of a file. An input that is too long is refused before any parsing
unfoldable pub size_text : List ℕ → List ℕ
unfolding roll largest plates_text refused_text
size_text file = pick (ltb input_bytes (length file)) (refused_text 6) (roll_text (roll file))
