-- What the program sizelist prints for a file, as bytes: SPECIFICATION 7.
use Rattle.std.specs.Prelude.{List, ℕ, eqb, ltb, length}
use Rattle.meaning.specs.Sets.{pick}
use Rattle.pgm.specs.File.{plate_of, read_pgm}
use Rattle.pgm.specs.declared.PgmRead.{PgmRead}
use Rattle.text_plate.specs.Text.{most_pixels, plate_text, refused_text}

-- the longest input, in bytes
abbrev pub input_bytes : ℕ
input_bytes = 4096

-- what reading the plate file answered, and the plate: its refusal, or the plate's text
abbrev pub answer_text : PgmRead → List ℕ → List ℕ
answer_text read f = pick (eqb read.refusal 0) (plate_text read.width read.height read.greatest f) (refused_text read.refusal)

-- the text of a file. An input that is too long is refused before any parsing; a plate of more pixels is refusal 5 of reading it
unfoldable pub size_text : List ℕ → List ℕ
unfolding read_pgm plate_of plate_text refused_text
size_text file = pick (ltb input_bytes (length file)) (refused_text 6) (answer_text (read_pgm file most_pixels) (plate_of file))
