-- What the program sizelist prints for a plate and for a refusal, as bytes: SPECIFICATION 7.
use Rattle.std.specs.Prelude.{List, [], ◌∷◌, ◌++◌, ℕ, suc, ◌-◌, ltb, length}
use Rattle.meaning.specs.Cut.{counts, darkest, held, losses}
use Rattle.meaning.specs.Ink.{ink_of}
use Rattle.meaning.specs.Nodes.{nodes_of}
use Rattle.meaning.specs.Sets.{gather, nth, pick}
use Rattle.pgm.specs.Text.{bytes}
use Rattle.text_lines.specs.Lines.{decimal, line}

-- the most pixels of a plate, and the connectivity that it uses
abbrev pub most_pixels : ℕ
most_pixels = 1024

abbrev pub four : ℕ
four = 4

-- a refusal: "refused" and the number
unfoldable pub refused_text : ℕ → List ℕ
unfolding bytes line
refused_text number = line (bytes "refused") (number ∷ [])

-- "size", width, height, connectivity, node count
unfoldable pub head_line : ℕ → ℕ → ℕ → ℕ → List ℕ
unfolding bytes line
head_line w h k nodes = line (bytes "size") (w ∷ h ∷ k ∷ nodes ∷ [])

-- the line of an area, where its count is above zero: area, count, grey lost
unfoldable pub area_line : ℕ → ℕ → ℕ → List ℕ
unfolding decimal line
area_line a count lost = pick (ltb 0 count) (line (decimal a) (count ∷ lost ∷ [])) []

-- that of area i + 1, whose count and loss stand at the place i of the tables
abbrev pub size_line : List ℕ → List ℕ → ℕ → List ℕ
size_line counted lost i = area_line (suc i) (nth counted i) (nth lost i)

-- "held", the grey held on the trim edge
unfoldable pub held_line : ℕ → List ℕ
unfolding bytes line
held_line held = line (bytes "held") (held ∷ [])

-- "rest", darkest grey, its ink percentage; M: the plate's greatest grey
unfoldable pub rest_line : ℕ → ℕ → List ℕ
unfolding bytes line ink_of
rest_line M grey = line (bytes "rest") (grey ∷ ink_of M grey ∷ [])

-- a plate of width w, height h and greatest grey M: one line for each area from 1 to pixels - 1, rising, between the first line and the last two
unfoldable pub plate_text : ℕ → ℕ → ℕ → List ℕ → List ℕ
unfolding head_line area_line held_line rest_line gather nodes_of counts losses held darkest
plate_text w h M f =
    ((head_line w h four (length (nodes_of four w f)) ++ gather (length f - 1) (size_line (counts four w h f) (losses four w h f)))
    ++ held_line (held four w h f))
    ++ rest_line M (darkest f)
