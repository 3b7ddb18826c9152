-- What the functions that make the text are given and leave.
use Rattle.std.specs.Prelude.{◌≡◌, List, ℕ, length}
use Rattle.meaning.specs.Answers.{over}

-- the bytes that the longest text needs, and more
abbrev pub text_places : ℕ
text_places = 65536

-- the whole text was made: its length, and the excess untouched
pub record Made (answer text text' : List ℕ) (r : ℕ) : Type 0 where
  pub long : r ≡ length answer
  pub output : text' ≡ over answer text
