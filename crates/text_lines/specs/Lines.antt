-- Decimal numbers, and a line of text: its first field, each further field after one space, and LF. A text is a list of bytes.
use Rattle.std.specs.Prelude.{◌≡◌, true, false, List, [], ◌∷◌, ◌++◌, ℕ, zero, suc, ◌+◌, ◌/◌, ◌%◌, ◌≤◌, ltb, length}
use Rattle.std.proofs.lemmas.List.Edits.{sets}

-- the byte of a digit
abbrev pub digit : ℕ → ℕ
digit d = 48 + d

-- the digits of v, the most significant first, none in front of it; at most k of them
unfoldable pub digits : ℕ → ℕ → List ℕ
digits zero v = []
digits (suc k) v = elim (ltb v 10) [ true ↦ digit v ∷ [] | false ↦ digits k (v / 10) ++ (digit (v % 10) ∷ []) ]

-- a number in decimal: it has fewer digits than it has units, and 0 has one
unfoldable pub decimal : ℕ → List ℕ
unfolding digits
decimal v = digits (suc v) v

-- a further field of a line: a space and a number
abbrev pub field : ℕ → List ℕ
field v = 32 ∷ decimal v

unfoldable pub further : List ℕ → List ℕ
unfolding decimal
further [] = []
further (v ∷ vs) = field v ++ further vs

-- a line: its first field, the numbers after it, LF
unfoldable pub line : List ℕ → List ℕ → List ℕ
unfolding further
line first numbers = (first ++ further numbers) ++ (10 ∷ [])

-- bytes were put into a text from the place `at` on: what stands there now, and the place after them, which is no further than the end
pub record PutText (text : List ℕ) (at : ℕ) (bytes text' : List ℕ) (next : ℕ) : Type 0 where
  pub after : next ≡ at + length bytes
  pub room : next ≤ length text
  pub stored : text' ≡ sets text at bytes
