-- Directions: the neighbours of a pixel, numbered so that the connectivity is the number of directions. 0 to 3 are by an edge, 4 and 5 the upper
-- left and the lower right corner, 6 and 7 the other corners.
use Rattle.std.specs.Prelude.{◌≡◌, [], ◌∷◌, ℕ, ◌+◌, ◌/◌, ◌%◌, ◌≤◌}
use Rattle.meaning.specs.Sets.{nth}

-- one more than the columns to go in direction d: 0 to the left, 2 to the right
abbrev pub across : ℕ → ℕ
across d = nth (2 ∷ 0 ∷ 1 ∷ 1 ∷ 0 ∷ 2 ∷ 2 ∷ 0 ∷ []) d

-- one more than the rows to go: 0 upwards, 2 downwards
abbrev pub down : ℕ → ℕ
down d = nth (1 ∷ 1 ∷ 2 ∷ 0 ∷ 0 ∷ 2 ∷ 0 ∷ 2 ∷ []) d

-- q is the pixel next to p in direction d, on a plate of width w. Columns and rows are compared, so nothing wraps round the border
pub record Beside (w d p q : ℕ) : Type 0 where
  pub column : q % w + 1 ≡ p % w + across d
  pub row : q / w + 1 ≡ p / w + down d

-- in direction d of the pixel in column x of row y there is a pixel, on a plate of width w and height h
pub record Leads (w h d x y : ℕ) : Type 0 where
  pub left : 1 ≤ x + across d
  pub right : x + across d ≤ w
  pub upper : 1 ≤ y + down d
  pub lower : y + down d ≤ h
