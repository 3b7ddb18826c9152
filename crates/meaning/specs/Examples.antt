-- SPECIFICATION 10's small plate and its worked cases, as a table.
use Rattle.std.specs.Prelude.{List, [], ◌∷◌, ℕ, ◌*◌}
use Rattle.meaning.specs.Opening.{cleaned, light_side, dark_side}
use Rattle.meaning.specs.Ink.{ink_of}
use Rattle.meaning.specs.Plate.{byte_greatest, touch, on_trim_edge}
use Rattle.meaning.specs.Sets.{bit, table}

-- rows 10 10 10 10 / 10 50 30 10 / 10 10 10 90
abbrev pub small : List ℕ
small = 10 ∷ 10 ∷ 10 ∷ 10 ∷ 10 ∷ 50 ∷ 30 ∷ 10 ∷ 10 ∷ 10 ∷ 10 ∷ 90 ∷ []

-- what is asked: the small plate cleaned on a side with a connectivity and a limit, or the ink of a grey
pub data Job : Type 0 where
  cleaning : ℕ → ℕ → ℕ → Job
  ink : ℕ → Job

pub record Case : Type 0 where
  pub job : Job
  pub answer : List ℕ

unfoldable pub run : Job → List ℕ
unfolding cleaned ink_of
run (cleaning side k limit) = cleaned side k 4 3 byte_greatest limit small
run (ink g) = ink_of byte_greatest g ∷ []

abbrev case : Job → List ℕ → Case
case j a = record { job = j; answer = a }

-- pixels 5 and 6 hold 30, pixel 11, on the trim edge, 90, others 10; pixel 11 holds 90, others 10
abbrev pub pair : List ℕ
pair = 10 ∷ 10 ∷ 10 ∷ 10 ∷ 10 ∷ 30 ∷ 30 ∷ 10 ∷ 10 ∷ 10 ∷ 10 ∷ 90 ∷ []

abbrev corner : List ℕ
corner = 10 ∷ 10 ∷ 10 ∷ 10 ∷ 10 ∷ 10 ∷ 10 ∷ 10 ∷ 10 ∷ 10 ∷ 10 ∷ 90 ∷ []

-- the eleven worked cases of SPECIFICATION 10
abbrev pub worked_cases : List Case
worked_cases =
    case (cleaning light_side 4 1) small
    ∷ case (cleaning light_side 4 2) pair
    ∷ case (cleaning light_side 4 3) corner
    ∷ case (cleaning light_side 4 12) corner
    ∷ case (cleaning light_side 8 2) pair
    ∷ case (cleaning light_side 8 3) pair
    ∷ case (cleaning light_side 8 4) pair
    ∷ case (cleaning dark_side 4 9) small
    ∷ case (cleaning dark_side 4 10) small
    ∷ case (ink 0) (100 ∷ [])
    ∷ case (ink 255) (0 ∷ [])
    ∷ []

-- ---- plates for the slips of SPECIFICATION 10

-- two light pixels that are next to each other in the list, at the right edge of a row and at the left edge of the next: rows 0 0 9 / 9 0 0
abbrev pub edges : List ℕ
edges = 0 ∷ 0 ∷ 9 ∷ 9 ∷ 0 ∷ 0 ∷ []

-- a peak on a step, off the trim edge: 10 30 50 30 10 in a border of 0. The peak sinks to 30, where three pixels are still fewer than four
abbrev pub steps : List ℕ
steps =
    0 ∷ 0 ∷ 0 ∷ 0 ∷ 0 ∷ 0 ∷ 0
    ∷ 0 ∷ 10 ∷ 30 ∷ 50 ∷ 30 ∷ 10 ∷ 0
    ∷ 0 ∷ 0 ∷ 0 ∷ 0 ∷ 0 ∷ 0 ∷ 0 ∷ []

-- one grey in three places, off the trim edge: 5 0 5 0 5 in a border of 0
abbrev pub places : List ℕ
places =
    0 ∷ 0 ∷ 0 ∷ 0 ∷ 0 ∷ 0 ∷ 0
    ∷ 0 ∷ 5 ∷ 0 ∷ 5 ∷ 0 ∷ 5 ∷ 0
    ∷ 0 ∷ 0 ∷ 0 ∷ 0 ∷ 0 ∷ 0 ∷ 0 ∷ []

-- ---- the three kinds of connectivity

-- the neighbours of pixel p of three rows of three: 1 where a pixel touches it, else 0
unfoldable pub neighbours : (k p : ℕ) → List ℕ
unfolding table touch
neighbours k p = table 9 (λ (q : ℕ). bit (touch k 3 p q))

-- two light pixels on each diagonal, off the trim edge. The left pair touches with 6 and 8, the right pair with 8 only
abbrev pub diagonals : List ℕ
diagonals =
    0 ∷ 0 ∷ 0 ∷ 0 ∷ 0 ∷ 0 ∷ 0
    ∷ 0 ∷ 9 ∷ 0 ∷ 0 ∷ 0 ∷ 9 ∷ 0
    ∷ 0 ∷ 0 ∷ 8 ∷ 0 ∷ 8 ∷ 0 ∷ 0
    ∷ 0 ∷ 0 ∷ 0 ∷ 0 ∷ 0 ∷ 0 ∷ 0 ∷ []

-- ---- the trim edge

-- which pixels of a plate of width w and height h are on it: 1, else 0
unfoldable pub trim_edge : (w h : ℕ) → List ℕ
unfolding table on_trim_edge
trim_edge w h = table (w * h) (λ (p : ℕ). bit (on_trim_edge w h p))

-- a light pixel on each border of the sheet, and one in its middle
abbrev pub borders : List ℕ
borders =
    0 ∷ 0 ∷ 9 ∷ 0 ∷ 0
    ∷ 0 ∷ 0 ∷ 0 ∷ 0 ∷ 0
    ∷ 9 ∷ 0 ∷ 9 ∷ 0 ∷ 9
    ∷ 0 ∷ 0 ∷ 0 ∷ 0 ∷ 0
    ∷ 0 ∷ 0 ∷ 9 ∷ 0 ∷ 0 ∷ []

-- a light pixel of the trim edge, and one inside that is its lower right
abbrev pub by_corner : List ℕ
by_corner =
    0 ∷ 0 ∷ 0 ∷ 0
    ∷ 9 ∷ 0 ∷ 0 ∷ 0
    ∷ 0 ∷ 7 ∷ 0 ∷ 0
    ∷ 0 ∷ 0 ∷ 0 ∷ 0 ∷ []
