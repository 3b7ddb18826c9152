-- A plate (a grey image): a list of greys, row by row; SPECIFICATION 2. The one place that knows the sizes, the kinds of
-- connectivity, the trim edge and the range of greys. M: the greatest grey.
use Rattle.std.specs.Prelude.{◌≡◌, Bool, true, ◌&&◌, ◌||◌, List, map, ℕ, ◌+◌, ◌-◌, ◌*◌, ◌/◌, ◌%◌, ◌≤◌, ◌<◌, max, eqb, leb, length, get_or}
use Rattle.meaning.specs.Sets.{pick, most}

-- a grey runs from 0 to the greatest grey, bare paper, which is 1 to 65,535
abbrev pub max_greatest : ℕ
max_greatest = 65535

unfoldable pub greatest_fits : ℕ → Bool
greatest_fits M = leb 1 M && leb M max_greatest

-- the greatest grey that is a byte: that of every record in the old form, and the last with one byte a pixel in a plate file
abbrev pub byte_greatest : ℕ
byte_greatest = 255

-- the greatest width or height, and the most pixels, of the grid
abbrev pub max_extent : ℕ
max_extent = 32768

abbrev pub max_pixels : ℕ
max_pixels = 16777216

-- width and height are each 1 to 32,768, and their product, the pixels, is at most 16,777,216
unfoldable pub grid_fits : ℕ → ℕ → Bool
grid_fits w h = (leb 1 w && leb w max_extent) && ((leb 1 h && leb h max_extent) && leb (w * h) max_pixels)

-- connectivity is 4, 6 or 8
unfoldable pub connectivity_fits : ℕ → Bool
connectivity_fits k = eqb k 4 || (eqb k 6 || eqb k 8)

-- how far apart two numbers are
abbrev pub apart : ℕ → ℕ → ℕ
apart a b = (a - b) + (b - a)

-- ---- the pixel in column x of row y, and the pixel in column x' of row y'

-- they share an edge: their columns and rows differ by 1 in all
abbrev pub by_edge : (x y x' y' : ℕ) → Bool
by_edge x y x' y' = eqb (apart x x' + apart y y') 1

-- they share an edge or a corner: neither columns nor rows differ by more than 1, and one of them differs
abbrev pub by_edge_or_corner : (x y x' y' : ℕ) → Bool
by_edge_or_corner x y x' y' = eqb (max (apart x x') (apart y y')) 1

-- the second is the upper left of the first: one row up and one column left
abbrev pub upper_left : (x y x' y' : ℕ) → Bool
upper_left x y x' y' = eqb (y' + 1) y && eqb (x' + 1) x

-- it is the lower right: one row down and one column right
abbrev pub lower_right : (x y x' y' : ℕ) → Bool
lower_right x y x' y' = eqb y' (y + 1) && eqb x' (x + 1)

-- they share an edge, or the second is the upper left or the lower right of the first
abbrev pub by_edge_or_diagonal : (x y x' y' : ℕ) → Bool
by_edge_or_diagonal x y x' y' = by_edge x y x' y' || (upper_left x y x' y' || lower_right x y x' y')

-- they touch, with connectivity 4, 6 or 8
abbrev pub touch_at : (k x y x' y' : ℕ) → Bool
touch_at k x y x' y' = pick (eqb k 4) (by_edge x y x' y') (pick (eqb k 6) (by_edge_or_diagonal x y x' y') (by_edge_or_corner x y x' y'))

-- pixels p and q of a plate of width w touch. Columns and rows are compared, so nothing wraps round the border
unfoldable pub touch : (k w p q : ℕ) → Bool
touch k w p q = touch_at k (p % w) (p / w) (q % w) (q / w)

-- pixel p of a plate of width w and height h is on the trim edge: in the first or last row, or in the first or last column
unfoldable pub on_trim_edge : (w h p : ℕ) → Bool
on_trim_edge w h p = (eqb (p / w) 0 || eqb (p / w + 1) h) || (eqb (p % w) 0 || eqb (p % w + 1) w)

-- the grey of pixel p
abbrev pub grey : List ℕ → ℕ → ℕ
grey f p = get_or f p 0

-- the grey of the lightest pixel
unfoldable pub lightest : List ℕ → ℕ
unfolding most
lightest f = most (length f) (grey f)

-- the negative: the greatest grey minus each grey
unfoldable pub negative : ℕ → List ℕ → List ℕ
negative M f = map (λ (g : ℕ). M - g) f

-- f is a plate of width w, height h and greatest grey M, with connectivity k: an accepted plate with its connectivity (SPECIFICATION 2)
pub record Plate (k w h M : ℕ) (f : List ℕ) : Type 0 where
  pub kind : connectivity_fits k ≡ true
  pub sizes : grid_fits w h ≡ true
  pub range : greatest_fits M ≡ true
  pub long : length f ≡ w * h
  pub greys : (p : ℕ) → p < length f → grey f p ≤ M

-- one plate of n pixels is nowhere lighter than another: no pixel has a greater grey in it
abbrev pub Below : ℕ → (ℕ → ℕ) → (ℕ → ℕ) → Type 0
Below n f g = (q : ℕ) → q < n → f q ≤ g q

-- the same of lists of greys of one length
abbrev pub NowhereLighter : List ℕ → List ℕ → Type 0
NowhereLighter g f = (length g ≡ length f) × Below (length f) (grey g) (grey f)
