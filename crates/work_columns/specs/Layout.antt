-- What the eight columns of the work space hold, by stage. g: the plate's shape; n: its pixels.
use Rattle.std.specs.Prelude.{◌≡◌, ◌⊎◌, Bool, true, List, ℕ, ◌*◌, ◌%◌, ◌≤◌, ◌<◌}
use Rattle.meaning.specs.Sets.{area, has, table}
use Rattle.meaning.specs.Paths.{Joined}
use Rattle.meaning.specs.Plate.{touch, grid_fits, greatest_fits, connectivity_fits}
use Rattle.meaning.specs.Opening.{lighter}
use Rattle.meaning.specs.Nodes.{node}
use Rattle.work_columns.specs.Columns.{col, Room, Frame}
use Rattle.work_columns.specs.declared.PixelGrid.{PixelGrid}
use Rattle.work_columns.specs.declared.Shape.{Shape}

-- the shape of a plate of n pixels, width w, height h, greatest grey M, connectivity k
abbrev pub shape_of : (n w h M k : ℕ) → Shape
shape_of n w h M k = record { pixels = n; width = w; height = h; greatest = M; connectivity = k }

-- its grid
abbrev pub grid_of : Shape → PixelGrid
grid_of g = record { pixels = g.pixels; width = g.width; height = g.height; connectivity = g.connectivity }

-- the pixels of a plate of that shape that touch, and those of a grid
abbrev pub touch_in : Shape → ℕ → ℕ → Bool
touch_in g = touch g.connectivity g.width

abbrev pub touch_on : PixelGrid → ℕ → ℕ → Bool
touch_on g = touch g.connectivity g.width

-- ---- the columns

-- by pixel: its grey; its node (while flooding, n plus its level where it has none yet)
abbrev pub GREY : ℕ
GREY = 0

abbrev pub OWN : ℕ
OWN = 1

-- while flooding, the pixels to visit; by node: its anchor, its level
abbrev pub STACK : ℕ
STACK = 2

abbrev pub ANCHOR : ℕ
ANCHOR = 2

abbrev pub LEVEL : ℕ
LEVEL = 3

-- by node in the order of flooding: its parent, its area
abbrev pub FLOODPARENT : ℕ
FLOODPARENT = 3

abbrev pub FLOODAREA : ℕ
FLOODAREA = 4

-- while flooding, by level: the node of an open level plus one, 0 where the level is not open; the top and the start of its stack
abbrev pub NAME : ℕ
NAME = 5

abbrev pub TOP : ℕ
TOP = 6

abbrev pub START : ℕ
START = 7

-- when numbering, by level: the number that its next node gets
abbrev pub PLACE : ℕ
PLACE = 6

-- by node in the order of flooding: its number, in the place of its area, which is not read again
abbrev pub NUMBER : ℕ
NUMBER = 4

-- by node: its parent (until the parents are numbered, by its number in the order of flooding), its area; for an operation, what is held against the
-- limit, its attribute, and a free column
abbrev pub PARENT : ℕ
PARENT = 5

abbrev pub AREA : ℕ
AREA = 7

abbrev pub ATTRIBUTE : ℕ
ATTRIBUTE = 6

abbrev pub VALUE : ℕ
VALUE = 4

-- ---- the greys are copied in

-- none is above M
abbrev pub Greys : ℕ → ℕ → List ℕ → Type 0
Greys n M w = (p : ℕ) → p < n → col GREY n w p ≤ M

-- while the tree is built, a pixel's level is the low half of its entry: its grey, or, where its grey stands in the high half, the grey's rank
unfoldable pub level_in : ℕ → List ℕ → ℕ → ℕ
level_in n w p = col GREY n w p % 65536

-- as a plate
abbrev pub greys_in : ℕ → List ℕ → List ℕ
greys_in n w = table n (col GREY n w)

-- ---- after flooding: each pixel has the number of its node, in any order; by node stand parent and area

-- p and q are of one grey, and joined at it: they are of one node's own level
abbrev pub Alike : (n : ℕ) (near : ℕ → ℕ → Bool) (f : ℕ → ℕ) → ℕ → ℕ → Type 0
Alike n near f p q = (f p ≡ f q) × Joined n near (lighter f (f p)) p q

-- m is the number of the parent of p's node: some pixel `at` of that number is darker than p, both lie in one component at its grey, and at each
-- grey between the two the component of p is that at p's grey
pub record Up (n : ℕ) (near : ℕ → ℕ → Bool) (f own : ℕ → ℕ) (p m : ℕ) : Type 0 where
  pub at : ℕ
  pub below : at < n
  pub darker : f at < f p
  pub joined : Joined n near (lighter f (f at)) p at
  pub same : (t r : ℕ) → f at < t → t ≤ f p → Joined n near (lighter f t) p r → Joined n near (lighter f (f p)) p r
  pub number : own at ≡ m

pub record Flooded (n : ℕ) (near : ℕ → ℕ → Bool) (f own area_of parent_of : ℕ → ℕ) : Type 0 where
  pub named : (p : ℕ) → p < n → own p < n
  pub apart : (p q : ℕ) → p < n → q < n → own p ≡ own q → Alike n near f p q
  pub together : (p q : ℕ) → p < n → q < n → Alike n near f p q → own p ≡ own q
  pub area-is : (p : ℕ) → p < n → area_of (own p) ≡ area n (has (node n near f p))
  pub parent_is : (p : ℕ) → p < n → Up n near f own p (parent_of (own p)) ⊎ ((parent_of (own p) ≡ own p) × ((r : ℕ) → r < n → f p ≤ f r))

abbrev pub FloodedColumns : PixelGrid → List ℕ → Type 0
FloodedColumns g w =
    Flooded g.pixels (touch_on g) (level_in g.pixels w) (col OWN g.pixels w) (col FLOODAREA g.pixels w) (col FLOODPARENT g.pixels w)

-- what flooding asks, and what it leaves: the levels are below `levels`, so that a column has a place for each
pub record Floodable (g : PixelGrid) (levels : ℕ) (w : List ℕ) : Type 0 where
  pub room : Room w g.pixels
  pub kind : connectivity_fits g.connectivity ≡ true
  pub sizes : grid_fits g.width g.height ≡ true
  pub product : g.pixels ≡ g.width * g.height
  pub below : (p : ℕ) → p < g.pixels → level_in g.pixels w p < levels
  pub few : levels ≤ g.pixels
  pub small : levels ≤ 65536

pub record FloodBuilt (g : PixelGrid) (w w' : List ℕ) : Type 0 where
  pub frame : Frame g.pixels w w'
  pub same : col GREY g.pixels w' ≡ col GREY g.pixels w
  pub flooded : FloodedColumns g w'

-- what building a tree asks
pub record Buildable (g : Shape) (w : List ℕ) : Type 0 where
  pub room : Room w g.pixels
  pub kind : connectivity_fits g.connectivity ≡ true
  pub sizes : grid_fits g.width g.height ≡ true
  pub range : greatest_fits g.greatest ≡ true
  pub product : g.pixels ≡ g.width * g.height
  pub greys : Greys g.pixels g.greatest w
