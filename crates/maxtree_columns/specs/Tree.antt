-- "The component tree of the plate f stands in the work space w": the one record type for it. Building a tree ends in it, and every operation on a tree
-- starts from it. g: the plate's shape; count: the number of its nodes.
use Rattle.std.specs.Prelude.{◌≡◌, List, ℕ, ◌<◌, length}
use Rattle.meaning.specs.Nodes.{area_of, holds, level_of, nodes_of, own, parent}
use Rattle.meaning.specs.Opening.{attribute}
use Rattle.meaning.specs.Plate.{Plate, grey}
use Rattle.meaning.specs.Sets.{nth}
use Rattle.work_columns.specs.Columns.{Frame, Room, col}
use Rattle.work_columns.specs.Layout.{ANCHOR, AREA, ATTRIBUTE, GREY, LEVEL, OWN, PARENT, greys_in, touch_in}
use Rattle.work_columns.specs.declared.Shape.{Shape}

-- the anchors of the nodes of a plate of that shape
abbrev pub nodes_in : Shape → List ℕ → List ℕ
nodes_in g f = nodes_of g.connectivity g.width f

pub record Tree (g : Shape) (f w : List ℕ) (count : ℕ) : Type 0 where
  pub plate : Plate g.connectivity g.width g.height g.greatest f
  pub pixels : length f ≡ g.pixels
  pub room : Room w g.pixels
  pub greys : col GREY g.pixels w ≡ grey f
  pub nodes : count ≡ length (nodes_in g f)
  pub own_is : (p : ℕ) → p < g.pixels → col OWN g.pixels w p ≡ own g.pixels (touch_in g) (grey f) (nodes_in g f) p
  pub anchor-is : (i : ℕ) → i < count → col ANCHOR g.pixels w i ≡ nth (nodes_in g f) i
  pub level_is : (i : ℕ) → i < count → col LEVEL g.pixels w i ≡ level_of g.pixels (touch_in g) (grey f) (nodes_in g f) i
  pub parent_is : (i : ℕ) → i < count → col PARENT g.pixels w i ≡ parent g.pixels (touch_in g) (grey f) (nodes_in g f) i
  pub area-is : (i : ℕ) → i < count → col AREA g.pixels w i ≡ area_of g.pixels (touch_in g) (grey f) (nodes_in g f) i

-- the tree with what is held against the limit: the attribute of each node
pub record Attributed (g : Shape) (f w : List ℕ) (count : ℕ) : Type 0 where
  pub tree : Tree g f w count
  pub attribute-is : (i : ℕ) → i < count
      → col ATTRIBUTE g.pixels w i ≡ attribute g.width g.height (holds g.pixels (touch_in g) (grey f) (nodes_in g f) i)

-- the tree of the plate whose greys stand there
abbrev pub TreeStands : (g : Shape) (w : List ℕ) (count : ℕ) → Type 0
TreeStands g w count = Tree g (greys_in g.pixels w) w count

-- with the attributes of its nodes
abbrev pub AttributedStands : (g : Shape) (w : List ℕ) (count : ℕ) → Type 0
AttributedStands g w count = Attributed g (greys_in g.pixels w) w count

-- what building leaves: the tree of the plate whose greys stood there
pub record Built (g : Shape) (w w' : List ℕ) (count : ℕ) : Type 0 where
  pub frame : Frame g.pixels w w'
  pub tree : Tree g (greys_in g.pixels w) w' count
