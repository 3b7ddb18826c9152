-- The component tree of a plate, or of its negative, in the work space. g: the plate's shape; f: the plate; count: the number of nodes.
use Rattle.std.specs.Prelude.{◌≡◌, Bool, List, ℕ, ◌*◌, ◌≤◌, length}
use Rattle.meaning.specs.Plate.{Plate}
use Rattle.work_columns.specs.Columns.{Frame}
use Rattle.work_columns.specs.declared.Shape.{Shape}
use Rattle.maxtree_columns.specs.Tree.{Tree}
use Rattle.plate_greys.specs.Sides.{side_plate}

-- f is an accepted plate of the shape g, which has its pixels, and there is work space for it
pub record PlateReady (g : Shape) (f work : List ℕ) : Type 0 where
  pub plate : Plate g.connectivity g.width g.height g.greatest f
  pub pixels : g.pixels ≡ length f
  pub room : 8 * g.pixels ≤ length work

-- f is an accepted plate, and its tree, or its negative's, stands in the work space
pub record PlateTree (negated : Bool) (g : Shape) (f work work' : List ℕ) (count : ℕ) : Type 0 where
  pub plate : Plate g.connectivity g.width g.height g.greatest f
  pub frame : Frame g.pixels work work'
  pub tree : Tree g (side_plate negated g.greatest f) work' count
