-- The greys of a plate, or of its negative, in the work space. M: the greatest grey; f: the plate.
use Rattle.std.specs.Prelude.{◌≡◌, Bool, List, ℕ, ◌≤◌, ◌<◌, length}
use Rattle.meaning.specs.Plate.{grey, max_greatest}
use Rattle.work_columns.specs.Columns.{Frame, Room, col}
use Rattle.work_columns.specs.Layout.{GREY, Greys}
use Rattle.plate_greys.specs.Sides.{side_plate}

-- there is room for them, none is above M, and M is no more than a greatest grey may be
pub record Loadable (M : ℕ) (f work : List ℕ) : Type 0 where
  pub room : Room work (length f)
  pub small : M ≤ max_greatest
  pub greys : (p : ℕ) → p < length f → grey f p ≤ M

-- they are copied in
pub record Loaded (negated : Bool) (M : ℕ) (f work work' : List ℕ) : Type 0 where
  pub frame : Frame (length f) work work'
  pub same : col GREY (length f) work' ≡ grey (side_plate negated M f)
  pub greys : Greys (length f) M work'
