-- From a plate that is not refused to its tree; a cleared work space.
use mathlib.Core.Path.{◌≡◌, refl, sym, ◌∙◌}
use mathlib.Core.Bool.{Bool, true}
use mathlib.Core.List.{List, ◌++◌}
use Prim.Native.Nat.{ℕ, ◌*◌, ◌≤◌}
use native.Mathlib.Omega.{arith}
use lib.ListN.{length, drop, replicate}
use Rattle.meaning.specs.Answers.{work_after}
use Rattle.meaning.specs.Plate.{Plate}
use Rattle.theory_connectivity.proofs.Sizes.{greatest_range}
use Rattle.work_columns.specs.Columns.{Frame, Room}
use Rattle.work_columns.specs.Layout.{Buildable, greys_in, shape_of}
use Rattle.work_columns.specs.declared.Shape.{Shape}
use Rattle.work_columns.proofs.Columns.{cleared, frame_room, frame_trans}
use Rattle.maxtree_columns.specs.Tree.{Built}
use Rattle.maxtree_columns.proofs.Greys.{greys_plate}
use Rattle.plate_refusals.proofs.Refusals.{taken_few}
use Rattle.plate_greys.specs.Loading.{Loadable, Loaded}
use Rattle.plate_greys.specs.Sides.{side_plate}
use Rattle.plate_greys.proofs.Sides.{side_plate_length}
use Rattle.plate_tree.specs.PlateTree.{PlateReady, PlateTree}

-- an accepted plate, with its space and its shape
pub plate_ready : {g : Shape} {k w h M : ℕ} {f work : List ℕ} → g ≡ shape_of (length f) w h M k → Plate k w h M f → 8 * (w * h) ≤ length work
    → PlateReady g f work
plate_ready shape plate space = rw shape (record { plate = plate; pixels = refl; room = omega (arith, plate.long) })

module _ {g : Shape} {f work : List ℕ} (can : PlateReady g f work) where
  ready_room : Room work (length f)
  ready_room = record { small = taken_few can.plate; room = omega (arith, can.room, can.pixels) }

  pub ready_loadable : Loadable g.greatest f work
  ready_loadable = record {
    room = ready_room;
    small = (greatest_range g.greatest can.plate.range).most;
    greys = can.plate.greys;
  }

  module _ {negated : Bool} {work' : List ℕ} (copied : Loaded negated g.greatest f work work') where
    pub ready_buildable : Buildable g work'
    ready_buildable = record {
      room = rw can.pixels (frame_room ready_room copied.frame);
      kind = can.plate.kind;
      sizes = can.plate.sizes;
      range = can.plate.range;
      product = can.pixels ∙ can.plate.long;
      greys = rw can.pixels copied.greys;
    }

    pub tree_stands : {work'' : List ℕ} {count : ℕ} → Built g work' work'' count → PlateTree negated g f work work'' count
    tree_stands did =
        let M = g.greatest in
        let same : greys_in g.pixels work' ≡ side_plate negated M f =
        greys_plate g.pixels work' (side_plate negated M f) (side_plate_length negated M f ∙ sym can.pixels) (rw can.pixels copied.same) in
        record {
          plate = can.plate;
          frame = frame_trans (rw can.pixels copied.frame) did.frame;
          tree = rw same at did.tree;
        }

-- the work space of a plate when it is cleared, by what it was at the start
pub cleared_space : {k w h M : ℕ} {f work w₁ w₂ : List ℕ} → Plate k w h M f → Frame (length f) work w₁
    → w₂ ≡ replicate (8 * length f) 0 ++ drop (8 * length f) w₁ → w₂ ≡ work_after true (w * h) work
cleared_space plate a c = rw (← plate.long) (cleared a c)
