-- What the node list leaves: on a refusal, and with its columns written.
use mathlib.Core.Path.{◌≡◌, refl, ◌∙◌}
use mathlib.Core.Bool.{false}
use mathlib.Core.List.{List, ◌++◌}
use Prim.Native.Nat.{ℕ, ◌*◌}
use lib.Dec.{eqb}
use lib.ListN.{length, drop, replicate}
use borrow.Author.Tests.{ne_eqb}
use Rattle.refusals.specs.declared.Refusal.{Refusal}
use Rattle.refusals.specs.Numbers.{number_of}
use Rattle.refusals.proofs.Numbers.{number_nonzero}
use Rattle.meaning.specs.Nodes.{area_of, level_of, parent}
use Rattle.work_columns.specs.Layout.{ANCHOR, AREA, LEVEL, PARENT, shape_of}
use Rattle.maxtree_columns.proofs.Tree.{few_nodes}
use Rattle.plate_tree.specs.PlateTree.{PlateTree}
use Rattle.plate_tree.specs.Listing.{Started}
use Rattle.plate_tree.proofs.Starting.{list_done}
use Rattle.plate_filter.specs.Operations.{Columns, ColumnsWritten, Lent, NodesListed, anchor_of, places_of}
use Rattle.plate_filter.proofs.Results.{listed}

-- a refused list
pub listed_refused : {k w h M : ℕ} {f work w₁ : List ℕ} (out : Columns) {count : ℕ} (r : Refusal)
    → Started k w h M f (places_of out) work w₁ (number_of r) count → NodesListed k w h M f out out work w₁ (number_of r) count
listed_refused out r s =
    let x = number_nonzero r in
    let z : eqb (number_of r) 0 ≡ false = ne_eqb _ 0 x in
    record {
      answer = record { number = s.number; counted = s.counted; space = s.stopped x; accepted = λ u. absurd (x u) };
      levels = rw z;
      parents = rw z;
      areas = rw z;
      anchors = rw z;
    }

-- a list that is not refused
module _ {k w h M : ℕ} {f work w₁ : List ℕ} (out : Columns) {count : ℕ} (s : Started k w h M f (places_of out) work w₁ 0 count) where
  p : PlateTree false (shape_of (length f) w h M k) f work w₁ count
  p = s.tree_stands refl

  pub listed_lent : Lent (length f) count w₁ out
  listed_lent = record { room = p.tree.room; few = few_nodes p.tree; places = s.fits }

  -- the columns
  pub listed_done : {w₂ : List ℕ} {out' : Columns} → ColumnsWritten (length f) count w₁ out out'
      → w₂ ≡ replicate (8 * length f) 0 ++ drop (8 * length f) w₁ → NodesListed k w h M f out out' work w₂ 0 count
  listed_done d c = record {
    answer = list_done s c;
    levels = d.levels ∙ rw (listed p.tree LEVEL level_of p.tree.level_is);
    parents = d.parents ∙ rw (listed p.tree PARENT parent p.tree.parent_is);
    areas = d.areas ∙ rw (listed p.tree AREA area_of p.tree.area-is);
    anchors = d.anchors ∙ rw (listed p.tree ANCHOR anchor_of p.tree.anchor-is);
  }
