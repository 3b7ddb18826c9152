-- The plate whose greys stand in the work space.
use mathlib.Core.Path.{◌≡◌, sym, ap, ◌∙◌}
use mathlib.Core.List.{List}
use Prim.Native.Nat.{ℕ}
use native.Mathlib.Omega.{arith}
use lib.ListN.{length}
use Rattle.meaning.specs.Nodes.{anchors}
use Rattle.meaning.specs.Paths.{Grid}
use Rattle.meaning.specs.Plate.{Plate, grey}
use Rattle.theory_lists.proofs.Lists.{length-table}
use Rattle.theory_connectivity.proofs.Touch.{fits_grid}
use Rattle.theory_tree.specs.Tree.{Nodes}
use Rattle.theory_tree.proofs.Nodes.{anchors-nodes, nodes-only}
use Rattle.theorems.proofs.Plates.{grey-table, plate_nodes, table-grey}
use Rattle.work_columns.specs.Columns.{col}
use Rattle.work_columns.specs.Layout.{Buildable, GREY, Greys, greys_in, touch_in}
use Rattle.work_columns.specs.declared.Shape.{Shape}
use Rattle.work_columns.proofs.Columns.{column_plate}
use Rattle.maxtree_columns.specs.Tree.{nodes_in}

module _ (n : ℕ) (w : List ℕ) where
  pub greys_length : length (greys_in n w) ≡ n
  greys_length = length-table n (col GREY n w)

  pub greys_column : col GREY n w ≡ grey (greys_in n w)
  greys_column = column_plate GREY n w (greys_in n w) greys_length (λ p l. sym (grey-table n (col GREY n w) p l))

  -- it is f where the column has f's greys
  pub greys_plate : (f : List ℕ) → length f ≡ n → col GREY n w ≡ grey f → greys_in n w ≡ f
  greys_plate f l e = rw (e, ← l) (table-grey f)

-- it is an accepted plate, with the anchors of the greys
module _ {g : Shape} {w : List ℕ} (b : Buildable g w) where
  pub built_plate : Plate g.connectivity g.width g.height g.greatest (greys_in g.pixels w)
  built_plate = record {
    kind = b.kind;
    sizes = b.sizes;
    range = b.range;
    long = greys_length g.pixels w ∙ b.product;
    greys = λ p l. omega (arith, ap (λ (h : ℕ → ℕ). h p) (greys_column g.pixels w), b.greys p (omega (arith, greys_length g.pixels w)));
  }

  built_grid : Grid g.pixels (touch_in g)
  built_grid = fits_grid g.connectivity g.width g.height g.pixels b.sizes b.product

  numbered : (h : ℕ → ℕ) → h ≡ grey (greys_in g.pixels w) → Nodes g.pixels (touch_in g) h (nodes_in g (greys_in g.pixels w))
  numbered h e = rw e (rw (greys_length g.pixels w) at (plate_nodes built_plate))

  -- up to any bound of the greys
  pub built_nodes : (m : ℕ) → Greys g.pixels m w → nodes_in g (greys_in g.pixels w) ≡ anchors m g.pixels (touch_in g) (col GREY g.pixels w)
  built_nodes m low =
      nodes-only (nodes_in g (greys_in g.pixels w)) (anchors m g.pixels (touch_in g) (col GREY g.pixels w))
      (numbered (col GREY g.pixels w) (greys_column g.pixels w))
      (anchors-nodes built_grid (col GREY g.pixels w) m low)
