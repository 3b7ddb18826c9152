-- From a plate that is not refused to what an operation leaves: the values of the nodes are, by pixel, the plate cleaned on a side, or the marks of its
-- maxima; the columns are those of the node list.
use mathlib.Core.Path.{◌≡◌, refl, ap, ◌∙◌}
use mathlib.Core.Bool.{Bool, true, false}
use mathlib.Core.List.{List}
use Prim.Native.Nat.{ℕ, ◌≤◌, ◌<◌}
use native.Mathlib.Omega.{arith}
use lib.Dec.{eqb}
use lib.ListN.{length}
use Rattle.meaning.specs.Cut.{cut}
use Rattle.meaning.specs.Maxima.{marks}
use Rattle.meaning.specs.Opening.{cleaned, closed, dark_side, opened}
use Rattle.meaning.specs.Plate.{Plate, grey}
use Rattle.meaning.specs.Sets.{pick, table}
use Rattle.theory_lists.proofs.Lists.{table_same}
use Rattle.theorems.proofs.Plates.{cut-is-opened}
use Rattle.work_columns.specs.Columns.{Frame, col}
use Rattle.work_columns.specs.Layout.{greys_in, shape_of, touch_in}
use Rattle.work_columns.specs.declared.Shape.{Shape}
use Rattle.work_columns.proofs.Columns.{frame_trans}
use Rattle.maxtree_columns.specs.Tree.{Tree, TreeStands, nodes_in}
use Rattle.maxtree_columns.proofs.Tree.{tree_here, tree_plate}
use Rattle.maxtree_values.specs.Values.{Delivered, ValuesAre, values_in}
use Rattle.plate_greys.specs.Sides.{side_plate}
use Rattle.plate_refusals.specs.declared.PlateHead.{PlateHead}
use Rattle.plate_tree.specs.PlateTree.{PlateTree}
use Rattle.plate_tree.proofs.Building.{cleared_space}
use Rattle.plate_filter.specs.Operations.{PlateAnswered, column}

-- ---- the answers

-- closing is opening on the negative
side_opened : (negated : Bool) (k w h M limit : ℕ) (f : List ℕ)
    → side_plate negated M (opened k w h limit (side_plate negated M f)) ≡ pick negated (closed k w h M limit f) (opened k w h limit f)
unfolding closed
side_opened true k w h M limit f = refl
side_opened false k w h M limit f = refl

-- the cut on a side is the plate cleaned on it
side_cut : {k w h M : ℕ} (negated : Bool) (side limit : ℕ) (f : List ℕ) → negated ≡ eqb side dark_side → Plate k w h M (side_plate negated M f)
    → limit ≤ length (side_plate negated M f) → side_plate negated M (cut k w h limit (side_plate negated M f)) ≡ cleaned side k w h M limit f
unfolding cleaned
side_cut {k} {w} {h} {M} negated side limit f e plate l =
    ap (side_plate negated M) (cut-is-opened plate limit l)
    ∙ side_opened negated k w h M limit f
    ∙ ap (λ (b : Bool). pick b (closed k w h M limit f) (opened k w h limit f)) e

-- a column of the node list
pub listed : {g : Shape} {f w : List ℕ} {count : ℕ} (t : Tree g f w count) (c : ℕ)
    (of : (n : ℕ) (near : ℕ → ℕ → Bool) (f : ℕ → ℕ) (xs : List ℕ) → ℕ → ℕ)
    → ((i : ℕ) → i < count → col c g.pixels w i ≡ of g.pixels (touch_in g) (grey f) (nodes_in g f) i)
    → table count (col c g.pixels w) ≡ column g.connectivity g.width f of
unfolding column
listed {g} {f} {w} {count} t c of e =
    table_same count (col c g.pixels w) (of g.pixels (touch_in g) (grey f) (nodes_in g f)) e ∙ rw (t.nodes, t.pixels)

-- ---- from the plate to the answer: g is its shape, t the one that its tree was given with

module _ (plate : PlateHead) (f : List ℕ) {g t : Shape} (shape : g ≡ shape_of (length f) plate.width plate.height plate.greatest plate.connectivity)
    (same : t ≡ g) where
  pub pixels_are : t.pixels ≡ length f
  pixels_are = ap (λ (s : Shape). s.pixels) (same ∙ shape)

  greatest-is : t.greatest ≡ plate.greatest
  greatest-is = ap (λ (s : Shape). s.greatest) (same ∙ shape)

  module _ {negated : Bool} {work w₁ : List ℕ} {count : ℕ} (stood : PlateTree negated g f work w₁ count) where
    p : PlateTree negated (shape_of (length f) plate.width plate.height plate.greatest plate.connectivity) f work w₁ count
    p = rw shape at stood

    -- the tree stands, of the plate on its side
    pub stands : TreeStands t w₁ count
    stands = rw (same ∙ shape) (tree_here p.tree)

    plain : greys_in t.pixels w₁ ≡ side_plate negated plate.greatest f
    plain = rw (same ∙ shape) (tree_plate p.tree)

    module _ {answer w₂ : List ℕ} (v : ValuesAre t.pixels t.greatest answer w₁ w₂) where
      -- what is left
      pub answered : {refusal : ℕ} {out out' w₃ : List ℕ} → 0 ≡ refusal → Delivered negated (length f) t.greatest w₂ w₃ out out'
          → PlateAnswered plate.connectivity plate.width plate.height plate.greatest f refusal (side_plate negated plate.greatest answer)
          out out' work w₃ 0
      answered e d =
          let written : values_in (length f) w₂ ≡ answer = rw pixels_are at v.by_pixel in
          let frame : Frame (length f) work w₂ = frame_trans p.frame (rw pixels_are at v.frame) in
          record {
            number = e;
            output = d.written ∙ rw (written, greatest-is);
            space = cleared_space p.plate frame d.cleared;
            accepted = λ _. p.plate;
          }

    -- the plate cleaned on a side
    pub cleaned-is : (side limit : ℕ) → negated ≡ eqb side dark_side → limit ≤ length f
        → side_plate negated plate.greatest (cut t.connectivity t.width t.height limit (greys_in t.pixels w₁))
        ≡ cleaned side plate.connectivity plate.width plate.height plate.greatest limit f
    cleaned-is side limit e l = rw (plain, same ∙ shape) (side_cut negated side limit f e p.tree.plate (omega (arith, l, p.tree.pixels)))

  -- the marks of its maxima
  pub marks_are : {work w₁ : List ℕ} {count : ℕ} → PlateTree false g f work w₁ count
      → marks t.connectivity t.width (greys_in t.pixels w₁) ≡ marks plate.connectivity plate.width f
  marks_are stood = rw (plain stood, same ∙ shape)
