-- One stage after the other: the levels of the greys, flooding, numbering, the greys again, the nodes' levels. The tree by levels is the tree by greys.
use mathlib.Core.Path.{◌≡◌, refl, sym, ap, ◌∙◌}
use mathlib.Core.Bool.{false}
use mathlib.Core.List.{List}
use Prim.Native.Nat.{ℕ, ◌≤◌, ◌<◌}
use native.Mathlib.Omega.{arith}
use lib.Dec.{eqb}
use lib.ListN.{length}
use Rattle.meaning.specs.Nodes.{anchors, area_of, level_of, own, parent}
use Rattle.meaning.specs.Paths.{Grid}
use Rattle.meaning.specs.Plate.{max_greatest}
use Rattle.meaning.specs.Sets.{nth}
use Rattle.theory_connectivity.proofs.Sizes.{greatest_range}
use Rattle.theory_connectivity.proofs.Touch.{fits_grid}
use Rattle.theory_tree.specs.Order.{SameTree}
use Rattle.theory_tree.proofs.Order.{tree_order}
use Rattle.work_columns.specs.Columns.{Frame, col}
use Rattle.work_columns.specs.Layout.{ANCHOR, AREA, Buildable, FloodBuilt, Floodable, GREY, LEVEL, OWN, PARENT, greys_in, grid_of, level_in, touch_in}
use Rattle.work_columns.specs.declared.Shape.{Shape}
use Rattle.work_columns.proofs.Columns.{frame_room, frame_trans, levels_same}
use Rattle.maxtree_columns.specs.Tree.{Built, nodes_in}
use Rattle.maxtree_columns.proofs.Greys.{built_nodes, built_plate, greys_column, greys_length}
use Rattle.maxtree_numbering.specs.Numbering.{Inside, Leveled, Numbered, anchors_in}
use Rattle.maxtree_numbering.proofs.Stages.{levels_ready}
use Rattle.maxtree_ranks.specs.Ranks.{Ranked, Restored}
use Rattle.maxtree_ranks.proofs.Ranks.{restored_greys}

module _ {g : Shape} {w : List ℕ} (b : Buildable g w) where
  abbrev n : ℕ
  n = g.pixels

  pub in_range : g.greatest ≤ max_greatest
  in_range = (greatest_range g.greatest b.range).most

  grid : Grid n (touch_in g)
  grid = fits_grid g.connectivity g.width g.height n b.sizes b.product

  module _ {w₁ : List ℕ} {levels : ℕ} (r : Ranked n g.greatest w w₁ levels) where
    pub floodable : Floodable (grid_of g) levels w₁
    floodable = record {
      room = frame_room b.room r.only.frame;
      kind = b.kind;
      sizes = b.sizes;
      product = b.product;
      below = r.below;
      few = r.few;
      small = r.small;
    }

    module _ {w₂ : List ℕ} (f : FloodBuilt (grid_of g) w₁ w₂) where
      levels₂ : level_in n w₂ ≡ level_in n w₁
      levels₂ = levels_same n w₁ w₂ f.same

      pub numberable : Floodable (grid_of g) levels w₂
      numberable = record {
        room = frame_room floodable.room f.frame;
        kind = b.kind;
        sizes = b.sizes;
        product = b.product;
        below = rw levels₂ r.below;
        few = r.few;
        small = r.small;
      }

      -- the greys and their levels have one tree
      one_tree : SameTree n (touch_in g) (col GREY n w) (level_in n w₂) g.greatest levels
      one_tree =
          tree_order (touch_in g) (rw levels₂ r.order) grid g.greatest levels b.greys
          (λ q l. omega (arith, numberable.below q l))

      module _ {w₃ : List ℕ} {count : ℕ} (x : Numbered (grid_of g) levels w₂ w₃ count) {w₄ : List ℕ} (y : Restored n g.greatest w₃ w₄) where
        same₄ : (d : ℕ) → d < 8 → (d ≡ GREY → ⊥) → col d n w₄ ≡ col d n w₃
        same₄ = y.only.off

        greys₄ : col GREY n w₄ ≡ col GREY n w
        greys₄ = restored_greys r (x.greys ∙ f.same) y

        pub leveled_ready : Inside n ANCHOR w₄ count
        leveled_ready =
            let a : Inside n ANCHOR w₃ count = levels_ready numberable x in
            record {
              room = frame_room a.room y.only.frame;
              fits = a.fits;
              inside = rw (same₄ ANCHOR (omega arith) (λ e. omega arith)) a.inside;
            }

        module _ {w₅ : List ℕ} (z : Leveled n w₄ w₅ count) where
          xs : List ℕ
          xs = anchors g.greatest n (touch_in g) (col GREY n w)

          nodes_are : anchors_in (grid_of g) levels w₂ ≡ xs
          unfolding xs
          nodes_are = sym one_tree.nodes

          -- a column of numbering that stays
          same₅ : (d : ℕ) → d < 8 → (d ≡ GREY → ⊥) → eqb LEVEL d ≡ false → col d n w₅ ≡ col d n w₃
          same₅ d l e h = z.beside.off d l h ∙ same₄ d l e

          own₅ : (p : ℕ) → p < n → col OWN n w₅ p ≡ own n (touch_in g) (col GREY n w) xs p
          unfolding xs
          own₅ p l =
              ap (λ (h : ℕ → ℕ). h p) (same₅ OWN (omega arith) (λ e. omega arith) refl) ∙ x.own_is p l ∙ sym (one_tree.owns p l)

          anchor₃ : (i : ℕ) → i < count → col ANCHOR n w₃ i ≡ nth xs i
          anchor₃ i l = x.anchor-is i l ∙ ap (λ (ys : List ℕ). nth ys i) nodes_are

          anchor₅ : (i : ℕ) → i < count → col ANCHOR n w₅ i ≡ nth xs i
          anchor₅ i l = ap (λ (h : ℕ → ℕ). h i) (same₅ ANCHOR (omega arith) (λ e. omega arith) refl) ∙ anchor₃ i l

          level₅ : (i : ℕ) → i < count → col LEVEL n w₅ i ≡ level_of n (touch_in g) (col GREY n w) xs i
          level₅ i l =
              z.level_is i l ∙ ap (λ (h : ℕ → ℕ). h (col ANCHOR n w₄ i)) greys₄
              ∙ ap (col GREY n w) (ap (λ (h : ℕ → ℕ). h i) (same₄ ANCHOR (omega arith) (λ e. omega arith)) ∙ anchor₃ i l)

          parent₅ : (i : ℕ) → i < count → col PARENT n w₅ i ≡ parent n (touch_in g) (col GREY n w) xs i
          unfolding xs
          parent₅ i l =
              ap (λ (h : ℕ → ℕ). h i) (same₅ PARENT (omega arith) (λ e. omega arith) refl) ∙ x.parent_is i l
              ∙ ap (λ (h : ℕ → ℕ). h i) (sym one_tree.parents)

          area₅ : (i : ℕ) → i < count → col AREA n w₅ i ≡ area_of n (touch_in g) (col GREY n w) xs i
          unfolding xs
          area₅ i l =
              ap (λ (h : ℕ → ℕ). h i) (same₅ AREA (omega arith) (λ e. omega arith) refl) ∙ x.area-is i l
              ∙ ap (λ (h : ℕ → ℕ). h i) (sym one_tree.areas)

          whole : Frame n w w₅
          whole =
              frame_trans r.only.frame
              (frame_trans f.frame (frame_trans x.frame (frame_trans y.only.frame z.beside.frame)))

          nodes₀ : nodes_in g (greys_in n w) ≡ xs
          unfolding xs
          nodes₀ = built_nodes b g.greatest b.greys

          pub built : Built g w w₅ count
          built = record {
            frame = whole;
            tree = record {
              plate = built_plate b;
              pixels = greys_length n w;
              room = frame_room b.room whole;
              greys = z.beside.off GREY (omega arith) refl ∙ greys₄ ∙ greys_column n w;
              nodes = rw nodes₀ (x.nodes ∙ ap length nodes_are);
              own_is = rw (nodes₀, ← (greys_column n w)) own₅;
              anchor-is = rw nodes₀ anchor₅;
              level_is = λ i l. rw nodes₀ (level₅ i l ∙ ap (λ (h : ℕ → ℕ). h (nth xs i)) (greys_column n w));
              parent_is = rw (nodes₀, ← (greys_column n w)) parent₅;
              area-is = rw (nodes₀, ← (greys_column n w)) area₅;
            };
          }
