-- Laws of the columns of a tree that stands in the work space: its nodes, the node of a pixel, levels, parents, areas, what is held against the limit,
-- children; and that the tree stands as long as its columns do.
use mathlib.Core.Path.{◌≡◌, sym, ap, ◌∙◌}
use mathlib.Core.Bool.{true}
use mathlib.Core.List.{List}
use Prim.Native.Nat.{ℕ, ◌≤◌, ◌<◌}
use native.Mathlib.Nat.{le_trans}
use native.Mathlib.Omega.{arith}
use lib.ListN.{length}
use Rattle.meaning.specs.Cut.{darkest}
use Rattle.meaning.specs.Nodes.{area_of, holds, level_of, own, parent}
use Rattle.meaning.specs.Opening.{Attribute, attribute}
use Rattle.meaning.specs.Paths.{Grid}
use Rattle.meaning.specs.Plate.{grey}
use Rattle.meaning.specs.Sets.{elem, nth}
use Rattle.theory_lists.proofs.Lists.{distinct_area}
use Rattle.theory_lists.proofs.Sets.{area_le}
use Rattle.theory_connectivity.proofs.Touch.{fits_grid}
use Rattle.theory_tree.specs.Tree.{Nodes}
use Rattle.theory_tree.proofs.NodeSets.{anchor_holds}
use Rattle.theory_tree.proofs.Nodes.{nodes_distinct, nth_inside, over_holds, own_below, parent_area, parent_below, parent_level, root_over}
use Rattle.theory_tree.proofs.Nodes.{some-node}
use Rattle.theorems.proofs.Plates.{darkest-root, plate_attribute, plate_nodes, plate_some}
use Rattle.work_columns.specs.Columns.{Frame, Only, col}
use Rattle.work_columns.specs.Layout.{ANCHOR, AREA, ATTRIBUTE, GREY, LEVEL, OWN, PARENT, VALUE, greys_in, touch_in}
use Rattle.work_columns.specs.declared.Shape.{Shape}
use Rattle.work_columns.proofs.Columns.{frame_room}
use Rattle.maxtree_columns.specs.Tree.{Attributed, AttributedStands, Tree, TreeStands, nodes_in}
use Rattle.maxtree_columns.proofs.Greys.{greys_plate}

module _ {g : Shape} {f w : List ℕ} {count : ℕ} (t : Tree g f w count) where
  abbrev n : ℕ
  n = g.pixels

  abbrev xs : List ℕ
  xs = nodes_in g f

  -- ---- the nodes

  pub tree_grid : Grid n (touch_in g)
  tree_grid = fits_grid g.connectivity g.width g.height n t.plate.sizes (sym t.pixels ∙ t.plate.long)

  pub tree_nodes : Nodes n (touch_in g) (grey f) xs
  tree_nodes = rw t.pixels at (plate_nodes t.plate)

  pub some-nodes : 0 < count
  some-nodes = omega (arith, t.nodes, t.pixels, some-node tree_grid tree_nodes 0 (omega (arith, t.pixels, plate_some t.plate)))

  pub few_nodes : count ≤ n
  few_nodes = omega (
    arith,
    t.nodes,
    le_trans (distinct_area n xs (nodes_distinct tree_grid tree_nodes) tree_nodes.inside) (area_le n (elem xs)),
  )

  -- it is the plate whose greys stand there
  pub tree_plate : greys_in n w ≡ f
  tree_plate = greys_plate n w f t.pixels t.greys

  pub tree_here : TreeStands g w count
  tree_here = rw tree_plate t

  -- ---- the node of a pixel

  pub own_node : (p : ℕ) → p < n → own n (touch_in g) (grey f) xs p < count
  own_node p l = omega (arith, own_below tree_grid tree_nodes p l, t.nodes)

  pub own_inside : (p : ℕ) → p < n → col OWN n w p < n
  own_inside p l = omega (arith, t.own_is p l, own_node p l, few_nodes)

  -- ---- parents

  pub parent_earlier : (i : ℕ) → 0 < i → i < count → col PARENT n w i < i
  parent_earlier i h l = omega (arith, t.parent_is i l, parent_below tree_grid tree_nodes i h)

  -- ---- levels

  pub level-low : (i : ℕ) → i < count → col LEVEL n w i ≤ g.greatest
  level-low i l =
      let inside = nth_inside tree_grid tree_nodes i (omega (arith, t.nodes)) in
      omega (arith, t.level_is i l, t.plate.greys (nth xs i) (omega (arith, t.pixels, inside)))

  pub level_rises : (i : ℕ) → 0 < i → i < count → col LEVEL n w (col PARENT n w i) < col LEVEL n w i
  level_rises i h l =
      omega (
        arith,
        t.level_is i l,
        t.level_is (col PARENT n w i) (omega (arith, parent_earlier i h l)),
        ap (level_of n (touch_in g) (grey f) xs) (t.parent_is i l),
        parent_level tree_grid tree_nodes i h (omega (arith, t.nodes)),
      )

  pub root-darkest : col LEVEL n w 0 ≡ darkest f
  root-darkest = t.level_is 0 some-nodes ∙ sym (darkest-root t.plate)

  -- ---- areas

  area-most : (j : ℕ) → area_of n (touch_in g) (grey f) xs j ≤ n
  unfolding area_of
  area-most j = area_le n (holds n (touch_in g) (grey f) xs j)

  pub area-part : (i : ℕ) → 0 < i → i < count → col AREA n w i < n
  area-part i h l =
      omega (
        arith,
        t.area-is i l,
        parent_area tree_grid tree_nodes i h (omega (arith, t.nodes)),
        area-most (parent n (touch_in g) (grey f) xs i),
      )

  -- ---- the tree stands as long as its columns do

  tree_kept : {w' : List ℕ} → Frame n w w'
      → ((d : ℕ) → d < 8 → (d ≡ VALUE → ⊥) → (d ≡ ATTRIBUTE → ⊥) → col d n w' ≡ col d n w) → Tree g f w' count
  tree_kept {w'} frame off = record {
    plate = t.plate;
    pixels = t.pixels;
    room = frame_room t.room frame;
    greys = off GREY (omega arith) (λ x. omega arith) (λ x. omega arith) ∙ t.greys;
    nodes = t.nodes;
    own_is = rw (off OWN (omega arith) (λ x. omega arith) (λ x. omega arith)) t.own_is;
    anchor-is = rw (off ANCHOR (omega arith) (λ x. omega arith) (λ x. omega arith)) t.anchor-is;
    level_is = rw (off LEVEL (omega arith) (λ x. omega arith) (λ x. omega arith)) t.level_is;
    parent_is = rw (off PARENT (omega arith) (λ x. omega arith) (λ x. omega arith)) t.parent_is;
    area-is = rw (off AREA (omega arith) (λ x. omega arith) (λ x. omega arith)) t.area-is;
  }

  pub tree_valued : {w' : List ℕ} → Only VALUE n w w' → Tree g f w' count
  tree_valued o = tree_kept o.frame (λ d l x y. o.off d l x)

  pub tree_marked : {w' : List ℕ} → Only ATTRIBUTE n w w' → Tree g f w' count
  tree_marked o = tree_kept o.frame (λ d l x y. o.off d l y)

-- ---- what is held against the limit

module _ {g : Shape} {f w : List ℕ} {count : ℕ} (a : Attributed g f w count) where
  is-attribute : Attribute g.pixels (attribute g.width g.height)
  is-attribute = rw a.tree.pixels at (plate_attribute a.tree.plate)

  pub attributed_here : AttributedStands g w count
  attributed_here = rw (tree_plate a.tree) a

  pub attribute-some : (i : ℕ) → i < count → 1 ≤ col ATTRIBUTE g.pixels w i
  attribute-some i l =
      let t = a.tree in
      let b : i < length (xs t) = omega (arith, t.nodes) in
      let inside = nth_inside (tree_grid t) (tree_nodes t) i b in
      omega (
        arith,
        a.attribute-is i l,
        is-attribute.positive (holds g.pixels (touch_in g) (grey f) (xs t) i) (nth (xs t) i) inside (anchor_holds (tree_grid t) (tree_nodes t) i b),
      )

  pub attribute-root : g.pixels ≤ col ATTRIBUTE g.pixels w 0
  attribute-root =
      let t = a.tree in
      let all = is-attribute.increasing (λ q. true) (holds g.pixels (touch_in g) (grey f) (xs t) 0)
      (λ q l u. over_holds (tree_grid t) (tree_nodes t) 0 q (root_over (tree_grid t) (tree_nodes t) q l)) in
      omega (arith, a.attribute-is 0 (some-nodes t), is-attribute.all, all)

  -- it stands as long as the columns but VALUE do
  pub attributed_kept : {w' : List ℕ} → Only VALUE g.pixels w w' → Attributed g f w' count
  attributed_kept o = record {
    tree = tree_valued a.tree o;
    attribute-is = rw (o.off ATTRIBUTE (omega arith) (λ x. omega arith)) a.attribute-is;
  }
