-- From lists of greys to the theory: a plate is a grid, its anchors number its nodes, and its opening, cut and size list at a pixel or an area.
use mathlib.Core.Path.{◌≡◌, ap, ◌∙◌}
use mathlib.Core.Bool.{Bool, true, false}
use mathlib.Core.List.{List}
use Prim.Native.Nat.{ℕ, ◌-◌, ◌≤◌, ◌<◌}
use native.Mathlib.Decide.{dec_le}
use native.Mathlib.Nat.{le_antisymm}
use native.Mathlib.Omega.{arith}
use lib.Dec.{eqb}
use lib.ListN.{length, length-map}
use lib.Seq.{ext_get_or}
use Rattle.meaning.specs.Cut.{cut, cut_at, darkest, total}
use Rattle.meaning.specs.Nodes.{nodes_of}
use Rattle.meaning.specs.Opening.{Attribute, Criterion, at_least, attribute, cleaned, closed, dark_side, opened, opened_at}
use Rattle.meaning.specs.Paths.{Grid}
use Rattle.meaning.specs.Plate.{Plate, grey, lightest, negative, touch}
use Rattle.meaning.specs.Sets.{elem, lowest, nth, pick, place, sum, table}
use Rattle.theory_lists.specs.Members.{Lowest}
use Rattle.theory_connectivity.proofs.Sizes.{Sizes, grid_sizes}
use Rattle.theory_lists.proofs.Lists.{get_d_map, table_same, elem-nth, get_d_table, length-table, place_is}
use Rattle.theory_lists.proofs.Sets.{lowest-is, most_ge}
use Rattle.theory_lists.proofs.Sums.{sum_cong}
use Rattle.theory_connectivity.proofs.Touch.{fits_grid}
use Rattle.theory_opening.proofs.TrimEdge.{trim_attribute}
use Rattle.theory_opening.proofs.Attribute.{attribute_criterion}
use Rattle.theory_opening.proofs.Opening.{opened_below}
use Rattle.theory_tree.specs.Tree.{Nodes}
use Rattle.theory_tree.proofs.Losses.{cut_opened}
use Rattle.theory_tree.proofs.Nodes.{anchors-nodes, nth_inside, root_level, some-node}

-- ---- lists as functions

pub grey-table : (n : ℕ) (g : ℕ → ℕ) (p : ℕ) → p < n → grey (table n g) p ≡ g p
grey-table n g p l = get_d_table n g p 0 l

-- a list is the table of its greys
pub table-grey : (f : List ℕ) → table (length f) (grey f) ≡ f
table-grey f =
    ext_get_or 0 (table (length f) (grey f)) f (length-table (length f) (grey f))
    (λ i l. get_d_table (length f) (grey f) i 0 (rw (length-table (length f) (grey f)) at l))

pub negative-length : (M : ℕ) (f : List ℕ) → length (negative M f) ≡ length f
unfolding negative
negative-length M f = length-map f (λ (g : ℕ). M - g)

-- no pixel is lighter than the lightest
pub lightest_all : (f : List ℕ) (p : ℕ) → p < length f → grey f p ≤ lightest f
unfolding lightest
lightest_all f = most_ge (length f) (grey f)

-- ---- a plate

module _ {k w h M : ℕ} {f : List ℕ} (plate : Plate k w h M f) where
  pub plate_sizes : Sizes w h
  plate_sizes = grid_sizes w h plate.sizes

  pub plate_some : 0 < length f
  plate_some = omega (arith, plate.long, plate_sizes.some-pixels)

  -- the grid is connected, so some set always qualifies
  pub plate_grid : Grid (length f) (touch k w)
  plate_grid = fits_grid k w h (length f) plate.sizes plate.long

  -- the list of the anchors numbers the nodes
  pub plate_nodes : Nodes (length f) (touch k w) (grey f) (nodes_of k w f)
  unfolding nodes_of
  plate_nodes = anchors-nodes plate_grid (grey f) (lightest f) (lightest_all f)

  -- ---- the negative

  pub negative-grey : (p : ℕ) → p < length f → grey (negative M f) p ≡ M - grey f p
  unfolding negative
  negative-grey p l = get_d_map (λ (g : ℕ). M - g) f p l

  pub negative_plate : Plate k w h M (negative M f)
  negative_plate = record {
    kind = plate.kind;
    sizes = plate.sizes;
    range = plate.range;
    long = negative-length M f ∙ plate.long;
    greys = λ p l. omega (arith, negative-grey p (rw (negative-length M f) at l));
  }

  -- ---- the opening

  pub opened-length : (limit : ℕ) → length (opened k w h limit f) ≡ length f
  unfolding opened
  opened-length limit = length-table (length f) (opened_at (length f) (touch k w) (at_least (attribute w h) limit) (grey f))

  pub opened-grey : (limit p : ℕ) → p < length f
      → grey (opened k w h limit f) p ≡ opened_at (length f) (touch k w) (at_least (attribute w h) limit) (grey f) p
  unfolding opened
  opened-grey limit = grey-table (length f) (opened_at (length f) (touch k w) (at_least (attribute w h) limit) (grey f))

  pub plate_attribute : Attribute (length f) (attribute w h)
  plate_attribute = trim_attribute w h plate.long

  pub at_limit : (limit : ℕ) → limit ≤ length f → Criterion (length f) (at_least (attribute w h) limit)
  at_limit = attribute_criterion plate_attribute

  pub opened_below_plate : (limit p : ℕ) → limit ≤ length f → p < length f → grey (opened k w h limit f) p ≤ grey f p
  opened_below_plate limit p m l = omega (arith, opened-grey limit p l, opened_below plate_grid (at_limit limit m) (grey f) p)

  pub opened_plate : (limit : ℕ) → limit ≤ length f → Plate k w h M (opened k w h limit f)
  opened_plate limit m = record {
    kind = plate.kind;
    sizes = plate.sizes;
    range = plate.range;
    long = opened-length limit ∙ plate.long;
    greys = λ p l.
        let b : p < length f = rw (opened-length limit) at l in
        omega (arith, opened_below_plate limit p m b, plate.greys p b);
  }

  -- ---- the cut

  pub cut-grey : (limit p : ℕ) → p < length f
      → grey (cut k w h limit f) p ≡ cut_at (length f) (touch k w) (grey f) (nodes_of k w f) (at_least (attribute w h) limit) p
  unfolding cut
  cut-grey limit = grey-table (length f) (cut_at (length f) (touch k w) (grey f) (nodes_of k w f) (at_least (attribute w h) limit))

  pub cut-is-opened : (limit : ℕ) → limit ≤ length f → cut k w h limit f ≡ opened k w h limit f
  unfolding cut opened
  cut-is-opened limit m =
      table_same (length f)
      (cut_at (length f) (touch k w) (grey f) (nodes_of k w f) (at_least (attribute w h) limit))
      (opened_at (length f) (touch k w) (at_least (attribute w h) limit) (grey f))
      (cut_opened plate_grid (at_limit limit m) plate_nodes)

  -- ---- darkest and total grey

  root-grey : (p : ℕ) → p < length f → grey f (nth (nodes_of k w f) 0) ≤ grey f p
  root-grey = root_level plate_grid plate_nodes

  pub darkest-root : darkest f ≡ grey f (nth (nodes_of k w f) 0)
  unfolding darkest
  darkest-root =
      let a : ℕ = nth (nodes_of k w f) 0 in
      let la : a < length f = nth_inside plate_grid plate_nodes 0 (some-node plate_grid plate_nodes 0 plate_some) in
      let d : ℕ = lowest (lightest f) (elem f) in
      let r : Lowest (lightest f) (elem f) d = lowest-is (lightest f) (elem f) in
      let le : d ≤ grey f a = elim (dec_le (lightest f) (grey f a)) [
        | yes k ↦ omega (arith, r.bound)
        | no k ↦ r.least (grey f a) (omega arith) (elem-nth f a la)
      ] in
      elim (dec_le (lightest f) d) [
        | yes k ↦ le_antisymm le (omega (arith, lightest_all f a la))
        | no k ↦
            let q = place_is f d (r.passes (omega arith)) in
            le_antisymm le (omega (arith, root-grey (place f d) q.0, q.1))
      ]

  pub total-cut : (limit : ℕ) → total (cut k w h limit f)
      ≡ sum (length f) (cut_at (length f) (touch k w) (grey f) (nodes_of k w f) (at_least (attribute w h) limit))
  unfolding total cut
  total-cut limit =
      let g : ℕ → ℕ = cut_at (length f) (touch k w) (grey f) (nodes_of k w f) (at_least (attribute w h) limit) in
      ap (λ (n : ℕ). sum n (grey (table (length f) g))) (length-table (length f) g)
      ∙ sum_cong (length f) (grey (table (length f) g)) g (grey-table (length f) g)

-- ---- the negative twice, the closing, and cleaning on a side

module _ {k w h M : ℕ} {f : List ℕ} (plate : Plate k w h M f) where
  pub negative_twice : negative M (negative M f) ≡ f
  negative_twice =
      let neg : Plate k w h M (negative M f) = negative_plate plate in
      let e : length (negative M (negative M f)) ≡ length f = negative-length M (negative M f) ∙ negative-length M f in
      ext_get_or 0 (negative M (negative M f)) f e
      (λ p l.
      let m : p < length f = rw e at l in
      omega (arith, negative-grey neg p (rw (negative-length M f) m), negative-grey plate p m, plate.greys p m))

  pub closed-length : (limit : ℕ) → length (closed k w h M limit f) ≡ length f
  unfolding closed negative
  closed-length limit =
      length-map (opened k w h limit (negative M f)) (λ (g : ℕ). M - g)
      ∙ opened-length (negative_plate plate) limit
      ∙ negative-length M f

  pub closed-grey : (limit p : ℕ) → p < length f → grey (closed k w h M limit f) p ≡ M - grey (opened k w h limit (negative M f)) p
  unfolding closed negative
  closed-grey limit p l =
      get_d_map (λ (g : ℕ). M - g) (opened k w h limit (negative M f)) p
      (omega (arith, opened-length (negative_plate plate) limit, negative-length M f))

  -- closing the negative is the negative of opening
  pub closed-negative : (limit : ℕ) → closed k w h M limit (negative M f) ≡ negative M (opened k w h limit f)
  unfolding closed
  closed-negative limit = rw negative_twice

  -- a plate cleaned is a plate
  either_plate : (negated : Bool) (limit : ℕ) → limit ≤ length f → Plate k w h M (pick negated (closed k w h M limit f) (opened k w h limit f))
  unfolding closed
  either_plate true limit m = negative_plate (opened_plate (negative_plate plate) limit (omega (arith, negative-length M f)))
  either_plate false limit m = opened_plate plate limit m

  pub cleaned_plate : (side limit : ℕ) → limit ≤ length f → Plate k w h M (cleaned side k w h M limit f)
  unfolding cleaned
  cleaned_plate side = either_plate (eqb side dark_side)
