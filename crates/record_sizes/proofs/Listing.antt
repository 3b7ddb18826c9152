-- The loops over the nodes that add into a table by attribute, and what they list of the plate.
use mathlib.Core.Path.{◌≡◌, sym, ap, ◌∙◌}
use mathlib.Core.Bool.{Bool}
use mathlib.Core.List.{List, ◌++◌}
use Prim.Native.Nat.{ℕ, zero, suc, ◌+◌, ◌-◌, ◌*◌, ◌≤◌, ◌<◌}
use native.Mathlib.Nat.{mul-le-mul}
use native.Mathlib.Omega.{arith}
use lib.Dec.{eqb, eqb→eq, leb}
use lib.ListN.{length, get_or, set, take, drop, replicate, length-replicate, get_or-replicate}
use lib.Seq.{ext_get_or}
use Rattle.std.proofs.lemmas.List.{length-take-le}
use Rattle.meaning.specs.Answers.{over}
use Rattle.meaning.specs.Cut.{count_at, counts, held, losses, lost_at}
use Rattle.meaning.specs.Nodes.{area_of, holds, parent, rise}
use Rattle.meaning.specs.Opening.{attribute}
use Rattle.meaning.specs.Plate.{grey, max_greatest, max_pixels}
use Rattle.meaning.specs.Sets.{pick, sum, table}
use Rattle.theory_lists.proofs.Lists.{get_d_table, length-table, table_same}
use Rattle.theory_lists.proofs.Sums.{sum_cong}
use Rattle.theory_lists.proofs.Tests.{pick_no}
use Rattle.theory_lists.proofs.Written.{written_over}
use Rattle.theory_tree.proofs.Nodes.{parent_below}
use Rattle.theory_connectivity.proofs.Sizes.{greatest_range}
use Rattle.theorems.proofs.Plates.{plate_some}
use Rattle.theorems.proofs.Theorems.{held-is-sum, lost_is-sum}
use Rattle.work_columns.specs.Columns.{col}
use Rattle.work_columns.specs.Layout.{AREA, ATTRIBUTE, LEVEL, PARENT, touch_in}
use Rattle.work_columns.specs.declared.Shape.{Shape}
use Rattle.maxtree_columns.specs.Tree.{Attributed, Tree, nodes_in}
use Rattle.maxtree_columns.proofs.Tree.{area-part, attribute-root, attribute-some, few_nodes, level-low, some-nodes, tree_grid, tree_nodes}
use Rattle.record_sizes.specs.Sizes.{TableOf, by_attribute, held_by, held_of, loss_of, most_lost, ones, tally, zeros}
use Rattle.record_sizes.proofs.Tally.{over-drop, tallies_at, tallies_more, tallies_none, tallies_past, tally_cong, tally_le, tally_one}

-- ---- the tables cleared

-- zeros ahead of what follows them are written over a table
zeros_are : (m : ℕ) → replicate m 0 ≡ zeros m
zeros_are m =
    ext_get_or 0 (replicate m 0) (zeros m) (length-replicate {A = ℕ} m 0 ∙ sym (length-table m (λ (j : ℕ). 0)))
    (λ i l. let h : i < m = rw (length-replicate {A = ℕ} m 0) at l in
    get_or-replicate {A = ℕ} m i 0 0 h ∙ sym (get_d_table m (λ (j : ℕ). 0) i 0 h))

pub zeros_over : (m : ℕ) (d : List ℕ) {z : List ℕ} → m ≤ length d → z ≡ replicate (length (take m d)) 0 → z ++ drop m d ≡ over (zeros m) d
zeros_over m d l e = rw (e, length-take-le m d l, zeros_are m) (written_over m (λ (j : ℕ). 0) d)

-- what is written over a table again
over-again : (m : ℕ) (g h : ℕ → ℕ) (d t : List ℕ) → t ≡ over (table m g) d → over (table m h) t ≡ over (table m h) d
over-again m g h d t e =
    sym (written_over m h t) ∙ ap (λ (l : List ℕ). table m h ++ l) (ap (drop m) e ∙ over-drop m g d) ∙ written_over m h d

-- what is written over zeros is written over what they stand in place of
over_zeros : (d : List ℕ) {d₁ : List ℕ} (m : ℕ) (g : ℕ → ℕ) → d₁ ≡ over (zeros m) d → over (table m g) d₁ ≡ over (table m g) d
over_zeros d {d₁} m g e = over-again m (λ (j : ℕ). 0) g d d₁ e

pub zeros_there : (d : List ℕ) {d₁ : List ℕ} (m : ℕ) → d₁ ≡ over (zeros m) d → d₁ ≡ over (zeros m) d₁
zeros_there d m e = e ∙ sym (over_zeros d m (λ (j : ℕ). 0) e)

-- ---- the tables filled

-- how many nodes there are
pub record Few (g : Shape) (count : ℕ) : Type 0 where
  pub some : 1 ≤ count
  pub most : count ≤ g.pixels
  pub pixels : g.pixels ≤ max_pixels

pub few : {g : Shape} {f w : List ℕ} {count : ℕ} → Tree g f w count → Few g count
few t = record { some = some-nodes t; most = few_nodes t; pixels = t.room.small }

pub few_attributed : {g : Shape} {f w : List ℕ} {count : ℕ} → Attributed g f w count → Few g count
few_attributed t = few t.tree

pub ruleset few_steps = (few, few_attributed)

-- from the entries that are read
module _ (n : ℕ) (w : List ℕ) (j : ℕ) {p a l b : ℕ} (ep : p ≡ col PARENT n w j) (ea : a ≡ col AREA n w j) (el : l ≡ col LEVEL n w j)
    (eb : b ≡ col LEVEL n w p) where
  below_is : b ≡ col LEVEL n w (col PARENT n w j)
  below_is = eb ∙ ap (col LEVEL n w) ep

  pub loss_is : a * (l - b) ≡ loss_of n w j
  loss_is = rw (ea, el, below_is)

  pub below_low : col LEVEL n w (col PARENT n w j) < col LEVEL n w j → b ≤ l
  below_low r = omega (arith, el, below_is)

module _ {g : Shape} {f w : List ℕ} {count : ℕ} (t : Tree g f w count) where
  -- a node's loss is small
  pub loss_low : (j : ℕ) → 0 < j → j < count → loss_of g.pixels w j ≤ most_lost
  loss_low j h l =
      mul-le-mul {n₁ = col AREA g.pixels w j} {m₁ = col LEVEL g.pixels w j - col LEVEL g.pixels w (col PARENT g.pixels w j)}
      {n₂ = max_pixels} {m₂ = max_greatest}
      (omega (arith, area-part t j h l, t.room.small))
      (omega (arith, level-low t j l, (greatest_range g.greatest t.plate.range).most))

  -- in the plate's words
  loss_node : (j : ℕ) → suc j < count
      → loss_of g.pixels w (suc j)
      ≡ area_of g.pixels (touch_in g) (grey f) (nodes_in g f) (suc j) * rise g.pixels (touch_in g) (grey f) (nodes_in g f) (suc j)
  unfolding rise
  loss_node j l =
      let p : ℕ = parent g.pixels (touch_in g) (grey f) (nodes_in g f) (suc j) in
      let below : p < count = omega (arith, parent_below (tree_grid t) (tree_nodes t) (suc j) (omega arith)) in
      rw (t.area-is (suc j) l, t.level_is (suc j) l, t.parent_is (suc j) l, t.level_is p below)

module _ {g : Shape} {f w : List ℕ} {count : ℕ} (t : Attributed g f w count) where
  abbrev n : ℕ
  n = g.pixels

  abbrev near : ℕ → ℕ → Bool
  near = touch_in g

  abbrev xs : List ℕ
  xs = nodes_in g f

  -- a node whose attribute is less than the pixels is not the root
  pub inner : (j : ℕ) → j < count → col ATTRIBUTE n w j < n → 0 < j
  inner zero l s = absurd (omega (arith, attribute-root t))
  inner (suc j) l s = omega arith

  -- ---- node j adds v j

  module _ (v : ℕ → ℕ) {j : ℕ} {d : List ℕ} (table_of : TableOf n w v j d) (l : j < count) {a : ℕ} (e : a ≡ col ATTRIBUTE n w j) where
    -- at no place of the table
    pub added_past : n ≤ a → d ≡ over (by_attribute n w v (j + 1)) d
    added_past h =
        let some : 0 < n = omega (arith, t.tree.pixels, plate_some t.tree.plate) in
        table_of.tallies ∙ ap (λ (x : List ℕ). over x d) (sym (tallies_past (col ATTRIBUTE n w) v (n - 1) j (omega (arith, some))))

    -- at the place of its attribute
    module _ (h : a < n) where
      pub added_place : (1 ≤ a) × (a - 1 < length d)
      added_place = (omega (arith, attribute-some t j l), omega (arith, attribute-some t j l, table_of.places))

      place : suc (a - 1) ≡ a
      place = omega (arith, added_place)

      over-is : d ≡ by_attribute n w v j ++ drop (n - 1) d
      over-is = table_of.tallies ∙ sym (written_over (n - 1) (λ (i : ℕ). tally (col ATTRIBUTE n w) v j (suc i)) d)

      -- what stands there
      stands : get_or d (a - 1) 0 ≡ tally (col ATTRIBUTE n w) v j a
      stands =
          ap (λ (x : List ℕ). get_or x (a - 1) 0) over-is
          ∙ tallies_at (col ATTRIBUTE n w) v (n - 1) j (a - 1) (drop (n - 1) d) (omega (arith, added_place))
          ∙ ap (tally (col ATTRIBUTE n w) v j) place

      -- it is small where each node adds little
      pub added_low : (b : ℕ) → ((i : ℕ) → 0 < i → i < count → v i ≤ b) → get_or d (a - 1) 0 ≤ j * b
      added_low b low =
          rw stands
          (tally_le (col ATTRIBUTE n w) v b j a (λ i m x. low i (inner i (omega arith) (omega arith)) (omega arith)))

      pub added : (x : ℕ) → x ≡ get_or d (a - 1) 0 + v j → set d (a - 1) x ≡ over (by_attribute n w v (j + 1)) d
      added x y =
          ap (λ (s : List ℕ). set s (a - 1) x) over-is
          ∙ tallies_more (col ATTRIBUTE n w) v (n - 1) j (a - 1) x (drop (n - 1) d) (omega (arith, added_place)) (omega (arith, place))
          (omega (arith, stands, ap (tally (col ATTRIBUTE n w) v j) place))
          ∙ written_over (n - 1) (λ (i : ℕ). tally (col ATTRIBUTE n w) v (j + 1) (suc i)) d

  -- ---- the loop

  module _ (v : ℕ → ℕ) where
    pub tallying_zero : (d : List ℕ) {d₁ : List ℕ} → d₁ ≡ over (zeros (n - 1)) d → n - 1 ≤ length d₁ → TableOf n w v 0 d₁
    tallying_zero d {d₁} z m = record {
      places = m;
      tallies = zeros_there d (n - 1) z ∙ ap (λ (x : List ℕ). over x d₁) (sym (tallies_none (col ATTRIBUTE n w) v (n - 1)));
    }

-- d is the table where the loop began
pub record Listing (g : Shape) (w : List ℕ) (count : ℕ) (v : ℕ → ℕ) (d d' : List ℕ) (j : ℕ) : Type 0 where
  pub bound : j ≤ count
  pub len : length d' ≡ length d
  pub places : g.pixels - 1 ≤ length d
  pub made : d' ≡ over (by_attribute g.pixels w v j) d

module _ {g : Shape} {w : List ℕ} {count : ℕ} (v : ℕ → ℕ) {d : List ℕ} where
  module _ {d' : List ℕ} {j : ℕ} (a : Listing g w count v d d' j) where
    abbrev m : ℕ
    m = g.pixels - 1

    abbrev at : ℕ → ℕ → ℕ
    at k i = tally (col ATTRIBUTE g.pixels w) v k (suc i)

    pub listing_more : {d'' : List ℕ} → j < count → length d'' ≡ length d' → d'' ≡ over (by_attribute g.pixels w v (j + 1)) d'
        → Listing g w count v d d'' (j + 1)
    listing_more l len e = record {
      bound = omega arith;
      len = len ∙ a.len;
      places = a.places;
      made = e ∙ over-again m (at j) (at (j + 1)) d d' a.made;
    }

-- a table that was cleared, and that the first k nodes have added to
pub listing_over : (n : ℕ) (w : List ℕ) (v : ℕ → ℕ) (k : ℕ) (d : List ℕ) {d₁ d₂ ys : List ℕ}
    → d₁ ≡ over (zeros (n - 1)) d → d₂ ≡ over (by_attribute n w v k) d₁ → by_attribute n w v k ≡ ys → d₂ ≡ over ys d
listing_over n w v k d {d₁} {d₂} {ys} z e y =
    e ∙ over_zeros d (n - 1) (λ (i : ℕ). tally (col ATTRIBUTE n w) v k (suc i)) z ∙ ap (λ (x : List ℕ). over x d) y

-- ---- what is listed of the plate

module _ {g : Shape} {f w : List ℕ} {count : ℕ} (t : Attributed g f w count) where
  -- the attribute of node j
  abbrev att : ℕ → ℕ
  att j = attribute g.width g.height (holds (n t) (near t) (grey f) (xs t) j)

  -- the grey lost with it
  abbrev loss : ℕ → ℕ
  loss j = area_of (n t) (near t) (grey f) (xs t) j * rise (n t) (near t) (grey f) (xs t) j

  pub listed_counts : by_attribute (n t) w ones count ≡ counts g.connectivity g.width g.height f
  unfolding counts count_at
  listed_counts =
      table_same (n t - 1) (λ (i : ℕ). tally (col ATTRIBUTE (n t) w) ones count (suc i))
      (λ (i : ℕ). count_at (n t) (near t) (grey f) (xs t) (attribute g.width g.height) (suc i)) (λ i l.
      tally_cong (col ATTRIBUTE (n t) w) ones att ones count (suc i) (λ j h. rw (t.attribute-is j h))
      ∙ ap (λ (c : ℕ). tally att ones c (suc i)) t.tree.nodes ∙ tally_one att (length (xs t)) (suc i))
      ∙ rw t.tree.pixels

  -- the grey lost at each attribute
  loss_same : (a : ℕ) → a < n t → (j : ℕ) → j < count
      → pick (eqb (col ATTRIBUTE (n t) w j) a) (loss_of (n t) w j) 0 ≡ pick (eqb (att j) a) (loss j) 0
  loss_same a h zero l =
      pick_no (eqb (col ATTRIBUTE (n t) w 0) a) (loss_of (n t) w 0) 0 (λ u. omega (arith, attribute-root t, eqb→eq (col ATTRIBUTE (n t) w 0) a u))
      ∙ sym (pick_no (eqb (att 0) a) (loss 0) 0 (λ u. omega (arith, attribute-root t, t.attribute-is 0 l, eqb→eq (att 0) a u)))
  loss_same a h (suc j) l =
      ap (λ (x : ℕ). pick (eqb x a) (loss_of (n t) w (suc j)) 0) (t.attribute-is (suc j) l)
      ∙ ap (λ (x : ℕ). pick (eqb (att (suc j)) a) x 0) (loss_node t.tree j l)

  lost_is : (a : ℕ) → a < n t → lost_at (n t) (near t) (grey f) (xs t) (attribute g.width g.height) a
      ≡ sum (length (xs t)) (λ (j : ℕ). pick (eqb (att j) a) (loss j) 0)
  lost_is = rw t.tree.pixels at (lost_is-sum t.tree.plate)

  pub listed_losses : by_attribute (n t) w (loss_of (n t) w) count ≡ losses g.connectivity g.width g.height f
  unfolding losses tally
  listed_losses =
      table_same (n t - 1) (λ (i : ℕ). tally (col ATTRIBUTE (n t) w) (loss_of (n t) w) count (suc i))
      (λ (i : ℕ). lost_at (n t) (near t) (grey f) (xs t) (attribute g.width g.height) (suc i)) (λ i l.
      tally_cong (col ATTRIBUTE (n t) w) (loss_of (n t) w) att loss count (suc i) (loss_same (suc i) (omega arith))
      ∙ ap (λ (c : ℕ). tally att loss c (suc i)) t.tree.nodes
      ∙ sym (lost_is (suc i) (omega arith)))
      ∙ ap (λ (m : ℕ). table (m - 1) (λ (i : ℕ). lost_at m (near t) (grey f) (xs t) (attribute g.width g.height) (suc i))) (sym t.tree.pixels)

  -- the grey held
  held_same : (j : ℕ) → suc j < count → held_of (n t) w (suc j) ≡ pick (leb (n t) (att (suc j))) (loss (suc j)) 0
  held_same j l =
      ap (λ (x : ℕ). pick (leb (n t) x) (loss_of (n t) w (suc j)) 0) (t.attribute-is (suc j) l)
      ∙ ap (λ (x : ℕ). pick (leb (n t) (att (suc j))) x 0) (loss_node t.tree j l)

  held-is : held g.connectivity g.width g.height f ≡ sum (length (xs t) - 1) (λ (j : ℕ). pick (leb (n t) (att (suc j))) (loss (suc j)) 0)
  held-is = rw t.tree.pixels at (held-is-sum t.tree.plate)

  pub listed_held : held_by (n t) w (count - 1) ≡ held g.connectivity g.width g.height f
  unfolding held_by
  listed_held =
      sum_cong (count - 1) (λ (j : ℕ). held_of (n t) w (suc j)) (λ (j : ℕ). pick (leb (n t) (att (suc j))) (loss (suc j)) 0)
      (λ j l. held_same j (omega arith))
      ∙ ap (λ (c : ℕ). sum (c - 1) (λ (j : ℕ). pick (leb (n t) (att (suc j))) (loss (suc j)) 0)) t.tree.nodes
      ∙ sym held-is
