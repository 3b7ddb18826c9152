-- The nodes of the component tree, numbered. A list xs numbers the nodes where it has the anchors and nothing else, in the order of the keys (record Nodes);
-- the list `anchors` is the only such list (anchors-nodes, nodes-only). Node i is the node of the pixel xs[i].
-- Proved: each pixel has its own node (own_below, own-anchor, own-level, own-over); node 0 is the whole grid and has the darkest grey (root_over, root-level);
-- two nodes are nested or disjoint (nested-or-apart); a node that holds another is darker, earlier and larger (above-level, above_earlier, above-area);
-- the parent of a node is the smallest node that strictly holds it (parent-below, parent-over, parent-last, parent-smallest, parent-parent).
use mathlib.Core.Path.{◌≡◌, sym, ap, ◌∙◌}
use mathlib.Core.Logic.{◌⊎◌, inl, inr}
use mathlib.Core.Bool.{Bool, ◌&&◌}
use mathlib.Core.List.{List}
use Prim.Native.Nat.{ℕ, suc, ◌-◌, ◌≤◌, ◌<◌}
use native.Mathlib.Nat.{le_trans, le_of_eq}
use native.Mathlib.Decide.{dec_le}
use native.Mathlib.Omega.{arith}
use lib.Dec.{T, leb→le, le→leb, eqb, eqb→eq}
use lib.ListN.{length}
use Rattle.meaning.specs.Nodes.{anchor, anchors, area_of, holds, node, own, parent}
use Rattle.meaning.specs.Opening.{lighter}
use Rattle.meaning.specs.Paths.{Grid, here}
use Rattle.meaning.specs.Sets.{Distinct, Within, elem, nth, rising, some}
use Rattle.theory_lists.proofs.Lists.{
  distinct_area,
  elem-nth,
  gather-rising,
  gather_sound,
  nth_inj,
  nth_le,
  nth_lt,
  place_is,
  rising_distinct,
  rising-nth,
  rising-rising,
  rising-same,
  rising_sound,
}
use Rattle.theory_connectivity.proofs.Paths.{end_ok, joined_mono, joined-sym, joined_trans, start_below}
use Rattle.theory_lists.proofs.Sets.{area_all, area_grows, area_le, greatest_good, greatest_le, greatest-most, some_elim, some_intro, top}
use Rattle.theory_lists.proofs.Tests.{choice, orders, tests}
use Rattle.theory_opening.proofs.Opening.{joined-patch, patch-joined}
use Rattle.theory_tree.specs.Tree.{Before, Nodes, Over, Parent, key}
use Rattle.theory_tree.proofs.Anchors.{anchor-joined, anchor_level, anchor-same, anchors_all}
use Rattle.theory_tree.proofs.Climb.{nested}
use Rattle.theory_tree.proofs.Keys.{grey-key, key-before, key-grey, key_pixel}

-- ---- the list of the anchors is such a list, and the only one

module _ {n : ℕ} {near : ℕ → ℕ → Bool} (grid : Grid n near) (f : ℕ → ℕ) where
  -- is p an anchor of grey t
  test : ℕ → ℕ → Bool
  unfolding anchor
  test t p = let r = anchor n near f p in let own = eqb r p in eqb (f p) t && own

  test_grey : (t p : ℕ) → T (test t p) → f p ≡ t
  unfolding test
  test_grey t p u = eqb→eq (f p) t (search tests)

  test_fixed : (t p : ℕ) → T (test t p) → anchor n near f p ≡ p
  unfolding test
  test_fixed t p u = eqb→eq (anchor n near f p) p (search tests)

  pub anchors-nodes : (m : ℕ) → ((q : ℕ) → q < n → f q ≤ m) → Nodes n near f (anchors m n near f)
  unfolding anchors test
  anchors-nodes m top = record {
    inside = λ q t. (let r = gather_sound (suc m) (λ (t : ℕ). rising n (test t)) q t in (rising_sound n (test r.0) q r.2).0);
    fixed = λ q t. (let r = gather_sound (suc m) (λ (t : ℕ). rising n (test t)) q t in test_fixed r.0 q (rising_sound n (test r.0) q r.2).1);
    all = anchors_all grid f m top;
    order = gather-rising (key n f) (suc m) (λ (t : ℕ). rising n (test t))
        (λ t. rising-rising (key n f) n (test t) (λ p q l m a b. key_pixel n f p q (test_grey t p a ∙ sym (test_grey t q b)) l))
        (λ t u p q l a b.
        let ra = rising_sound n (test t) p a in
        let rb = rising_sound n (test u) q b in
        key-grey n f p q ra.0 (omega (arith, test_grey t p ra.1, test_grey u q rb.1)));
  }

pub nodes-only : {n : ℕ} {near : ℕ → ℕ → Bool} {f : ℕ → ℕ} (xs ys : List ℕ) → Nodes n near f xs → Nodes n near f ys → xs ≡ ys
nodes-only {n} {near} {f} xs ys a b =
    rising-same (key n f) xs ys a.order b.order
    (λ q t. rw (a.fixed q t) at (b.all q (a.inside q t)))
    (λ q t. rw (b.fixed q t) at (a.all q (b.inside q t)))

-- ---- the nodes of such a list

module _ {n : ℕ} {near : ℕ → ℕ → Bool} (grid : Grid n near) {f : ℕ → ℕ} {xs : List ℕ} (nodes : Nodes n near f xs) where
  -- node j holds p, as a path and as a test
  pub holds_over : (j p : ℕ) → p < n → T (holds n near f xs j p) → Over n near f (nth xs j) p
  unfolding holds node
  holds_over j p l t = patch-joined grid f (f (nth xs j)) (nth xs j) p l t

  pub over_holds : (j p : ℕ) → Over n near f (nth xs j) p → T (holds n near f xs j p)
  unfolding holds node
  over_holds j p o = joined-patch grid f (f (nth xs j)) (nth xs j) p o

  pub over_level : (a p : ℕ) → Over n near f a p → f a ≤ f p
  over_level a p o = leb→le (f a) (f p) (end_ok o)

  pub nth_inside : (i : ℕ) → i < length xs → nth xs i < n
  nth_inside i l = nodes.inside (nth xs i) (elem-nth xs i l)

  pub nth_fixed : (i : ℕ) → i < length xs → anchor n near f (nth xs i) ≡ nth xs i
  nth_fixed i l = nodes.fixed (nth xs i) (elem-nth xs i l)

  pub self_over : (i : ℕ) → i < length xs → Over n near f (nth xs i) (nth xs i)
  self_over i l = here (nth_inside i l) (omega orders)

  -- ---- a pixel's own node

  pub own_below : (p : ℕ) → p < n → own n near f xs p < length xs
  unfolding own
  own_below p l = (place_is xs (anchor n near f p) (nodes.all p l)).0

  pub own_anchor : (p : ℕ) → p < n → nth xs (own n near f xs p) ≡ anchor n near f p
  unfolding own
  own_anchor p l = (place_is xs (anchor n near f p) (nodes.all p l)).1

  pub own_level : (p : ℕ) → p < n → f (nth xs (own n near f xs p)) ≡ f p
  own_level p l = ap f (own_anchor p l) ∙ anchor_level grid f p l

  pub own_over : (p : ℕ) → p < n → Over n near f (nth xs (own n near f xs p)) p
  own_over p l = rw (own_anchor p l, anchor_level grid f p l) (joined-sym grid.back (anchor-joined grid f p l))

  -- ---- the order of the nodes

  pub level_le : (i j : ℕ) → i ≤ j → j < length xs → f (nth xs i) ≤ f (nth xs j)
  level_le i j l m = grey-key n f (nth xs i) (nth xs j) (nth_inside j m) (nth_le (key n f) xs nodes.order i j l m)

  -- a darker node is an earlier one
  pub level_earlier : (i j : ℕ) → i < length xs → j < length xs → f (nth xs i) < f (nth xs j) → i < j
  level_earlier i j li lj h = nth_lt (key n f) xs nodes.order i j li (key-grey n f (nth xs i) (nth xs j) (nth_inside i li) h)

  -- one anchor, one number
  pub nth-same : (i j : ℕ) → i < length xs → j < length xs → nth xs i ≡ nth xs j → i ≡ j
  nth-same i j li lj e = nth_inj (key n f) xs nodes.order i j li lj (ap (key n f) e)

  -- the anchors stand in the order (grey, pixel), and none stands twice
  pub nodes-before : (i j : ℕ) → i < j → j < length xs → Before f (nth xs i) (nth xs j)
  nodes-before i j l m =
      (key-before n f (nth xs i) (nth xs j) (nth_inside i (omega arith)) (nth_inside j m)).1 (rising-nth (key n f) xs nodes.order i j l m)

  pub nodes_distinct : Distinct xs
  nodes_distinct = rising_distinct (key n f) xs nodes.order

  -- there are no more nodes than pixels
  pub nodes_few : length xs ≤ n
  nodes_few = le_trans (distinct_area n xs nodes_distinct nodes.inside) (area_le n (elem xs))

  -- nodes of one level with a common pixel are one node
  pub level_same : (i j p : ℕ) → i < length xs → j < length xs → Over n near f (nth xs i) p → Over n near f (nth xs j) p
      → f (nth xs i) ≡ f (nth xs j) → i ≡ j
  level_same i j p li lj oi oj e =
      nth-same i j li lj
      (sym (nth_fixed i li)
      ∙ anchor-same grid f (nth xs i) (nth xs j) (joined_trans oi (rw e (joined-sym grid.back oj))) (sym e)
      ∙ nth_fixed j lj)

  pub own_nth : (i : ℕ) → i < length xs → own n near f xs (nth xs i) ≡ i
  own_nth i l =
      let m = nth_inside i l in
      nth-same (own n near f xs (nth xs i)) i (own_below (nth xs i) m) l (own_anchor (nth xs i) m ∙ nth_fixed i l)

  -- ---- node 0

  pub root_level : (p : ℕ) → p < n → f (nth xs 0) ≤ f p
  root_level p l = le_trans (level_le 0 (own n near f xs p) (omega arith) (own_below p l)) (le_of_eq (own_level p l))

  pub some-node : (p : ℕ) → p < n → 0 < length xs
  some-node p l = omega (arith, own_below p l)

  pub root_over : (p : ℕ) → p < n → Over n near f (nth xs 0) p
  root_over p l =
      joined_mono (lighter f (f (nth xs 0))) (λ r i t. le→leb (f (nth xs 0)) (f r) (root_level r i))
      (grid.whole (nth xs 0) p (nth_inside 0 (some-node p l)) l)

  pub root-area : area_of n near f xs 0 ≡ n
  unfolding area_of
  root-area = area_all n (holds n near f xs 0) (λ p l. over_holds 0 p (root_over p l))

  -- ---- nested or disjoint

  pub nested_or_apart : (i j : ℕ) → Within n (holds n near f xs i) (holds n near f xs j) ⊎ (Within n (holds n near f xs j) (holds n near f xs i)
      ⊎ ((p : ℕ) → p < n → T (holds n near f xs i p) → T (holds n near f xs j p) → ⊥))
  nested_or_apart i j = go (choice (some n shared))
    where
      shared : ℕ → Bool
      shared p = holds n near f xs i p && holds n near f xs j p

      inside_of : (a b p : ℕ) → p < n → T (holds n near f xs a p) → T (holds n near f xs b p) → f (nth xs a) ≤ f (nth xs b)
          → Within n (holds n near f xs b) (holds n near f xs a)
      inside_of a b p l ta tb h q m t =
          over_holds a q (nested grid f (nth xs a) (nth xs b) p (holds_over a p l ta) (holds_over b p l tb) h q (holds_over b q m t))

      go : T (some n shared) ⊎ (T (some n shared) → ⊥)
          → Within n (holds n near f xs i) (holds n near f xs j) ⊎ (Within n (holds n near f xs j) (holds n near f xs i)
          ⊎ ((p : ℕ) → p < n → T (holds n near f xs i p) → T (holds n near f xs j p) → ⊥))
      go (inl s) =
          let r = some_elim n shared s in
          let ti : T (holds n near f xs i r.0) = search tests in
          let tj : T (holds n near f xs j r.0) = search tests in
          elim (dec_le (f (nth xs i)) (f (nth xs j))) [
            | yes h ↦ inr (inl (inside_of i j r.0 r.1 ti tj h))
            | no h ↦ inl (inside_of j i r.0 r.1 tj ti (omega arith))
          ]
      go (inr e) = inr (inr (λ p l a b. e (some_intro n shared p l (search tests))))

  -- ---- a node that holds another

  module _ (j i : ℕ) (lj : j < length xs) (li : i < length xs) (o : Over n near f (nth xs j) (nth xs i)) where
    -- it holds all of it
    pub above_within : Within n (holds n near f xs i) (holds n near f xs j)
    above_within q l t =
        over_holds j q (nested grid f (nth xs j) (nth xs i) (nth xs i) o (self_over i li) (over_level (nth xs j) (nth xs i) o) q (holds_over i q l t))

    module _ (other : j ≡ i → ⊥) where
      pub above_level : f (nth xs j) < f (nth xs i)
      above_level = elim (dec_le (f (nth xs i)) (f (nth xs j))) [
        | yes h ↦
            let e : f (nth xs j) ≡ f (nth xs i) = omega (arith, over_level (nth xs j) (nth xs i) o) in
            absurd (other (level_same j i (nth xs i) lj li o (self_over i li) e))
        | no h ↦ omega arith
      ]

      pub above_earlier : j < i
      above_earlier = level_earlier j i lj li above_level

      pub above_area : area_of n near f xs i < area_of n near f xs j
      unfolding area_of
      above_area = elim (area_grows n (holds n near f xs i) (holds n near f xs j) above_within) [
        | inl h ↦ h
        | inr w ↦
            let inside : nth xs j < n = nth_inside j lj in
            let back : Over n near f (nth xs i) (nth xs j) = holds_over i (nth xs j) inside (w (nth xs j) inside (over_holds j (nth xs j) (self_over j lj))) in
            absurd (omega (arith, above_level, over_level (nth xs i) (nth xs j) back))
      ]

  -- ---- parents

  pub parent_below : (i : ℕ) → 0 < i → parent n near f xs i < i
  unfolding parent
  parent_below i h = omega (arith, greatest_le (λ (j : ℕ). holds n near f xs j (nth xs i)) (i - 1))

  pub parent_over : (i : ℕ) → i < length xs → Over n near f (nth xs (parent n near f xs i)) (nth xs i)
  unfolding parent
  parent_over i l =
      holds_over (parent n near f xs i) (nth xs i) (nth_inside i l)
      (greatest_good (λ (j : ℕ). holds n near f xs j (nth xs i)) (i - 1) (over_holds 0 (nth xs i) (root_over (nth xs i) (nth_inside i l))))

  -- no node that holds i comes between its parent and i
  pub parent_last : (i j : ℕ) → j < i → Over n near f (nth xs j) (nth xs i) → j ≤ parent n near f xs i
  unfolding parent
  parent_last i j h o = greatest-most (λ (j : ℕ). holds n near f xs j (nth xs i)) (i - 1) j (omega arith) (over_holds j (nth xs i) o)

  pub parent_length : (i : ℕ) → i < length xs → parent n near f xs i < length xs
  unfolding parent
  parent_length i l = omega (arith, greatest_le (λ (j : ℕ). holds n near f xs j (nth xs i)) (i - 1))

  pub parent_level : (i : ℕ) → 0 < i → i < length xs → f (nth xs (parent n near f xs i)) < f (nth xs i)
  parent_level i h l =
      let b = parent_below i h in
      above_level (parent n near f xs i) i (parent_length i l) l (parent_over i l) (λ e. omega arith)

  pub parent_area : (i : ℕ) → 0 < i → i < length xs → area_of n near f xs i < area_of n near f xs (parent n near f xs i)
  parent_area i h l =
      let b = parent_below i h in
      above_area (parent n near f xs i) i (parent_length i l) l (parent_over i l) (λ e. omega arith)

  -- each other node that holds i holds its parent
  pub parent_smallest : (i j : ℕ) → i < length xs → j < length xs → (j ≡ i → ⊥) → Over n near f (nth xs j) (nth xs i)
      → Within n (holds n near f xs (parent n near f xs i)) (holds n near f xs j)
  parent_smallest i j li lj other o q l t =
      let k : ℕ = parent n near f xs i in
      let h : j ≤ k = parent_last i j (above_earlier j i lj li o other) o in
      over_holds j q (nested grid f (nth xs j) (nth xs k) (nth xs i) o (parent_over i li) (level_le j k h (parent_length i li)) q (holds_over k q l t))

  -- the parent in Climb's words
  pub parent_parent : (i : ℕ) → 0 < i → i < length xs → Parent n near f (nth xs i) (nth xs (parent n near f xs i))
  parent_parent i h l = record {
    over = parent_over i l;
    darker = parent_level i h l;
    next = λ c o d.
        (let lc : c < n = start_below o in
        let k : ℕ = own n near f xs c in
        let lk : k < length xs = own_below c lc in
        let e : f (nth xs k) ≡ f c = own_level c lc in
        let ok : Over n near f (nth xs k) (nth xs i) = joined_trans (own_over c lc) (rw e o) in
        let m : k ≤ parent n near f xs i = parent_last i k (level_earlier k i lk l (omega arith)) ok in
        omega (arith, level_le k (parent n near f xs i) m (parent_length i l)));
  }
