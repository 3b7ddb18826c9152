-- The component tree depends only on the order of the greys.
-- Proved, for greys f and g of one order: the nodes are the same sets (node-order) with the same anchors (anchor-order); a list that numbers the nodes of f
-- numbers those of g (nodes-order), so the lists of the anchors are equal (anchors-order); the own nodes, the areas and the parents are equal
-- (own-order, area-order, parent-order); the whole tree but for the levels is the same (tree-order). The list of the anchors is the same for each bound that
-- no grey exceeds (anchors-bound).
use mathlib.Core.Path.{◌≡◌, sym, ap, ◌∙◌, fun_ext}
use mathlib.Core.Logic.{inl, inr}
use mathlib.Core.Bool.{Bool, ◌&&◌}
use mathlib.Core.List.{List, [], ◌∷◌}
use Prim.Native.Nat.{ℕ, zero, suc, ◌-◌, ◌≤◌, ◌<◌}
use native.Mathlib.Nat.{le_antisymm}
use native.Mathlib.Decide.{dec_le}
use native.Mathlib.Omega.{arith}
use lib.Dec.{T, eqb, eqb→eq, eqb_refl, leb, leb→le, le→leb}
use Rattle.meaning.specs.Nodes.{anchor, anchors, area_of, holds, node, own, parent}
use Rattle.meaning.specs.Opening.{lighter, patch}
use Rattle.meaning.specs.Paths.{Grid}
use Rattle.meaning.specs.Sets.{area, elem, greatest, has, nth, place}
use Rattle.theory_lists.specs.Members.{Rising}
use Rattle.theory_lists.proofs.Sets.{lowest-same}
use Rattle.theory_lists.proofs.Tests.{either_left, either_right, same_test}
use Rattle.theory_connectivity.proofs.Component.{component-same}
use Rattle.theory_tree.specs.Order.{SameOrder, SameTree}
use Rattle.theory_tree.specs.Tree.{Before, Nodes, key}
use Rattle.theory_tree.proofs.Keys.{key-before}
use Rattle.theory_tree.proofs.Nodes.{anchors-nodes, nodes-only}

pub order_refl : (n : ℕ) (f : ℕ → ℕ) → SameOrder n f f
order_refl n f = record { to = λ p q lp lq h. omega arith; from = λ p q lp lq h. omega arith }

pub order_sym : {n : ℕ} {f g : ℕ → ℕ} → SameOrder n f g → SameOrder n g f
order_sym o = record { to = o.from; from = o.to }

module _ {n : ℕ} {f g : ℕ → ℕ} (o : SameOrder n f g) where
  pub order_le : (p q : ℕ) → p < n → q < n → f p ≤ f q → g p ≤ g q
  order_le p q lp lq h = elim (dec_le (g p) (g q)) [
    | yes k ↦ k
    | no k ↦ let u : g q < g p = omega arith in absurd (omega (arith, o.from q p lq lp u))
  ]

  pub order_eq : (p q : ℕ) → p < n → q < n → f p ≡ f q → g p ≡ g q
  order_eq p q lp lq e =
      let e' : f q ≡ f p = sym e in
      le_antisymm (order_le p q lp lq (omega arith)) (order_le q p lq lp (omega arith))

  pub order_before : (p q : ℕ) → p < n → q < n → Before f p q → Before g p q
  order_before p q lp lq (inl h) = inl (o.to p q lp lq h)
  order_before p q lp lq (inr h) = inr (order_eq p q lp lq h.0, h.1)

  -- one order, one order of keys
  order_rising : (xs : List ℕ) → ((q : ℕ) → T (elem xs q) → q < n) → Rising (key n f) xs → Rising (key n g) xs
  order_rising [] i r = tt
  order_rising (x ∷ xs) i r = (
    λ q t.
        (let lx : x < n = i x (either_left (eqb x x) (elem xs x) (eqb_refl x)) in
        let lq : q < n = i q (either_right (eqb x q) (elem xs q) t) in
        (key-before n g x q lx lq).0 (order_before x q lx lq ((key-before n f x q lx lq).1 (r.0 q t)))),
    order_rising xs (λ q t. i q (either_right (eqb x q) (elem xs q) t)) r.1,
  )

-- an entry of a list of pixels is a pixel; so is 0, which stands for the entries beyond its end, where n is not 0
nth_any_below : {n : ℕ} (xs : List ℕ) → ((q : ℕ) → T (elem xs q) → q < n) → (j : ℕ) → 0 < n → nth xs j < n
nth_any_below [] i j l = l
nth_any_below (x ∷ xs) i zero l = i x (either_left (eqb x x) (elem xs x) (eqb_refl x))
nth_any_below (x ∷ xs) i (suc j) l = nth_any_below xs (λ q t. i q (either_right (eqb x q) (elem xs q) t)) j l

-- ---- the nodes and their anchors

module _ {n : ℕ} (near : ℕ → ℕ → Bool) {f g : ℕ → ℕ} (o : SameOrder n f g) where
  -- a pixel that is as light as p by f is so by g
  lighter_order : (p q : ℕ) → p < n → q < n → lighter f (f p) q ≡ lighter g (g p) q
  lighter_order p q lp lq =
      same_test (leb (f p) (f q)) (leb (g p) (g q))
      (λ t. le→leb (g p) (g q) (order_le o p q lp lq (leb→le (f p) (f q) t)))
      (λ t. le→leb (f p) (f q) (order_le (order_sym o) p q lp lq (leb→le (g p) (g q) t)))

  -- p is a pixel; where n is 0 it may be any number
  node_of : (p : ℕ) → (0 < n → p < n) → node n near f p ≡ node n near g p
  unfolding node patch
  node_of p l =
      component-same n near (lighter f (f p)) (lighter g (g p))
      (λ q lq. let lp : p < n = l (omega arith) in lighter_order p q lp lq) p

  pub node_order : (p : ℕ) → p < n → node n near f p ≡ node n near g p
  node_order p l = node_of p (λ h. l)

  pub anchor_order : (p : ℕ) → p < n → anchor n near f p ≡ anchor n near g p
  unfolding anchor
  anchor_order p l =
      lowest-same n (λ (q : ℕ). has (node n near f p) q && eqb (f q) (f p)) (λ (q : ℕ). has (node n near g p) q && eqb (g q) (g p))
      (λ q lq t. rw (← test q lq) t) (λ q lq t. rw (test q lq) t)
    where
      grey : (q : ℕ) → q < n → eqb (f q) (f p) ≡ eqb (g q) (g p)
      grey q lq =
          same_test (eqb (f q) (f p)) (eqb (g q) (g p))
          (λ t. rw (order_eq o q p lq l (eqb→eq (f q) (f p) t)) (eqb_refl (g p)))
          (λ t. rw (order_eq (order_sym o) q p lq l (eqb→eq (g q) (g p) t)) (eqb_refl (f p)))

      test : (q : ℕ) → q < n → (has (node n near f p) q && eqb (f q) (f p)) ≡ (has (node n near g p) q && eqb (g q) (g p))
      test q lq = rw (node_order p l, grey q lq)

  -- ---- the list of the anchors

  -- a list that numbers the nodes of f numbers those of g
  pub nodes_order : (xs : List ℕ) → Nodes n near f xs → Nodes n near g xs
  nodes_order xs a = record {
    inside = a.inside;
    fixed = λ q t. sym (anchor_order q (a.inside q t)) ∙ a.fixed q t;
    all = λ q l. rw (anchor_order q l) at (a.all q l);
    order = order_rising o xs a.inside a.order;
  }

  pub anchors_order : Grid n near → (m m' : ℕ) → ((q : ℕ) → q < n → f q ≤ m) → ((q : ℕ) → q < n → g q ≤ m')
      → anchors m n near f ≡ anchors m' n near g
  anchors_order grid m m' top top' =
      nodes-only (anchors m n near f) (anchors m' n near g)
      (nodes_order (anchors m n near f) (anchors-nodes grid f m top))
      (anchors-nodes grid g m' top')

  -- ---- the columns of the node list

  module _ (xs : List ℕ) (inside : (q : ℕ) → T (elem xs q) → q < n) where
    pub own_order : (p : ℕ) → p < n → own n near f xs p ≡ own n near g xs p
    unfolding own
    own_order p l = ap (place xs) (anchor_order p l)

    holds_order : holds n near f xs ≡ holds n near g xs
    unfolding holds
    holds_order = fun_ext (λ (j : ℕ). ap (λ (c : List Bool). λ (p : ℕ). has c p) (node_of (nth xs j) (nth_any_below xs inside j)))

    pub area_order : area_of n near f xs ≡ area_of n near g xs
    unfolding area_of
    area_order = ap (λ (h : ℕ → ℕ → Bool). λ (i : ℕ). area n (h i)) holds_order

    pub parent_order : parent n near f xs ≡ parent n near g xs
    unfolding parent
    parent_order = ap (λ (h : ℕ → ℕ → Bool). λ (i : ℕ). greatest (λ (j : ℕ). h j (nth xs i)) (i - 1)) holds_order

  -- the whole tree
  pub tree_order : Grid n near → (m m' : ℕ) → ((q : ℕ) → q < n → f q ≤ m) → ((q : ℕ) → q < n → g q ≤ m') → SameTree n near f g m m'
  tree_order grid m m' top top' =
      let inside : (q : ℕ) → T (elem (anchors m' n near g) q) → q < n = (anchors-nodes grid g m' top').inside in
      record {
        nodes = anchors_order grid m m' top top';
        owns = λ p l. rw (anchors_order grid m m' top top') (own_order (anchors m' n near g) inside p l);
        areas = rw (anchors_order grid m m' top top') (area_order (anchors m' n near g) inside);
        parents = rw (anchors_order grid m m' top top') (parent_order (anchors m' n near g) inside);
        levels = λ i. rw (anchors_order grid m m' top top');
      }

-- the list of the anchors is the same for each bound that no grey exceeds
pub anchors_bound : {n : ℕ} {near : ℕ → ℕ → Bool} → Grid n near → (f : ℕ → ℕ) (m m' : ℕ)
    → ((q : ℕ) → q < n → f q ≤ m) → ((q : ℕ) → q < n → f q ≤ m') → anchors m n near f ≡ anchors m' n near f
anchors_bound {n} {near} grid f = anchors_order near (order_refl n f) grid
