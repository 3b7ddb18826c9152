-- The specification's nodes are the numbered ones: each number is a node (number-node), each node has exactly one number (node-number, number-only), a
-- node's level is the least grey in it and its anchor its lowest pixel of that level (level-least, anchor-lowest); a pixel's nodes are its own and that
-- one's ancestors (nodes-chain), up to the root, which is the whole plate.
use mathlib.Core.Path.{◌≡◌}
use mathlib.Core.Logic.{◌↔◌}
use mathlib.Core.Bool.{Bool}
use mathlib.Core.List.{List}
use Prim.Native.Nat.{ℕ, zero, suc, ◌-◌, ◌≤◌, ◌<◌}
use native.Mathlib.Nat.{le_refl}
use native.Mathlib.Decide.{dec_le}
use native.Mathlib.Omega.{arith}
use lib.Dec.{T, le→leb}
use lib.ListN.{length}
use Rattle.meaning.specs.Nodes.{NodeSet, Same, holds, level_of, own, parent}
use Rattle.meaning.specs.Opening.{lighter}
use Rattle.meaning.specs.Paths.{Grid, Joined, here}
use Rattle.meaning.specs.Sets.{Within, most, nth}
use Rattle.theory_lists.specs.Members.{Top}
use Rattle.theory_connectivity.proofs.Paths.{end_below, end_ok, joined_mono, joined-sym, joined_trans, joined_within}
use Rattle.theory_lists.proofs.Sets.{most_ge, top}
use Rattle.theory_lists.proofs.Tests.{orders}
use Rattle.theory_tree.specs.Tree.{Ancestor, Nodes, Over, above, self}
use Rattle.theory_tree.proofs.Anchors.{anchor_least}
use Rattle.theory_tree.proofs.Climb.{nested}
use Rattle.theory_tree.proofs.Nodes.{
  above_within,
  holds_over,
  level_le,
  level_same,
  nth_fixed,
  nth_inside,
  over_holds,
  over_level,
  own_below,
  own_level,
  own_over,
  parent_below,
  parent_last,
  parent_length,
  parent_over,
  self_over,
}

module _ {n : ℕ} {near : ℕ → ℕ → Bool} (grid : Grid n near) {f : ℕ → ℕ} {xs : List ℕ} (nodes : Nodes n near f xs) where
  pub number-node : (i : ℕ) → i < length xs → NodeSet n near f (holds n near f xs i)
  number-node i l = record {
    t = f (nth xs i);
    p = nth xs i;
    inside = nth_inside grid nodes i l;
    light = le_refl (f (nth xs i));
    to = holds_over grid nodes i;
    from = over_holds grid nodes i;
  }

  module _ {s : ℕ → Bool} (a : NodeSet n near f s) where
    -- a darkest pixel of the node
    bottom : Top n s (λ (q : ℕ). most n f - f q)
    bottom = top n s (λ (q : ℕ). most n f - f q) a.p a.inside (a.from a.p (here a.inside (le→leb a.t (f a.p) a.light)))

    least : (q : ℕ) → q < n → T (s q) → f bottom.at ≤ f q
    least q l t = omega (arith, bottom.most q l t, most_ge n f q l, most_ge n f bottom.at bottom.below)

    reach : Joined n near (lighter f a.t) a.p bottom.at
    reach = a.to bottom.at bottom.below bottom.member

    number : ℕ
    number = own n near f xs bottom.at

    grey : f (nth xs number) ≡ f bottom.at
    unfolding number
    grey = own_level grid nodes bottom.at bottom.below

    over : Joined n near (lighter f (f bottom.at)) (nth xs number) bottom.at
    unfolding number
    over = rw (own_level grid nodes bottom.at bottom.below) at (own_over grid nodes bottom.at bottom.below)

    to_number : Within n s (holds n near f xs number)
    to_number q l t =
        over_holds grid nodes number q
        (rw grey (joined_trans over
        (joined_within (lighter f (f bottom.at))
        (λ r j. le→leb (f bottom.at) (f r) (least r (end_below j) (a.from r (joined_trans reach j))))
        (joined_trans (joined-sym grid.back reach) (a.to q l t)))))

    from-number : Within n (holds n near f xs number) s
    from-number q l t =
        a.from q (joined_trans reach
        (joined_mono (lighter f a.t) (λ r i u. omega (orders, end_ok reach))
        (joined_trans (joined-sym grid.back over) (rw grey at (holds_over grid nodes number q l t)))))

    pub node-number : (i : ℕ) × (i < length xs) × Same n s (holds n near f xs i)
    unfolding number
    node-number = (number, own_below grid nodes bottom.at bottom.below, (to_number, from-number))

  -- one set, one number
  pub number-only : (i j : ℕ) → i < length xs → j < length xs → Same n (holds n near f xs i) (holds n near f xs j) → i ≡ j
  number-only i j li lj s =
      let ai : ℕ = nth xs i in
      let aj : ℕ = nth xs j in
      let ii : ai < n = nth_inside grid nodes i li in
      let ij : aj < n = nth_inside grid nodes j lj in
      let oi : Over n near f aj ai = holds_over grid nodes j ai ii (s.0 ai ii (over_holds grid nodes i ai (self_over grid nodes i li))) in
      let oj : Over n near f ai aj = holds_over grid nodes i aj ij (s.1 aj ij (over_holds grid nodes j aj (self_over grid nodes j lj))) in
      level_same grid nodes i j ai li lj (self_over grid nodes i li) oi (omega (arith, over_level grid nodes ai aj oj, over_level grid nodes aj ai oi))

  pub level_least : (i q : ℕ) → q < n → T (holds n near f xs i q) → level_of n near f xs i ≤ f q
  level_least i q l t = over_level grid nodes (nth xs i) q (holds_over grid nodes i q l t)

  pub anchor_holds : (i : ℕ) → i < length xs → T (holds n near f xs i (nth xs i))
  anchor_holds i l = over_holds grid nodes i (nth xs i) (self_over grid nodes i l)

  pub anchor-lowest : (i q : ℕ) → i < length xs → q < n → T (holds n near f xs i q) → f q ≡ level_of n near f xs i → nth xs i ≤ q
  anchor-lowest i q l m t e = omega (arith, nth_fixed grid nodes i l, anchor_least grid f (nth xs i) q (holds_over grid nodes i q m t) e)

  -- ---- a pixel's nodes

  -- the parent of a node that holds p holds p
  pub parent_holds : (i p : ℕ) → i < length xs → p < n → T (holds n near f xs i p) → T (holds n near f xs (parent n near f xs i) p)
  parent_holds i p l m t = above_within grid nodes (parent n near f xs i) i (parent_length grid nodes i l) l (parent_over grid nodes i l) p m t

  ancestor_holds : (i j p : ℕ) → i < length xs → p < n → T (holds n near f xs i p) → Ancestor (parent n near f xs) i j → T (holds n near f xs j p)
  ancestor_holds i j p l m t self = t
  ancestor_holds i j p l m t (above h a) =
      ancestor_holds (parent n near f xs i) j p (parent_length grid nodes i l) m (parent_holds i p l m t) a

  -- of two nodes that hold p the one with the lower number is an ancestor; b bounds the higher number
  lower_ancestor : (b i j p : ℕ) → i < b → i < length xs → j ≤ i → p < n → T (holds n near f xs i p) → T (holds n near f xs j p)
      → Ancestor (parent n near f xs) i j
  lower_ancestor zero i j p h l m lp ti tj = absurd (omega arith)
  lower_ancestor (suc b) i j p h l m lp ti tj = elim (dec_le i j) [
    | yes k ↦ let e : i ≡ j = omega arith in rw e self
    | no k ↦
        let pos : 0 < i = omega arith in
        let lj : j < length xs = omega arith in
        let over : Over n near f (nth xs j) (nth xs i) =
        nested grid f (nth xs j) (nth xs i) p (holds_over grid nodes j p lp tj) (holds_over grid nodes i p lp ti) (level_le grid nodes j i m l) (nth xs i)
        (self_over grid nodes i l) in
        let up : j ≤ parent n near f xs i = parent_last grid nodes i j (omega arith) over in
        let less : parent n near f xs i < i = parent_below grid nodes i pos in
        above pos (lower_ancestor b (parent n near f xs i) j p (omega arith) (omega arith) up lp (parent_holds i p l lp ti) tj)
  ]

  -- no node that holds p comes after p's own
  pub holds_before_own : (j p : ℕ) → j < length xs → p < n → T (holds n near f xs j p) → j ≤ own n near f xs p
  holds_before_own j p lj l t = elim (dec_le j (own n near f xs p)) [
    | yes h ↦ h
    | no h ↦
        let o : Over n near f (nth xs j) p = holds_over grid nodes j p l t in
        let e : own n near f xs p ≡ j =
        level_same grid nodes (own n near f xs p) j p (own_below grid nodes p l) lj (own_over grid nodes p l) o
        (omega (arith, over_level grid nodes (nth xs j) p o, own_level grid nodes p l, level_le grid nodes (own n near f xs p) j (omega arith) lj)) in
        absurd (omega arith)
  ]

  pub nodes_chain : (j p : ℕ) → j < length xs → p < n → T (holds n near f xs j p) ↔ Ancestor (parent n near f xs) (own n near f xs p) j
  nodes_chain j p lj l =
      let i : ℕ = own n near f xs p in
      let li : i < length xs = own_below grid nodes p l in
      let ti : T (holds n near f xs i p) = over_holds grid nodes i p (own_over grid nodes p l) in
      (λ t. lower_ancestor (suc i) i j p (omega arith) li (holds_before_own j p lj l t) l ti t, ancestor_holds i j p li l ti)
