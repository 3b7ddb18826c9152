-- The opening by climbing the component tree: from a pixel's node up through the parents to the first node that is kept.
-- Three equations say so: at a kept node the opening is the node's level (climb-kept); at a node that is not kept it is the parent's
-- (climb-parent); and pixels of one grey in one node have one opening (climb-same).
use mathlib.Core.Path.{◌≡◌}
use mathlib.Core.Bool.{Bool}
use Prim.Native.Nat.{ℕ, ◌≤◌, ◌<◌}
use native.Mathlib.Nat.{le_refl, le_antisymm}
use native.Mathlib.Decide.{dec_le}
use native.Mathlib.Omega.{arith}
use lib.Dec.{T}
use Rattle.meaning.specs.Nodes.{node}
use Rattle.meaning.specs.Opening.{Criterion, lighter, opened_at, patch}
use Rattle.meaning.specs.Paths.{Grid, Joined}
use Rattle.meaning.specs.Sets.{has}
use Rattle.theory_connectivity.proofs.Paths.{end_below, end_ok, joined_mono, joined-sym, joined_trans, start_below}
use Rattle.theory_lists.proofs.Tests.{orders}
use Rattle.theory_opening.proofs.Opening.{opened_below, opened_kept, opened_least, patch-same}
use Rattle.theory_tree.specs.Tree.{Hit, Over, Parent}
use Rattle.theory_tree.proofs.Hits.{opened_hit}

module _ {n : ℕ} {near : ℕ → ℕ → Bool} (grid : Grid n near) (f : ℕ → ℕ) where
  -- two nodes with a common pixel are nested: the darker holds the lighter
  pub nested : (a b p : ℕ) → Over n near f a p → Over n near f b p → f a ≤ f b → (q : ℕ) → Over n near f b q → Over n near f a q
  nested a b p ja jb l q jq =
      joined_trans ja (joined_mono (lighter f (f a)) (λ r i t. omega orders) (joined_trans (joined-sym grid.back jb) jq))

module _ {n : ℕ} {near : ℕ → ℕ → Bool} {keep : (ℕ → Bool) → Bool} (grid : Grid n near) (crit : Criterion n keep) (f : ℕ → ℕ) where
  pub climb_kept : (a : ℕ) → T (keep (has (node n near f a))) → opened_at n near keep f a ≡ f a
  unfolding node
  climb_kept a k = le_antisymm (opened_below grid crit f a) (opened_least grid crit f (f a) a (le_refl (f a)) k)

  -- what is kept at p at level t is kept at q, where the two are joined at t
  carry : (t p q : ℕ) → Joined n near (lighter f t) p q → T (keep (has (patch n near f t p))) → t ≤ opened_at n near keep f q
  carry t p q j k =
      opened_least grid crit f t q (omega (orders, end_ok j))
      (crit.increasing (has (patch n near f t p)) (has (patch n near f t q)) (patch-same grid f t p q j) k)

  -- the opening's grey at p is below p's grey where p's node is not kept
  below_node : (p : ℕ) → p < n → (T (keep (has (node n near f p))) → ⊥) → opened_at n near keep f p < f p
  unfolding node
  below_node p l no-keep = elim (dec_le (f p) (opened_at n near keep f p)) [
    | yes h ↦ absurd (no-keep (opened_kept grid crit f (f p) p l h))
    | no h ↦ omega arith
  ]

  -- the opening's grey at a comes from a node that holds a
  hit_over : (t a : ℕ) → (r : Hit n near f t a) → Over n near f r.at a
  hit_over t a r = rw r.level (joined-sym grid.back r.joined)

  pub climb_parent : (a b : ℕ) → Parent n near f a b → (T (keep (has (node n near f a))) → ⊥) → opened_at n near keep f a ≡ opened_at n near keep f b
  climb_parent a b r no-keep =
      let la : a < n = end_below r.over in
      let lb : b < n = start_below r.over in
      let t : ℕ = opened_at n near keep f a in
      let u : ℕ = opened_at n near keep f b in
      let h = opened_hit grid crit f a la in
      let below : t < f a = below_node a la no-keep in
      let high : f h.at ≤ f b = r.next h.at (hit_over t a h) (omega (arith, h.level)) in
      let here-t : Joined n near (lighter f t) a b =
      joined-sym grid.back (joined_mono (lighter f t) (λ q i v. omega (orders, h.level)) r.over) in
      let here-u : Joined n near (lighter f u) b a =
      joined_mono (lighter f u) (λ q i v. omega (orders, opened_below grid crit f b)) r.over in
      le_antisymm
      (carry t a b here-t (opened_kept grid crit f t a la (le_refl t)))
      (carry u b a here-u (opened_kept grid crit f u b lb (le_refl u)))

  -- pixels of one grey in one node have one opening
  same_le : (p q : ℕ) → Joined n near (lighter f (f p)) p q → opened_at n near keep f p ≤ opened_at n near keep f q
  same_le p q j =
      let t : ℕ = opened_at n near keep f p in
      carry t p q (joined_mono (lighter f t) (λ r i u. omega (orders, opened_below grid crit f p)) j)
      (opened_kept grid crit f t p (start_below j) (le_refl t))

  pub climb_same : (p q : ℕ) → Joined n near (lighter f (f p)) p q → f q ≡ f p → opened_at n near keep f p ≡ opened_at n near keep f q
  climb_same p q j e = le_antisymm (same_le p q j) (same_le q p (rw e (joined-sym grid.back j)))
