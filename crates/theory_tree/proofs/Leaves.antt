-- A pixel is in a regional maximum exactly when its own node has no child.
use mathlib.Core.Path.{◌≡◌, refl, sym, ap, ◌∙◌}
use mathlib.Core.Logic.{inl, inr}
use mathlib.Core.Bool.{Bool, ◌&&◌}
use mathlib.Core.List.{List}
use Prim.Native.Nat.{ℕ, zero, suc, ◌≤◌, ◌<◌}
use native.Mathlib.Decide.{dec_le}
use native.Mathlib.Omega.{arith}
use lib.Dec.{T, leb→le, eqb, eqb→eq, eqb_refl}
use lib.ListN.{length}
use Rattle.meaning.specs.Answers.{over}
use Rattle.meaning.specs.Component.{same}
use Rattle.meaning.specs.Maxima.{Maximum, alike, flat_zone, maximum}
use Rattle.meaning.specs.Nodes.{holds, own, parent}
use Rattle.meaning.specs.Opening.{lighter}
use Rattle.meaning.specs.Paths.{Grid, Joined, here, step}
use Rattle.meaning.specs.Plate.{grey}
use Rattle.meaning.specs.Sets.{bit, has, nth, sum}
use Rattle.theory_connectivity.proofs.Paths.{along, end_below, end_ok, joined_mono, joined-sym, joined_trans, start_below}
use Rattle.theory_lists.proofs.Sums.{sum_pos}
use Rattle.theory_lists.proofs.Tests.{bit_no, bit-true, bit-yes, both_left, choice, orders}
use Rattle.theory_opening.proofs.Maxima.{joined_zone, maximum_complete, maximum_sound, zone_joined}
use Rattle.theory_tree.specs.Tree.{Nodes, Over}
use Rattle.theory_tree.proofs.Children.{children_count}
use Rattle.theory_tree.proofs.Nodes.{over_holds, own_below, own_level, own_over, parent_level, parent_over}

-- a number that is not 0 has a number before it
before : (m : ℕ) → 0 < m → (k : ℕ) × (m ≡ suc k)
before zero h = absurd (omega arith)
before (suc k) h = (k, refl)

module _ {n : ℕ} {near : ℕ → ℕ → Bool} (grid : Grid n near) {f : ℕ → ℕ} {xs : List ℕ} (nodes : Nodes n near f xs) where
  -- from a regional maximum no path over pixels as light or lighter leads out of its flat zone
  stays : (p q : ℕ) → Maximum n near f p → Joined n near (lighter f (f p)) p q → T (has (flat_zone n near f p) q)
  stays p q m j =
      along (λ (a : ℕ). T (has (flat_zone n near f p) a))
      (joined_zone f p p (here (start_below j) (eqb_refl (f p))))
      (λ a b i z u l k. elim (choice (has (flat_zone n near f p) b)) [
        | inl t ↦ t
        | inr e ↦ absurd (omega (arith, m a b (end_below i) l z u e, leb→le (f p) (f b) k))
      ])
      j

  pub maximum_leaf : (p : ℕ) → p < n → T (maximum n near f p) → (i : ℕ) → 0 < i → i < length xs → parent n near f xs i ≡ own n near f xs p → ⊥
  maximum_leaf p l t i h m e =
      let k : ℕ = own n near f xs p in
      let b : ℕ = nth xs i in
      let grey : f (nth xs k) ≡ f p = own_level grid nodes p l in
      let over : Over n near f (nth xs k) b = rw e at (parent_over grid nodes i m) in
      let high : f (nth xs k) < f b = rw e at (parent_level grid nodes i h m) in
      let path : Joined n near (lighter f (f p)) p b =
      joined_trans (joined-sym grid.back (rw grey at (own_over grid nodes p l))) (rw grey at over) in
      let zone : T (has (flat_zone n near f p) b) = stays p b (maximum_sound n near f p t) path in
      let same : f b ≡ f p = eqb→eq (f b) (f p) (end_ok (zone_joined f p b (end_below path) zone)) in
      omega arith

  -- a node that holds r, and is not r's own, has a child that holds r
  child_of : (k r : ℕ) → r < n → k < length xs → T (holds n near f xs k r) → (own n near f xs r ≡ k → ⊥)
      → (i : ℕ) × (0 < i) × (i < length xs) × (parent n near f xs i ≡ k)
  child_of k r l m t other =
      let z = before (length xs) (omega arith) in
      let last : ℕ = z.0 in
      let child : ℕ → Bool = λ (c : ℕ). eqb (parent n near f xs (suc c)) k && holds n near f xs (suc c) r in
      let some-child : 1 ≤ sum last (λ (c : ℕ). bit (child c)) =
      omega (
        arith,
        children_count grid nodes r k last l m z.1,
        bit-yes (holds n near f xs k r) t,
        bit_no (eqb (own n near f xs r) k) (λ u. other (eqb→eq (own n near f xs r) k u)),
      ) in
      let c = sum_pos last (λ (c : ℕ). bit (child c)) some-child in
      let u : T (child c.0) = bit-true (child c.0) c.2 in
      let i : ℕ = suc c.0 in
      let is : parent n near f xs i ≡ k = eqb→eq (parent n near f xs i) k (both_left (eqb (parent n near f xs i) k) (holds n near f xs i r) u) in
      (i, omega arith, omega (arith, z.1, c.1), is)

  pub leaf_maximum : (p : ℕ) → p < n → ((i : ℕ) → 0 < i → i < length xs → parent n near f xs i ≡ own n near f xs p → ⊥) → T (maximum n near f p)
  leaf_maximum p l leaf = maximum_complete n near f p darker
    where
      darker : Maximum n near f p
      darker q r lq lr z u out = elim (dec_le (f p) (f r)) [
        | no h ↦ omega arith
        | yes h ↦
            let k : ℕ = own n near f xs p in
            let grey : f (nth xs k) ≡ f p = own_level grid nodes p l in
            let jq : Joined n near (alike f p) p q = zone_joined f p q lq z in
            let inside : f r ≡ f p → ⊥ = λ e. out (joined_zone f p r (step jq u lr (rw e (eqb_refl (f p))))) in
            let path : Joined n near (lighter f (f p)) p r =
            step (joined_mono (lighter f (f p)) (λ s i t. let e : f s ≡ f p = eqb→eq (f s) (f p) t in omega orders) jq) u lr (omega orders) in
            let over : Over n near f (nth xs k) r = joined_trans (own_over grid nodes p l) (rw grey path) in
            let c = child_of k r lr (own_below grid nodes p l) (over_holds grid nodes k r over)
            (λ e. inside (sym (own_level grid nodes r lr) ∙ ap (λ (j : ℕ). f (nth xs j)) e ∙ grey)) in
            absurd (leaf c.0 c.1 c.2 c.3)
      ]
