-- The cut of the component tree as a sum of rises. The rise of a node is its level less its parent's, and of node 0 its level.
-- Proved, for every criterion: the opening's grey at p is the level of the last kept node that holds p (opened-last),
-- which is the highest level of such a node (live-level); it is the sum of the rises of the kept nodes that hold p (opened-sum); and the total of the
-- opening is the sum over the kept nodes of area times rise (total-sum).
use mathlib.Core.Path.{◌≡◌, refl, sym, ap, ◌∙◌}
use mathlib.Core.Bool.{Bool, true, false}
use mathlib.Core.List.{List}
use Prim.Native.Nat.{ℕ, zero, suc, ◌+◌, ◌-◌, ◌*◌, ◌≤◌, ◌<◌}
use native.Mathlib.Nat.{le_refl, le_trans, le_of_eq, le_antisymm}
use native.Mathlib.Omega.{arith}
use lib.Dec.{T, leb→le}
use lib.ListN.{length}
use Rattle.meaning.specs.Nodes.{area_of, holds, node, own, parent, rise}
use Rattle.meaning.specs.Opening.{Criterion, lighter, opened_at, patch}
use Rattle.meaning.specs.Paths.{Grid, Joined}
use Rattle.meaning.specs.Sets.{Within, greatest, has, nth, pick, sum}
use Rattle.theory_connectivity.proofs.Paths.{end_below, end_ok, joined-sym, joined_trans}
use Rattle.theory_lists.proofs.Sets.{greatest_good, greatest_le, greatest-most, greatest-same}
use Rattle.theory_lists.proofs.Sums.{sum_cong, sum_members, sum_swap}
use Rattle.theory_lists.proofs.Tests.{both, both_left, both_right, pick_yes}
use Rattle.theory_opening.proofs.Opening.{joined-patch, opened_kept, opened_least, patch-same}
use Rattle.theory_tree.specs.Tree.{Nodes, Over, live}
use Rattle.theory_tree.proofs.Climb.{nested}
use Rattle.theory_tree.proofs.Hits.{opened_hit}
use Rattle.theory_tree.proofs.Nodes.{
  above_within,
  holds_over,
  level_le,
  nth_inside,
  over_holds,
  own_below,
  own_level,
  own_over,
  parent_level,
  root_over,
  self_over,
  some-node,
}

module _ {n : ℕ} {near : ℕ → ℕ → Bool} {keep : (ℕ → Bool) → Bool} (grid : Grid n near) (crit : Criterion n keep)
    {f : ℕ → ℕ} {xs : List ℕ} (nodes : Nodes n near f xs) where
  -- ---- the kept nodes that hold p

  live_intro : (p j : ℕ) → T (holds n near f xs j p) → T (keep (holds n near f xs j)) → T (live n near f xs keep p j)
  unfolding live
  live_intro p j s t = both (holds n near f xs j p) (keep (holds n near f xs j)) s t

  live_holds : (p j : ℕ) → T (live n near f xs keep p j) → T (holds n near f xs j p)
  unfolding live
  live_holds p j t = both_left (holds n near f xs j p) (keep (holds n near f xs j)) t

  live-keep : (p j : ℕ) → T (live n near f xs keep p j) → T (keep (holds n near f xs j))
  unfolding live
  live-keep p j t = both_right (holds n near f xs j p) (keep (holds n near f xs j)) t

  -- node 0 is kept, and holds every pixel
  pub live-root : (p : ℕ) → p < n → T (live n near f xs keep p 0)
  live-root p l =
      live_intro p 0 (over_holds grid nodes 0 p (root_over grid nodes p l))
      (crit.increasing (λ q. true) (holds n near f xs 0) (λ q m t. over_holds grid nodes 0 q (root_over grid nodes q m)) crit.all)

  -- a kept node that holds p is no lighter than the opening at p
  pub live_level : (p j : ℕ) → p < n → T (live n near f xs keep p j) → f (nth xs j) ≤ opened_at n near keep f p
  unfolding holds node
  live_level p j l t =
      let a : ℕ = nth xs j in
      let o : Over n near f a p = holds_over grid nodes j p l (live_holds p j t) in
      opened_least grid crit f (f a) p (leb→le (f a) (f p) (end_ok o))
      (crit.increasing (has (patch n near f (f a) a)) (has (patch n near f (f a) p)) (patch-same grid f (f a) a p o) (live-keep p j t))

  -- and one of them is as light
  pub live_hit : (p : ℕ) → p < n → (j : ℕ) × (j < length xs) × T (live n near f xs keep p j) × (f (nth xs j) ≡ opened_at n near keep f p)
  unfolding holds node
  live_hit p l =
      let t : ℕ = opened_at n near keep f p in
      let r = opened_hit grid crit f p l in
      let m : r.at < n = end_below r.joined in
      let j : ℕ = own n near f xs r.at in
      let a : ℕ = nth xs j in
      let e : f a ≡ t = own_level grid nodes r.at m ∙ r.level in
      let o : Joined n near (lighter f t) a p = joined_trans (rw e at (own_over grid nodes r.at m)) (joined-sym grid.back r.joined) in
      let h : T (has (patch n near f (f a) a) p) = rw e (joined-patch grid f t a p o) in
      let k : T (keep (has (patch n near f (f a) a))) =
      rw e (crit.increasing (has (patch n near f t p)) (has (patch n near f t a)) (patch-same grid f t p a (joined-sym grid.back o))
      (opened_kept grid crit f t p l (le_refl t))) in
      (j, own_below grid nodes r.at m, live_intro p j h k, e)

  -- the opening's grey is the level of the last kept node that holds p
  pub opened_last : (p k : ℕ) → p < n → length xs ≡ suc k → opened_at n near keep f p ≡ f (nth xs (greatest (live n near f xs keep p) k))
  opened_last p k l e =
      let good : ℕ → Bool = live n near f xs keep p in
      let g : ℕ = greatest good k in
      let lg : g ≤ k = greatest_le good k in
      let r = live_hit p l in
      let m : r.0 ≤ g = greatest-most good k r.0 (omega arith) r.2 in
      le_antisymm
      (le_trans (le_of_eq (sym r.3)) (level_le grid nodes r.0 g m (omega arith)))
      (live_level p g l (greatest_good good k (live-root p l)))

  -- ---- the sum of the rises

  -- of the nodes before a kept node k that holds p, those are kept and hold p that hold node k
  pub live_parent : (p k : ℕ) → p < n → suc k < length xs → T (live n near f xs keep p (suc k))
      → greatest (live n near f xs keep p) k ≡ parent n near f xs (suc k)
  unfolding parent
  live_parent p k l m t =
      let a : ℕ = nth xs (suc k) in
      let la : a < n = nth_inside grid nodes (suc k) m in
      let e : suc k - 1 ≡ k = omega arith in
      let o : Over n near f a p = holds_over grid nodes (suc k) p l (live_holds p (suc k) t) in
      rw e (greatest-same (live n near f xs keep p) (λ (j : ℕ). holds n near f xs j a) k (live-root p l)
      (over_holds grid nodes 0 a (root_over grid nodes a la))
      (λ j h u.
      let oj : Over n near f (nth xs j) p = holds_over grid nodes j p l (live_holds p j u) in
      over_holds grid nodes j a (nested grid f (nth xs j) a p oj o (level_le grid nodes j (suc k) (omega arith) m) a (self_over grid nodes (suc k) m)))
      (λ j h u.
      let w : Within n (holds n near f xs (suc k)) (holds n near f xs j) =
      above_within grid nodes j (suc k) (omega arith) m (holds_over grid nodes j a la u) in
      live_intro p j (w p l (live_holds p (suc k) t)) (crit.increasing (holds n near f xs (suc k)) (holds n near f xs j) w (live-keep p (suc k) t))))

  -- the rises of the kept nodes up to k that hold p, summed, are the level of the last of these nodes
  live-sum : (p : ℕ) → p < n → (k : ℕ) → k < length xs
      → sum (suc k) (λ (j : ℕ). pick (live n near f xs keep p j) (rise n near f xs j) 0) ≡ f (nth xs (greatest (live n near f xs keep p) k))
  unfolding sum rise greatest
  live-sum p l zero m = omega (arith, pick_yes (live n near f xs keep p 0) (f (nth xs 0)) 0 (live-root p l))
  live-sum p l (suc k) m = go (live n near f xs keep p (suc k)) refl (live-sum p l k (omega arith))
    where
      go : (b : Bool) → live n near f xs keep p (suc k) ≡ b
          → sum (suc k) (λ (j : ℕ). pick (live n near f xs keep p j) (rise n near f xs j) 0) ≡ f (nth xs (greatest (live n near f xs keep p) k))
          → pick b (rise n near f xs (suc k)) 0 + sum (suc k) (λ (j : ℕ). pick (live n near f xs keep p j) (rise n near f xs j) 0)
          ≡ f (nth xs (pick b (suc k) (greatest (live n near f xs keep p) k)))
      go true e ih =
          let u : greatest (live n near f xs keep p) k ≡ parent n near f xs (suc k) = live_parent p k l m (rw e tt) in
          omega (arith, ih, ap (λ (j : ℕ). f (nth xs j)) u, parent_level grid nodes (suc k) (omega arith) m)
      go false e ih = omega (arith, ih)

  pub opened-sum : (p : ℕ) → p < n → opened_at n near keep f p ≡ sum (length xs) (λ (j : ℕ). pick (live n near f xs keep p j) (rise n near f xs j) 0)
  opened-sum p l = go (length xs) refl
    where
      go : (k : ℕ) → length xs ≡ k → opened_at n near keep f p ≡ sum k (λ (j : ℕ). pick (live n near f xs keep p j) (rise n near f xs j) 0)
      go zero e = absurd (omega (arith, some-node grid nodes p l))
      go (suc k) e = opened_last p k l e ∙ sym (live-sum p l k (omega arith))

  -- the total of the opening: area times rise, over the kept nodes
  pub total-sum : sum n (opened_at n near keep f)
      ≡ sum (length xs) (λ (j : ℕ). pick (keep (holds n near f xs j)) (area_of n near f xs j * rise n near f xs j) 0)
  unfolding area_of live
  total-sum =
      sum_cong n (opened_at n near keep f) (λ (p : ℕ). sum (length xs) (λ (j : ℕ). pick (live n near f xs keep p j) (rise n near f xs j) 0)) opened-sum
      ∙ sum_swap n (length xs) (λ (p j : ℕ). pick (live n near f xs keep p j) (rise n near f xs j) 0)
      ∙ sum_cong (length xs) (λ (j : ℕ). sum n (λ (p : ℕ). pick (live n near f xs keep p j) (rise n near f xs j) 0))
      (λ (j : ℕ). pick (keep (holds n near f xs j)) (area_of n near f xs j * rise n near f xs j) 0)
      (λ j l. sum_members n (holds n near f xs j) (keep (holds n near f xs j)) (rise n near f xs j))
