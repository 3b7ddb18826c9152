-- A node is its own pixels and its children. Proved: the nodes that hold p are a chain, whose last is p's own node (last-own) and in which each follows its
-- parent (last-parent); a node that holds p is p's own, or just one child of it holds p (children-count); so a node's area is the number
-- of its own pixels and the sum of its children's areas (children-area).
use mathlib.Core.Path.{◌≡◌, refl, ap, ◌∙◌}
use mathlib.Core.Bool.{Bool, true, false, ◌&&◌}
use mathlib.Core.List.{List}
use Prim.Native.Nat.{ℕ, zero, suc, ◌+◌, ◌≤◌, ◌<◌}
use native.Mathlib.Nat.{zero-add}
use native.Mathlib.Decide.{dec_le}
use native.Mathlib.Omega.{arith}
use lib.Dec.{T, leb, leb→le, eqb, eqb→eq, eqb_refl}
use lib.ListN.{length}
use Rattle.meaning.specs.Nodes.{area_of, holds, own, parent}
use Rattle.meaning.specs.Opening.{Criterion}
use Rattle.meaning.specs.Paths.{Grid}
use Rattle.meaning.specs.Sets.{area, bit, greatest, nth, pick, sum}
use Rattle.theory_lists.proofs.Sets.{greatest_good, greatest_le, greatest-most, greatest-same}
use Rattle.theory_lists.proofs.Sums.{area-sum, sum_add, sum_bits, sum_cong, sum_swap}
use Rattle.theory_lists.proofs.Tests.{bit-and-false, bit-and-true, bit_no, both, both_left, both_right, orders, same_test, tests}
use Rattle.theory_tree.specs.Tree.{Nodes, Over, live}
use Rattle.theory_tree.proofs.Nodes.{holds_over, level_le, level_same, over_holds, over_level, own_below, own_level, own_over, root_over}
use Rattle.theory_tree.proofs.Rises.{live_parent, live-root}

-- every set is kept
abbrev any : (ℕ → Bool) → Bool
any s = true

any_criterion : (n : ℕ) → Criterion n any
any_criterion n = record { increasing = λ s s' w t. t; all = tt }

-- up to suc k is up to k, or suc k
extend : (i k : ℕ) (h : ℕ → Bool) → bit (leb i k && h i) + bit (eqb (suc k) i && h (suc k)) ≡ bit (leb i (suc k) && h i)
extend i k h = elim (dec_le i k) [
  | yes a ↦
      let u : T (leb i k) = omega orders in
      let v : T (leb i (suc k)) = omega orders in
      omega (
        arith,
        ap bit (same_test (leb i k && h i) (leb i (suc k) && h i) (λ t. search tests) (λ t. search tests)),
        bit_no (eqb (suc k) i && h (suc k)) (λ t. omega (arith, eqb→eq (suc k) i (both_left (eqb (suc k) i) (h (suc k)) t))),
      )
  | no a ↦ elim (dec_le i (suc k)) [
    | yes b ↦
        let e : i ≡ suc k = omega arith in
        omega (
          arith,
          bit_no (leb i k && h i) (λ t. omega (arith, leb→le i k (both_left (leb i k) (h i) t))),
          ap bit (same_test (eqb (suc k) i && h (suc k)) (leb i (suc k) && h i)
              (λ t. both (leb i (suc k)) (h i) (omega orders) (rw e (both_right (eqb (suc k) i) (h (suc k)) t)))
              (λ t. both (eqb (suc k) i) (h (suc k)) (rw e (eqb_refl (suc k))) (rw e at (both_right (leb i (suc k)) (h i) t)))),
        )
    | no b ↦
        omega (
          arith,
          bit_no (leb i k && h i) (λ t. omega (arith, leb→le i k (both_left (leb i k) (h i) t))),
          bit_no (eqb (suc k) i && h (suc k)) (λ t. omega (arith, eqb→eq (suc k) i (both_left (eqb (suc k) i) (h (suc k)) t))),
          bit_no (leb i (suc k) && h i) (λ t. omega (arith, leb→le i (suc k) (both_left (leb i (suc k)) (h i) t))),
        )
  ]
]

module _ {n : ℕ} {near : ℕ → ℕ → Bool} (grid : Grid n near) {f : ℕ → ℕ} {xs : List ℕ} (nodes : Nodes n near f xs) where
  root_holds : (p : ℕ) → p < n → T (holds n near f xs 0 p)
  root_holds p l = over_holds grid nodes 0 p (root_over grid nodes p l)

  -- of the nodes that hold p, the last before another is its parent
  pub last_parent : (p k : ℕ) → p < n → suc k < length xs → T (holds n near f xs (suc k) p)
      → greatest (λ (j : ℕ). holds n near f xs j p) k ≡ parent n near f xs (suc k)
  unfolding live
  last_parent p k l m t =
      greatest-same (λ (j : ℕ). holds n near f xs j p) (live n near f xs any p) k (root_holds p l) (live-root grid (any_criterion n) nodes p l)
      (λ j h u. both (holds n near f xs j p) true u tt)
      (λ j h u. both_left (holds n near f xs j p) true u)
      ∙ live_parent grid (any_criterion n) nodes p k l m (both (holds n near f xs (suc k) p) true t tt)

  -- the last of all is p's own node
  pub last_own : (p k : ℕ) → p < n → length xs ≡ suc k → greatest (λ (j : ℕ). holds n near f xs j p) k ≡ own n near f xs p
  last_own p k l e =
      let good : ℕ → Bool = λ (j : ℕ). holds n near f xs j p in
      let g : ℕ = greatest good k in
      let i : ℕ = own n near f xs p in
      let li : i < length xs = own_below grid nodes p l in
      let lg : g < length xs = omega (arith, greatest_le good k) in
      let m : i ≤ g = greatest-most good k i (omega arith) (over_holds grid nodes i p (own_over grid nodes p l)) in
      let o : Over n near f (nth xs g) p = holds_over grid nodes g p l (greatest_good good k (root_holds p l)) in
      level_same grid nodes g i p lg li o (own_over grid nodes p l)
      (omega (arith, over_level grid nodes (nth xs g) p o, own_level grid nodes p l, level_le grid nodes i g m lg))

  -- up to k: a node that holds p is the last, or just one child of it holds p
  chain_count : (p : ℕ) → p < n → (i k : ℕ) → k < length xs
      → sum k (λ (c : ℕ). bit (eqb (parent n near f xs (suc c)) i && holds n near f xs (suc c) p)) + bit
      (eqb (greatest (λ (j : ℕ). holds n near f xs j p) k) i)
      ≡ bit (leb i k && holds n near f xs i p)
  unfolding sum greatest
  chain_count p l i zero m =
      zero-add (bit (eqb 0 i))
      ∙ ap bit (same_test (eqb 0 i) (leb i 0 && holds n near f xs i p)
      (λ t.
      let e : 0 ≡ i = eqb→eq 0 i t in
      both (leb i 0) (holds n near f xs i p) (omega orders) (rw (← e) (root_holds p l)))
      (λ t.
      let e : i ≤ 0 = leb→le i 0 (both_left (leb i 0) (holds n near f xs i p) t) in
      let e' : i ≡ 0 = omega arith in
      rw e' tt))
  chain_count p l i (suc k) m = go (holds n near f xs (suc k) p) refl (chain_count p l i k (omega arith))
    where
      go : (b : Bool) → holds n near f xs (suc k) p ≡ b
          → sum k (λ (c : ℕ). bit (eqb (parent n near f xs (suc c)) i && holds n near f xs (suc c) p))
          + bit (eqb (greatest (λ (j : ℕ). holds n near f xs j p) k) i)
          ≡ bit (leb i k && holds n near f xs i p)
          → bit (eqb (parent n near f xs (suc k)) i && b) + sum k (λ (c : ℕ). bit (eqb (parent n near f xs (suc c)) i && holds n near f xs (suc c) p))
          + bit (eqb (pick b (suc k) (greatest (λ (j : ℕ). holds n near f xs j p) k)) i)
          ≡ bit (leb i (suc k) && holds n near f xs i p)
      go true e ih =
          let u = last_parent p k l m (rw e tt) in
          omega (
            arith,
            ih,
            bit-and-true (eqb (parent n near f xs (suc k)) i),
            ap (λ (j : ℕ). bit (eqb j i)) u,
            bit-and-true (eqb (suc k) i),
            ap (λ (b : Bool). bit (eqb (suc k) i && b)) e,
            extend i k (λ (j : ℕ). holds n near f xs j p),
          )
      go false e ih =
          omega (
            arith,
            ih,
            bit-and-false (eqb (parent n near f xs (suc k)) i),
            bit-and-false (eqb (suc k) i),
            ap (λ (b : Bool). bit (eqb (suc k) i && b)) e,
            extend i k (λ (j : ℕ). holds n near f xs j p),
          )

  pub children_count : (p i k : ℕ) → p < n → i < length xs → length xs ≡ suc k
      → bit (eqb (own n near f xs p) i) + sum k (λ (c : ℕ). bit (eqb (parent n near f xs (suc c)) i && holds n near f xs (suc c) p))
      ≡ bit (holds n near f xs i p)
  children_count p i k l m e =
      let u : T (leb i k) = omega orders in
      omega (
        arith,
        chain_count p l i k (omega arith),
        ap (λ (j : ℕ). bit (eqb j i)) (last_own p k l e),
        ap bit (same_test (leb i k && holds n near f xs i p) (holds n near f xs i p) (λ t. search tests) (λ t. search tests)),
      )

  -- the pixels whose own node is i, and the areas of i's children
  pub children_area : (i k : ℕ) → i < length xs → length xs ≡ suc k
      → area_of n near f xs i
      ≡ area n (λ (p : ℕ). eqb (own n near f xs p) i)
      + sum k (λ (c : ℕ). pick (eqb (parent n near f xs (suc c)) i) (area_of n near f xs (suc c)) 0)
  unfolding area_of
  children_area i k m e =
      let mine : ℕ → ℕ = λ (p : ℕ). bit (eqb (own n near f xs p) i) in
      let child : ℕ → ℕ → ℕ = λ (p c : ℕ). bit (eqb (parent n near f xs (suc c)) i && holds n near f xs (suc c) p) in
      omega (
        arith,
        area-sum n (holds n near f xs i),
        sum_cong n (λ (p : ℕ). mine p + sum k (child p)) (λ (p : ℕ). bit (holds n near f xs i p)) (λ p l. children_count p i k l m e),
        sum_add n mine (λ (p : ℕ). sum k (child p)),
        area-sum n (λ (p : ℕ). eqb (own n near f xs p) i),
        sum_swap n k child,
        sum_cong k (λ (c : ℕ). sum n (λ (p : ℕ). child p c))
            (λ (c : ℕ). pick (eqb (parent n near f xs (suc c)) i) (area n (holds n near f xs (suc c))) 0)
            (λ c l. sum_bits n (eqb (parent n near f xs (suc c)) i) (holds n near f xs (suc c))),
      )
