-- Loops that add into a table: step k adds v k at place c k. The table of tallies after a step, what stands at a place, and how much it can be.
use mathlib.Core.Path.{◌≡◌, refl, sym, ap, ◌∙◌}
use mathlib.Core.Logic.{inl, inr}
use mathlib.Core.Bool.{Bool, true, false}
use mathlib.Core.List.{List, ◌++◌}
use Prim.Native.Nat.{ℕ, zero, suc, ◌+◌, ◌*◌, ◌≤◌, ◌<◌}
use native.Mathlib.Nat.{suc-mul}
use native.Mathlib.Numerals.{add-one}
use native.Mathlib.Omega.{arith}
use lib.Dec.{eqb, eqb→eq, eqb_refl}
use lib.ListN.{length, get_or, set, drop, length-set, get_or-append}
use lib.Seq.{ext_get_or, get_or-set_same, get_or-set_other, set-append_left, drop_at}
use Rattle.meaning.specs.Answers.{over}
use Rattle.meaning.specs.Sets.{area, bit, pick, sum, table}
use Rattle.theory_lists.proofs.Lists.{get_d_table, length-table, table_same}
use Rattle.theory_lists.proofs.Sums.{area-sum, sum_cong}
use Rattle.theory_lists.proofs.Tests.{choice, pick_le, pick_no, pick_yes}
use Rattle.record_sizes.specs.Sizes.{tally}

-- a store into a table
set-table : (m : ℕ) (g g' : ℕ → ℕ) (a x : ℕ) → a < m → x ≡ g' a → ((i : ℕ) → i < m → (i ≡ a → ⊥) → g i ≡ g' i) → set (table m g) a x ≡ table m g'
set-table m g g' a x l e other =
    ext_get_or 0 (set (table m g) a x) (table m g') (length-set (table m g) a x ∙ length-table m g ∙ sym (length-table m g'))
    (λ i h. go i (rw (length-set (table m g) a x ∙ length-table m g) at h))
  where
    go : (i : ℕ) → i < m → get_or (set (table m g) a x) i 0 ≡ get_or (table m g') i 0
    go i h = elim (choice (eqb i a)) [
      | inl t ↦
          (let s : i ≡ a = eqb→eq i a t in
          rw s (get_or-set_same (table m g) a x 0 (rw (length-table m g) l) ∙ e ∙ sym (get_d_table m g' a 0 l)))
      | inr t ↦
          (let s : i ≡ a → ⊥ = λ y. t (rw y (eqb_refl a)) in
          get_or-set_other (table m g) a i x 0 s ∙ get_d_table m g i 0 h ∙ other i h s ∙ sym (get_d_table m g' i 0 h))
    ]

-- ---- tallies

module _ (c v : ℕ → ℕ) where
  tally-more : (k a : ℕ) → tally c v (k + 1) a ≡ pick (eqb (c k) a) (v k) 0 + tally c v k a
  unfolding tally sum
  tally-more k a = rw (add-one k)

  tally-none : (a : ℕ) → tally c v 0 a ≡ 0
  unfolding tally sum
  tally-none a = refl

  -- k steps that add at most b each at a
  pub tally_le : (b k a : ℕ) → ((j : ℕ) → j < k → c j ≡ a → v j ≤ b) → tally c v k a ≤ k * b
  unfolding tally sum
  tally_le b zero a h = omega arith
  tally_le b (suc k) a h =
      omega (arith, suc-mul k b, pick_le (eqb (c k) a) (v k) b (λ t. h k (omega arith) (eqb→eq (c k) a t)), tally_le b k a (λ j l e. h j (omega arith) e))

  -- the tallies at 1 to m
  abbrev pub tallies : ℕ → ℕ → List ℕ
  tallies m k = table m (λ (i : ℕ). tally c v k (suc i))

  -- what stands at a place
  pub tallies_at : (m k a : ℕ) (d : List ℕ) → a < m → get_or (tallies m k ++ d) a 0 ≡ tally c v k (suc a)
  tallies_at m k a d l =
      get_or-append (tallies m k) d 0 a (rw (length-table m (λ (i : ℕ). tally c v k (suc i))) l)
      ∙ get_d_table m (λ (i : ℕ). tally c v k (suc i)) a 0 l

  -- step k adds at place c k - 1
  pub tallies_more : (m k a x : ℕ) (d : List ℕ) → a < m → c k ≡ suc a → x ≡ tally c v k (suc a) + v k
      → set (tallies m k ++ d) a x ≡ tallies m (k + 1) ++ d
  tallies_more m k a x d l e s =
      set-append_left (tallies m k) d a x (rw (length-table m (λ (i : ℕ). tally c v k (suc i))) l)
      ∙ ap (λ (t : List ℕ). t ++ d)
      (set-table m (λ (i : ℕ). tally c v k (suc i)) (λ (i : ℕ). tally c v (k + 1) (suc i)) a x l
      (omega (arith, tally-more k (suc a), pick_yes (eqb (c k) (suc a)) (v k) 0 (rw e (eqb_refl (suc a)))))
      (λ i h y. omega (arith, tally-more k (suc i), pick_no (eqb (c k) (suc i)) (v k) 0 (λ t. y (omega (arith, eqb→eq (c k) (suc i) t))))))

  -- a step that adds past the table
  pub tallies_past : (m k : ℕ) → m < c k → tallies m (k + 1) ≡ tallies m k
  tallies_past m k l = table_same m (λ (i : ℕ). tally c v (k + 1) (suc i)) (λ (i : ℕ). tally c v k (suc i)) (λ i h.
      omega (arith, tally-more k (suc i), pick_no (eqb (c k) (suc i)) (v k) 0 (λ t. omega (arith, eqb→eq (c k) (suc i) t))))

  -- before the first step
  pub tallies_none : (m : ℕ) → tallies m 0 ≡ table m (λ (i : ℕ). 0)
  tallies_none m = table_same m (λ (i : ℕ). tally c v 0 (suc i)) (λ (i : ℕ). 0) (λ i h. tally-none (suc i))

-- tallies of ones count
pub tally_one : (c : ℕ → ℕ) (k a : ℕ) → tally c (λ (j : ℕ). 1) k a ≡ area k (λ (j : ℕ). eqb (c j) a)
unfolding tally
tally_one c k a =
    sum_cong k (λ (j : ℕ). pick (eqb (c j) a) 1 0) (λ (j : ℕ). bit (eqb (c j) a)) (λ j l. same (eqb (c j) a))
    ∙ sym (area-sum k (λ (j : ℕ). eqb (c j) a))
  where
    same : (b : Bool) → pick b 1 0 ≡ bit b
    same true = refl
    same false = refl

-- the same of places and amounts that agree
pub tally_cong : (c v c' v' : ℕ → ℕ) (k a : ℕ) → ((j : ℕ) → j < k → pick (eqb (c j) a) (v j) 0 ≡ pick (eqb (c' j) a) (v' j) 0)
    → tally c v k a ≡ tally c' v' k a
unfolding tally
tally_cong c v c' v' k a e = sum_cong k (λ (j : ℕ). pick (eqb (c j) a) (v j) 0) (λ (j : ℕ). pick (eqb (c' j) a) (v' j) 0) e

-- a table after which all is as it was
pub over-drop : (m : ℕ) (g : ℕ → ℕ) (d : List ℕ) → drop m (over (table m g) d) ≡ drop m d
over-drop m g d = drop_at (table m g) (drop (length (table m g)) d) m (length-table m g) ∙ rw (length-table m g)
