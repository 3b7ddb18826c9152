-- The loops that mark the nodes without a child, which are the regional maxima.
use mathlib.Core.Path.{◌≡◌, sym, ap, ◌∙◌}
use mathlib.Core.Logic.{inl, inr}
use mathlib.Core.Bool.{Bool, true, false, not}
use mathlib.Core.List.{List}
use Prim.Native.Nat.{ℕ, ◌+◌, ◌≤◌, ◌<◌}
use native.Mathlib.Omega.{arith}
use lib.Dec.{eqb, eqb→eq, eqb_refl}
use Rattle.meaning.specs.Maxima.{marks, maximum}
use Rattle.meaning.specs.Plate.{grey}
use Rattle.meaning.specs.Sets.{bit, table}
use Rattle.theory_connectivity.proofs.Sizes.{greatest_range}
use Rattle.theory_lists.proofs.Tests.{choice}
use Rattle.work_columns.specs.Columns.{Only, Stored, col}
use Rattle.work_columns.specs.Layout.{PARENT, VALUE, touch_in}
use Rattle.work_columns.specs.declared.Shape.{Shape}
use Rattle.work_columns.proofs.Columns.{only-refl, only_store, only_trans}
use Rattle.maxtree_columns.specs.Tree.{Tree}
use Rattle.maxtree_columns.proofs.Leaves.{child_here, child_none, child_other, has_child, leaf_is-maximum}
use Rattle.maxtree_values.specs.Values.{Ones, ValuesAre}
use Rattle.maxtree_values.proofs.Values.{values_are}

-- the values of all nodes, with the nodes below i as children
pub record Marking (n count : ℕ) (w w' : List ℕ) (i : ℕ) : Type 0 where
  pub first : 1 ≤ i
  pub only : Only VALUE n w w'
  pub values : (j : ℕ) → j < count → col VALUE n w' j ≡ bit (not (has_child i (col PARENT n w) j))

module _ {n count : ℕ} {w : List ℕ} where
  pub marking_first : ((j : ℕ) → j < count → col VALUE n w j ≡ 1) → Marking n count w w 1
  marking_first ones = record {
    first = omega arith;
    only = only-refl VALUE n w;
    values = λ j l. ones j l ∙ rw (child_none (col PARENT n w) j);
  }

  pub marking_more : {w' w'' : List ℕ} {i m : ℕ} → count ≤ n → Marking n count w w' i → m ≡ col PARENT n w' i → Stored w' w'' n VALUE m 0
      → Marking n count w w'' (i + 1)
  marking_more {w'} {w''} {i} {m} few a e s = record {
    first = omega arith;
    only = only_trans a.only (only_store s);
    values = λ j l. elim (choice (eqb j m)) [
      | inl t ↦
          (let x : j ≡ col PARENT n w i = eqb→eq j m t ∙ e' in
          let y : col VALUE n w'' j ≡ 0 = rw (eqb→eq j m t) s.put.here in
          y ∙ rw (x, child_here (col PARENT n w) i a.first))
      | inr t ↦
          s.put.other j (omega arith) (λ x. t (rw x (eqb_refl m))) ∙ a.values j l
          ∙ rw (child_other (col PARENT n w) i j a.first (λ x. t (rw (x ∙ sym e') (eqb_refl m))))
    ];
  }
    where
      e' : m ≡ col PARENT n w i
      e' = e ∙ rw (a.only.off PARENT (omega arith) (λ x. omega arith))

bit_low : (b : Bool) → bit b ≤ 1
bit_low true = omega arith
bit_low false = omega arith

module _ {g : Shape} {f w : List ℕ} {count : ℕ} (t : Tree g f w count) where
  pub marking_done : {w₁ w₂ : List ℕ} {i : ℕ} → Ones g.pixels count w w₁ → Marking g.pixels count w₁ w₂ i → count ≤ i → i ≤ count
      → ValuesAre g.pixels g.greatest (marks g.connectivity g.width f) w w₂
  unfolding marks
  marking_done {w₁} {w₂} {i} o a l b =
      let n : ℕ = g.pixels in
      let x : i ≡ count = omega arith in
      let h : ℕ → ℕ = λ (q : ℕ). bit (maximum n (touch_in g) (grey f) q) in
      let e : table n h ≡ marks g.connectivity g.width f = rw t.pixels in
      rw (← e)
      (values_are t (only_trans o.only a.only) (λ (j : ℕ). bit (not (has_child count (col PARENT n w) j))) h
      (λ j c. rw (← x, ← o.only.off PARENT (omega arith) (λ y. omega arith)) (a.values j c))
      (λ q c. ap bit (leaf_is-maximum t q c))
      (λ q c. omega (arith, bit_low (maximum n (touch_in g) (grey f) q), (greatest_range g.greatest t.plate.range).least)))
