-- Laws of marks: a store is one, marks follow one another, and the pixels that pass may be said in another way; areas copied from the front.
use mathlib.Core.Path.{◌≡◌, sym, ap, ◌∙◌}
use mathlib.Core.Logic.{◌⊎◌, inl, inr}
use mathlib.Core.List.{List}
use Prim.Native.Nat.{ℕ, ◌+◌, ◌<◌}
use native.Mathlib.Omega.{arith}
use Rattle.work_columns.specs.Columns.{Only, Stored, col}
use Rattle.work_columns.specs.Layout.{AREA, ATTRIBUTE, OWN}
use Rattle.work_columns.proofs.Columns.{column-more, frame_room, only_store, only_trans}
use Rattle.maxtree_attribute.specs.Attributes.{AreasCopied, Line, Marked}

-- ---- the other columns stand

owns_stand : {n : ℕ} {w w' : List ℕ} → Only ATTRIBUTE n w w' → (p : ℕ) → col OWN n w' p ≡ col OWN n w p
owns_stand a p = ap (λ (c : ℕ → ℕ). c p) (a.off OWN (omega arith) (λ x. omega arith))

-- ---- areas copied

pub copied_more : {n i v : ℕ} {w w' w'' : List ℕ} → AreasCopied n i w w' → i < n → v ≡ col AREA n w' i → Stored w' w'' n ATTRIBUTE i v
    → AreasCopied n (i + 1) w w''
copied_more {n} {i} {v} {w} a l e s = record {
  only = only_trans a.only (only_store s);
  areas = column-more (col AREA n w) s l (e ∙ ap (λ (c : ℕ → ℕ). c i) (a.only.off AREA (omega arith) (λ x. omega arith))) a.areas;
}

-- ---- marks

pub marked-same : {n : ℕ} {A B : ℕ → Type 0} {w w' : List ℕ} → Marked n A w w'
    → ((p : ℕ) → p < n → A p → B p) → ((p : ℕ) → p < n → B p → A p) → Marked n B w w'
marked-same a to from = record {
  only = a.only;
  marks = λ p l x. a.marks p l (from p l x);
  others = λ j l. elim (a.others j l) [
    | inl x ↦ inl x
    | inr x ↦ inr (x.0, (x.1.0, x.1.1, to x.1.0 x.1.1 x.1.2, x.1.3))
  ];
}

module _ {n : ℕ} {A B : ℕ → Type 0} {w w' w'' : List ℕ}
    (owns : (p : ℕ) → p < n → col OWN n w p < n) (a : Marked n A w w') (b : Marked n B w' w'') where
  own : (p : ℕ) → col OWN n w' p ≡ col OWN n w p
  own = owns_stand a.only

  first : (p : ℕ) → p < n → A p → col ATTRIBUTE n w'' (col OWN n w p) ≡ n
  first p l x = elim (b.others (col OWN n w p) (owns p l)) [ inl y ↦ y ∙ a.marks p l x | inr y ↦ y.0 ]

  second : (p : ℕ) → p < n → B p → col ATTRIBUTE n w'' (col OWN n w p) ≡ n
  second p l x = ap (col ATTRIBUTE n w'') (sym (own p)) ∙ b.marks p l x

  -- marks after marks
  pub marked_both : Marked n (λ p. A p ⊎ B p) w w''
  marked_both = record {
    only = only_trans a.only b.only;
    marks = λ p l x. elim x [ inl y ↦ first p l y | inr y ↦ second p l y ];
    others = λ j l. elim (b.others j l) [
      | inl y ↦ elim (a.others j l) [
        | inl x ↦ inl (y ∙ x)
        | inr x ↦ inr (y ∙ x.0, (x.1.0, x.1.1, inl x.1.2, x.1.3))
      ]
      | inr y ↦ inr (y.0, (y.1.0, y.1.1, inr y.1.2, sym (own y.1.0) ∙ y.1.3))
    ];
  }

-- ---- the pixels of a line

pub line_kept : {n : ℕ} {w w' : List ℕ} {first step times : ℕ}
    → Line n w first step times → Only ATTRIBUTE n w w' → Line n w' first step times
line_kept l a = record {
  room = frame_room l.room a.frame;
  owns = λ p h. omega (arith, owns_stand a p, l.owns p h);
  inside = l.inside;
}
