-- The trim edge of a plate of n pixels, width w and height h is four lines: first and last row, first and last column. Marks along the four are marks
-- of the edge.
use mathlib.Core.Path.{◌≡◌, sym, ap, ◌∙◌}
use mathlib.Core.Logic.{◌⊎◌, inl, inr}
use mathlib.Core.Bool.{◌||◌}
use mathlib.Core.List.{List}
use Prim.Native.Nat.{ℕ, suc, ◌+◌, ◌-◌, ◌*◌, ◌/◌, ◌%◌, ◌≤◌, ◌<◌}
use native.Mathlib.Nat.{mod-lt, div-add-mod', div-lt_iff_lt-mul, mul_comm, suc-mul}
use native.Mathlib.Omega.{arith}
use lib.Arith.{digits_div, digits_lt, digits_mod}
use lib.Dec.{T, eqb, eqb→eq, eqb_refl}
use Rattle.meaning.specs.Plate.{on_trim_edge}
use Rattle.theory_lists.proofs.Tests.{either_cases, either_left, either_right}
use Rattle.theorems.proofs.Plates.{plate_sizes}
use Rattle.work_columns.specs.declared.Shape.{Shape}
use Rattle.maxtree_columns.specs.Tree.{Tree}
use Rattle.maxtree_columns.proofs.Tree.{own_inside}
use Rattle.maxtree_attribute.specs.Attributes.{Line, Marked, OnLine}
use Rattle.maxtree_attribute.proofs.Marks.{marked_both, marked-same}

module _ {n w h : ℕ} (e : n ≡ w * h) (some : 0 < w) (tall : 0 < h) where
  abbrev FirstRow : ℕ → Type 0
  FirstRow = OnLine 0 1 w

  abbrev LastRow : ℕ → Type 0
  LastRow = OnLine (n - w) 1 w

  abbrev FirstColumn : ℕ → Type 0
  FirstColumn = OnLine 0 w h

  abbrev LastColumn : ℕ → Type 0
  LastColumn = OnLine (w - 1) w h

  turned : n ≡ h * w
  turned = e ∙ mul_comm w h

  -- the pixels ahead of the last row
  ahead : n - w ≡ (h - 1) * w
  ahead = let s : suc (h - 1) ≡ h = omega arith in omega (arith, turned, suc-mul (h - 1) w, ap (λ (m : ℕ). m * w) s)

  -- ---- their pixels are pixels of the plate

  first-row_inside : (i : ℕ) → i < w → 0 + i * 1 < n
  first-row_inside i l = omega (arith, turned, digits_lt {q = 0} {m = h} {r = i} {c = w} tall l)

  last_row_inside : (i : ℕ) → i < w → (n - w) + i * 1 < n
  last_row_inside i l = omega (arith, ahead, turned, digits_lt {q = h - 1} {m = h} {r = i} {c = w} (omega arith) l)

  first-column_inside : (i : ℕ) → i < h → 0 + i * w < n
  first-column_inside i l = omega (arith, turned, digits_lt {q = i} {m = h} {r = 0} {c = w} l some)

  last_column_inside : (i : ℕ) → i < h → (w - 1) + i * w < n
  last_column_inside i l = omega (arith, turned, digits_lt {q = i} {m = h} {r = w - 1} {c = w} l (omega arith))

  -- ---- a pixel is on the edge exactly when it is on one of them

  module _ (p : ℕ) where
    rows : T (eqb (p / w) 0 || eqb (p / w + 1) h) → T (on_trim_edge w h p)
    unfolding on_trim_edge
    rows t = either_left (eqb (p / w) 0 || eqb (p / w + 1) h) (eqb (p % w) 0 || eqb (p % w + 1) w) t

    columns : T (eqb (p % w) 0 || eqb (p % w + 1) w) → T (on_trim_edge w h p)
    unfolding on_trim_edge
    columns t = either_right (eqb (p / w) 0 || eqb (p / w + 1) h) (eqb (p % w) 0 || eqb (p % w + 1) w) t

    same : {a b : ℕ} → a ≡ b → T (eqb a b)
    same {a} {b} x = rw x (eqb_refl b)

    first-row_edge : FirstRow p → T (on_trim_edge w h p)
    first-row_edge (i, l, x) =
        let y : p ≡ 0 * w + i = omega arith in
        let row : p / w ≡ 0 = ap (λ (q : ℕ). q / w) y ∙ digits_div 0 l in
        rows (either_left (eqb (p / w) 0) (eqb (p / w + 1) h) (same row))

    last_row_edge : LastRow p → T (on_trim_edge w h p)
    last_row_edge (i, l, x) =
        let y : p ≡ (h - 1) * w + i = omega (arith, ahead) in
        let row : p / w ≡ h - 1 = ap (λ (q : ℕ). q / w) y ∙ digits_div (h - 1) l in
        let last : p / w + 1 ≡ h = omega arith in
        rows (either_right (eqb (p / w) 0) (eqb (p / w + 1) h) (same last))

    first-column_edge : FirstColumn p → T (on_trim_edge w h p)
    first-column_edge (i, l, x) =
        let y : p ≡ i * w + 0 = omega arith in
        let column : p % w ≡ 0 = ap (λ (q : ℕ). q % w) y ∙ digits_mod i some in
        columns (either_left (eqb (p % w) 0) (eqb (p % w + 1) w) (same column))

    last_column_edge : LastColumn p → T (on_trim_edge w h p)
    last_column_edge (i, l, x) =
        let y : p ≡ i * w + (w - 1) = omega arith in
        let column : p % w ≡ w - 1 = ap (λ (q : ℕ). q % w) y ∙ digits_mod i (omega arith) in
        let last : p % w + 1 ≡ w = omega arith in
        columns (either_right (eqb (p % w) 0) (eqb (p % w + 1) w) (same last))

    module _ (l : p < n) where
      split : (p / w) * w + p % w ≡ p
      split = div-add-mod' p w

      row_inside : p / w < h
      row_inside = (div-lt_iff_lt-mul some).1 (omega (arith, turned))

      by_row : T (eqb (p / w) 0 || eqb (p / w + 1) h) → FirstRow p ⊎ LastRow p
      by_row t = elim (either_cases (eqb (p / w) 0) (eqb (p / w + 1) h) t) [
        | inl u ↦
            let x : p / w ≡ 0 = eqb→eq (p / w) 0 u in
            inl (p % w, mod-lt p some, omega (arith, split, ap (λ (m : ℕ). m * w) x))
        | inr u ↦
            let x : p / w ≡ h - 1 = omega (arith, eqb→eq (p / w + 1) h u) in
            inr (p % w, mod-lt p some, omega (arith, split, ahead, ap (λ (m : ℕ). m * w) x))
      ]

      by-column : T (eqb (p % w) 0 || eqb (p % w + 1) w) → FirstColumn p ⊎ LastColumn p
      by-column t = elim (either_cases (eqb (p % w) 0) (eqb (p % w + 1) w) t) [
        | inl u ↦ inl (p / w, row_inside, omega (arith, split, eqb→eq (p % w) 0 u))
        | inr u ↦ inr (p / w, row_inside, omega (arith, split, eqb→eq (p % w + 1) w u))
      ]

      edge_lines : T (on_trim_edge w h p) → (FirstRow p ⊎ LastRow p) ⊎ (FirstColumn p ⊎ LastColumn p)
      unfolding on_trim_edge
      edge_lines t = elim (either_cases (eqb (p / w) 0 || eqb (p / w + 1) h) (eqb (p % w) 0 || eqb (p % w + 1) w) t) [
        | inl u ↦ inl (by_row u)
        | inr u ↦ inr (by-column u)
      ]

-- ---- the trim edge of the plate whose tree stands in the work space

module _ {g : Shape} {f w : List ℕ} {count : ℕ} (t : Tree g f w count) where
  pixels : g.pixels ≡ g.width * g.height
  pixels = sym t.pixels ∙ t.plate.long

  pub wide : 1 ≤ g.width
  wide = (plate_sizes t.plate).wide.least

  high : 1 ≤ g.height
  high = (plate_sizes t.plate).high.least

  -- a row is no longer than the plate
  pub row_fits : g.width ≤ g.pixels
  row_fits = omega (arith, first-row_inside pixels wide high (g.width - 1) (omega (arith, wide)), wide)

  pub first-row : Line g.pixels w 0 1 g.width
  first-row = record { room = t.room; owns = own_inside t; inside = first-row_inside pixels wide high }

  pub last_row : Line g.pixels w (g.pixels - g.width) 1 g.width
  last_row = record { room = t.room; owns = own_inside t; inside = last_row_inside pixels wide high }

  pub first-column : Line g.pixels w 0 g.width g.height
  first-column = record { room = t.room; owns = own_inside t; inside = first-column_inside pixels wide high }

  pub last_column : Line g.pixels w (g.width - 1) g.width g.height
  last_column = record { room = t.room; owns = own_inside t; inside = last_column_inside pixels wide high }

  -- the four lines marked one after the other
  pub edge_marked : {w₁ w₂ w₃ w₄ : List ℕ} → Marked g.pixels (OnLine 0 1 g.width) w w₁
      → Marked g.pixels (OnLine (g.pixels - g.width) 1 g.width) w₁ w₂ → Marked g.pixels (OnLine 0 g.width g.height) w₂ w₃
      → Marked g.pixels (OnLine (g.width - 1) g.width g.height) w₃ w₄
      → Marked g.pixels (λ p. T (on_trim_edge g.width g.height p)) w w₄
  edge_marked a b c d =
      marked-same (marked_both (own_inside t) (marked_both (own_inside t) (marked_both (own_inside t) a b) c) d)
      (λ p l x. elim x [
        | inl (inl (inl y)) ↦ first-row_edge pixels wide high p y
        | inl (inl (inr y)) ↦ last_row_edge pixels wide high p y
        | inl (inr y) ↦ first-column_edge pixels wide high p y
        | inr y ↦ last_column_edge pixels wide high p y
      ])
      (λ p l x. elim (edge_lines pixels wide high p l x) [
        | inl y ↦ inl (inl y)
        | inr (inl y) ↦ inl (inr y)
        | inr (inr y) ↦ inr y
      ])
