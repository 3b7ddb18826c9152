-- A plate of h rows of w pixels is a grid, with connectivity 4, 6 and 8: touching is symmetric, and a path leads from each pixel to each.
use mathlib.Core.Path.{◌≡◌, subst, ◌∙◌}
use mathlib.Core.Bool.{Bool, true, false, ◌||◌}
use mathlib.Core.Logic.{inl, inr}
use Prim.Native.Nat.{ℕ, zero, suc, ◌+◌, ◌*◌, ◌/◌, ◌%◌, ◌<◌, max}
use native.Mathlib.Nat.{mod-lt, div-add-mod', div-lt_iff_lt-mul, mul_comm, zero-mul}
use native.Mathlib.Omega.{arith}
use lib.Arith.{digits_lt, digits_div, digits_mod}
use lib.Dec.{T, eqb, eqb→eq, eqb_refl}
use Rattle.meaning.specs.Paths.{Grid, Joined, Symmetric, here, step}
use Rattle.meaning.specs.Plate.{apart, by_edge, by_edge_or_corner, by_edge_or_diagonal, grid_fits, lower_right, touch, touch_at, upper_left}
use Rattle.meaning.specs.Sets.{pick}
use Rattle.theory_lists.proofs.Tests.{both, both_left, both_right, either_cases, either_left, either_right}
use Rattle.theory_connectivity.proofs.Paths.{joined-sym, joined_trans}
use Rattle.theory_connectivity.proofs.Sizes.{grid_sizes}

apart_comm : (a b : ℕ) → apart a b ≡ apart b a
apart_comm a b = omega arith

turned : (a b : ℕ) → T (eqb a b) → T (eqb b a)
turned a b t = rw (eqb→eq a b t) (eqb_refl b)

-- ---- the pixel in column x of row y, and the pixel in column x' of row y'

module _ (x y x' y' : ℕ) where
  edge_back : T (by_edge x y x' y') → T (by_edge x' y' x y)
  edge_back t = rw (apart_comm x' x, apart_comm y' y) t

  corner_back : T (by_edge_or_corner x y x' y') → T (by_edge_or_corner x' y' x y)
  corner_back t = rw (apart_comm x' x, apart_comm y' y) t

  -- the upper left of a pixel has it for its lower right; and the other way round
  upper_back : T (upper_left x y x' y') → T (lower_right x' y' x y)
  upper_back t =
      both (eqb y (y' + 1)) (eqb x (x' + 1)) (turned (y' + 1) y (both_left (eqb (y' + 1) y) (eqb (x' + 1) x) t))
      (turned (x' + 1) x (both_right (eqb (y' + 1) y) (eqb (x' + 1) x) t))

  lower_back : T (lower_right x y x' y') → T (upper_left x' y' x y)
  lower_back t =
      both (eqb (y + 1) y') (eqb (x + 1) x') (turned y' (y + 1) (both_left (eqb y' (y + 1)) (eqb x' (x + 1)) t))
      (turned x' (x + 1) (both_right (eqb y' (y + 1)) (eqb x' (x + 1)) t))

  diagonal_back : T (upper_left x y x' y' || lower_right x y x' y') → T (upper_left x' y' x y || lower_right x' y' x y)
  diagonal_back t = elim (either_cases (upper_left x y x' y') (lower_right x y x' y') t) [
    | inl u ↦ either_right (upper_left x' y' x y) (lower_right x' y' x y) (upper_back u)
    | inr v ↦ either_left (upper_left x' y' x y) (lower_right x' y' x y) (lower_back v)
  ]

  six_back : T (by_edge_or_diagonal x y x' y') → T (by_edge_or_diagonal x' y' x y)
  six_back t = elim (either_cases (by_edge x y x' y') (upper_left x y x' y' || lower_right x y x' y') t) [
    | inl e ↦ either_left (by_edge x' y' x y) (upper_left x' y' x y || lower_right x' y' x y) (edge_back e)
    | inr d ↦ either_right (by_edge x' y' x y) (upper_left x' y' x y || lower_right x' y' x y) (diagonal_back d)
  ]

  -- touching is mutual
  touch_back : (k : ℕ) → T (touch_at k x y x' y') → T (touch_at k x' y' x y)
  touch_back k = by (eqb k 4) (eqb k 6)
    where
      by : (four six : Bool) → T (pick four (by_edge x y x' y') (pick six (by_edge_or_diagonal x y x' y') (by_edge_or_corner x y x' y')))
          → T (pick four (by_edge x' y' x y) (pick six (by_edge_or_diagonal x' y' x y) (by_edge_or_corner x' y' x y)))
      by true six = edge_back
      by false true = six_back
      by false false = corner_back

  -- a step along a row or a column leads to a pixel that touches
  touch_next : (k : ℕ) → apart x x' + apart y y' ≡ 1 → T (touch_at k x y x' y')
  touch_next k e = by (eqb k 4) (eqb k 6)
    where
      by : (four six : Bool) → T (pick four (by_edge x y x' y') (pick six (by_edge_or_diagonal x y x' y') (by_edge_or_corner x y x' y')))
      by true six = rw e tt
      by false true = rw e tt
      by false false = let m : max (apart x x') (apart y y') ≡ 1 = omega arith in rw m tt

-- ---- on a plate

pub touch-sym : (k w : ℕ) → Symmetric (touch k w)
unfolding touch
touch-sym k w p q = touch_back (p % w) (p / w) (q % w) (q / w) k

module _ (k w h : ℕ) where
  -- the pixel of column x in row y
  abbrev at : ℕ → ℕ → ℕ
  at y x = y * w + x

  abbrev Reach : ℕ → ℕ → Type 0
  Reach = Joined (h * w) (touch k w) (λ (r : ℕ). true)

  row_step : (y x : ℕ) → suc x < w → T (touch k w (at y x) (at y (suc x)))
  unfolding touch
  row_step y x l =
      let l' : x < w = omega arith in
      rw (digits_mod y l', digits_mod y l, digits_div y l', digits_div y l) (touch_next x y (suc x) y k (omega arith))

  column_step : (y : ℕ) → 0 < w → T (touch k w (at y 0) (at (suc y) 0))
  unfolding touch
  column_step y l =
      rw (digits_mod y l, digits_mod (suc y) l, digits_div y l, digits_div (suc y) l) (touch_next 0 y 0 (suc y) k (omega arith))

  reach_row : 0 < w → (y : ℕ) → y < h → Reach (at 0 0) (at y 0)
  reach_row l zero m = here (digits_lt m l) tt
  reach_row l (suc y) m = step (reach_row l y (omega arith)) (column_step y l) (digits_lt m l) tt

  reach : (y x : ℕ) → y < h → x < w → Reach (at 0 0) (at y x)
  reach y zero m l = reach_row l y m
  reach y (suc x) m l = step (reach y x m (omega arith)) (row_step y x l) (digits_lt m l) tt

  reach_pixel : 0 < w → (p : ℕ) → p < h * w → Reach (at 0 0) p
  reach_pixel l p m =
      subst (λ (q : ℕ). Reach (at 0 0) q) (div-add-mod' p w) (reach (p / w) (p % w) ((div-lt_iff_lt-mul l).1 m) (mod-lt p l))

  pub touch_grid : 0 < w → Grid (h * w) (touch k w)
  touch_grid l = record {
    back = touch-sym k w;
    whole = λ p q lp lq. joined_trans (joined-sym (touch-sym k w) (reach_pixel l p lp)) (reach_pixel l q lq);
  }

-- sizes that fit
pub fits_grid : (k w h n : ℕ) → grid_fits w h ≡ true → n ≡ w * h → Grid n (touch k w)
fits_grid k w h n fits e = rw (e ∙ mul_comm w h) (touch_grid k w h (grid_sizes w h fits).wide.least)

-- whatever the width and height
pub touch-whole : (k w h p q : ℕ) → p < w * h → q < w * h → Joined (w * h) (touch k w) (λ (r : ℕ). true) p q
touch-whole k zero h p q lp lq = absurd (omega (arith, lp, zero-mul h))
touch-whole k (suc w) h p q lp lq =
    let g : Grid (suc w * h) (touch k (suc w)) = rw (mul_comm (suc w) h) (touch_grid k (suc w) h (omega arith)) in
    g.whole p q lp lq
