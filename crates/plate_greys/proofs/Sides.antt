-- Laws of a plate, or its negative, by pixel, and of copying it into the work space.
use mathlib.Core.Path.{◌≡◌, refl, sym, ◌∙◌}
use mathlib.Core.Bool.{Bool, true, false}
use mathlib.Core.List.{List}
use Prim.Native.Nat.{ℕ, ◌-◌, ◌≤◌, ◌<◌}
use native.Mathlib.Omega.{arith}
use lib.ListN.{length, length-map}
use lib.Seq.{ext_get_or}
use Rattle.meaning.specs.Plate.{grey, negative}
use Rattle.meaning.specs.Sets.{table}
use Rattle.theory_lists.proofs.Lists.{get_d_map, get_d_table, length-table}
use Rattle.work_columns.specs.Columns.{Frame, col}
use Rattle.work_columns.specs.Layout.{GREY}
use Rattle.work_columns.proofs.Columns.{column_plate}
use Rattle.plate_greys.specs.Loading.{Loaded}
use Rattle.plate_greys.specs.Sides.{side_plate, side_grey}

pub side_plate_length : (negated : Bool) (M : ℕ) (f : List ℕ) → length (side_plate negated M f) ≡ length f
unfolding negative
side_plate_length true M f = length-map f (λ (g : ℕ). M - g)
side_plate_length false M f = refl

pub side_grey_low : (negated : Bool) (M g : ℕ) → g ≤ M → side_grey negated M g ≤ M
side_grey_low true M g l = omega arith
side_grey_low false M g l = l

-- the grey of a pixel of the negative is the negative of its grey
pub side_plate_grey : (negated : Bool) (M : ℕ) (f : List ℕ) (p : ℕ) → p < length f → grey (side_plate negated M f) p ≡ side_grey negated M (grey f p)
unfolding negative
side_plate_grey true M f p l = get_d_map (λ (g : ℕ). M - g) f p l
side_plate_grey false M f p l = refl

-- a plate or its negative, from its values
pub side_plate_table : (negated : Bool) (M n : ℕ) (g : ℕ → ℕ) → side_plate negated M (table n g) ≡ table n (λ (p : ℕ). side_grey negated M (g p))
side_plate_table negated M n g =
    let len : length (side_plate negated M (table n g)) ≡ n = side_plate_length negated M (table n g) ∙ length-table n g in
    let g' : ℕ → ℕ = λ (p : ℕ). side_grey negated M (g p) in
    ext_get_or 0 (side_plate negated M (table n g)) (table n g') (len ∙ sym (length-table n g'))
    (λ p l.
    let m : p < n = rw len at l in
    side_plate_grey negated M (table n g) p (rw (length-table n g) m) ∙ rw (get_d_table n g p 0 m) (sym (get_d_table n g' p 0 m)))

-- ---- copying a plate into the column of the greys

-- the first i greys are copied in
pub record Loading (negated : Bool) (M : ℕ) (f w w' : List ℕ) (i : ℕ) : Type 0 where
  pub bound : i ≤ length f
  pub frame : Frame (length f) w w'
  pub done : (j : ℕ) → j < i → col GREY (length f) w' j ≡ side_grey negated M (grey f j)

module _ {negated : Bool} {M : ℕ} {f w : List ℕ} where
  pub loading_done : {w' : List ℕ} {i : ℕ} → Loading negated M f w w' i → length f ≤ i → ((p : ℕ) → p < length f → grey f p ≤ M) → Loaded negated M f w w'
  loading_done {w'} {i} a l low = record {
    frame = a.frame;
    same = column_plate GREY (length f) w' (side_plate negated M f) (side_plate_length negated M f)
        (λ p m. a.done p (omega arith) ∙ sym (side_plate_grey negated M f p m));
    greys = λ p m. omega (arith, a.done p (omega arith), side_grey_low negated M (grey f p) (low p m));
  }
