-- The dual of an operation on plates: it works on the negative, and its answer is negated back; closing is the dual of opening. What two operations make
-- one after the other their duals make too, and the dual of an increasing operation is increasing.
use mathlib.Core.Path.{◌≡◌, sym, ap, ◌∙◌}
use mathlib.Core.List.{List}
use Prim.Native.Nat.{ℕ, ◌<◌}
use native.Mathlib.Omega.{arith}
use lib.ListN.{length}
use Rattle.meaning.specs.Plate.{NowhereLighter, Plate, negative}
use Rattle.theorems.proofs.Plates.{negative-grey, negative-length, negative_plate, negative_twice}

-- where one plate is nowhere lighter than another, its negative is nowhere darker
pub negative-falls : {k w h M : ℕ} {f g : List ℕ} → Plate k w h M f → Plate k w h M g → NowhereLighter g f → NowhereLighter (negative M f) (negative M g)
negative-falls {M = M} {f} {g} pf pg b = (
  negative-length M f ∙ sym b.0 ∙ sym (negative-length M g),
  λ p l.
      let lg : p < length g = rw (negative-length M g) at l in
      let lf : p < length f = rw b.0 at lg in
      omega (arith, negative-grey pf p lf, negative-grey pg p lg, b.1 p lf),
)

module _ (k w h M : ℕ) where
  -- an operation that makes plates of plates
  abbrev OnPlates : (List ℕ → List ℕ) → Type 0
  OnPlates op = (f : List ℕ) → Plate k w h M f → Plate k w h M (op f)

  -- first op, then op' is op''
  pub dual_twice : (op op' op'' : List ℕ → List ℕ) → OnPlates op → ((f : List ℕ) → Plate k w h M f → op' (op f) ≡ op'' f)
      → (f : List ℕ) → Plate k w h M f → negative M (op' (negative M (negative M (op (negative M f))))) ≡ negative M (op'' (negative M f))
  dual_twice op op' op'' plates twice f plate =
      let neg : Plate k w h M (negative M f) = negative_plate plate in
      ap (λ (g : List ℕ). negative M (op' g)) (negative_twice (plates (negative M f) neg)) ∙ ap (negative M) (twice (negative M f) neg)

  -- op is increasing
  pub dual_grows : (op : List ℕ → List ℕ) → OnPlates op
      → ((f g : List ℕ) → Plate k w h M f → Plate k w h M g → NowhereLighter g f → NowhereLighter (op g) (op f))
      → (f g : List ℕ) → Plate k w h M f → Plate k w h M g → NowhereLighter g f
      → NowhereLighter (negative M (op (negative M g))) (negative M (op (negative M f)))
  dual_grows op plates grows f g pf pg b =
      let nf : Plate k w h M (negative M f) = negative_plate pf in
      let ng : Plate k w h M (negative M g) = negative_plate pg in
      negative-falls (plates (negative M g) ng) (plates (negative M f) nf) (grows (negative M g) (negative M f) ng nf (negative-falls pf pg b))
