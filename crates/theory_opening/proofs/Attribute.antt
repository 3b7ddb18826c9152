-- Openings by an attribute at a limit: the criterion is "the attribute is at least the limit".
use mathlib.Core.Path.{◌≡◌, ◌∙◌}
use mathlib.Core.Logic.{◌↔◌}
use mathlib.Core.Bool.{Bool, ◌&&◌}
use Prim.Native.Nat.{ℕ, ◌≤◌, ◌<◌, max}
use native.Mathlib.Nat.{le_antisymm, le_refl}
use native.Mathlib.Omega.{arith}
use lib.Dec.{T, le→leb}
use Rattle.meaning.specs.Opening.{Attribute, Criterion, at_least, opened_at, patch}
use Rattle.meaning.specs.Paths.{Grid, here}
use Rattle.meaning.specs.Plate.{Below}
use Rattle.meaning.specs.Sets.{has}
use Rattle.theory_lists.proofs.Tests.{orders, tests}
use Rattle.theory_opening.proofs.Absorb.{and_criterion, opened-alike, opened_stricter, opened_twice}
use Rattle.theory_opening.proofs.Opening.{joined-patch, opened_below, opened_least}

pub attribute_criterion : {n : ℕ} {att : (ℕ → Bool) → ℕ} → Attribute n att → (limit : ℕ) → limit ≤ n → Criterion n (at_least att limit)
attribute_criterion {n} {att} a limit h = record {
  increasing = λ s s' w t. omega (orders, a.increasing s s' w);
  all = omega (orders, a.all);
}

module _ {n : ℕ} {near : ℕ → ℕ → Bool} {att : (ℕ → Bool) → ℕ} (grid : Grid n near) (at : Attribute n att) where
  -- opening at a and then at b is opening at the greater
  pub attribute_twice : (a b : ℕ) → a ≤ n → b ≤ n → (f : ℕ → ℕ) (p : ℕ) → p < n
      → opened_at n near (at_least att b) (opened_at n near (at_least att a) f) p ≡ opened_at n near (at_least att (max a b)) f p
  attribute_twice a b ha hb f p l =
      let ca = attribute_criterion at a ha in
      let cb = attribute_criterion at b hb in
      opened_twice grid ca cb f p l ∙ opened-alike grid (and_criterion ca cb) (attribute_criterion at (max a b) (omega arith)) greater f p l
    where
      greater : (s : ℕ → Bool) → T (at_least att a s && at_least att b s) ↔ T (at_least att (max a b) s)
      greater s = (
        λ t. let ta : T (at_least att a s) = search tests in let tb : T (at_least att b s) = search tests in omega orders,
        λ t. let ta : T (at_least att a s) = omega orders in let tb : T (at_least att b s) = omega orders in search tests,
      )

  -- a greater limit opens to a plate that is nowhere lighter
  pub attribute-falls : (a b : ℕ) → a ≤ b → b ≤ n → (f : ℕ → ℕ) → Below n (opened_at n near (at_least att b) f) (opened_at n near (at_least att a) f)
  attribute-falls a b h hb f =
      opened_stricter grid (attribute_criterion at b hb) (attribute_criterion at a (omega arith)) (λ s t. omega orders) f

  -- limit 1 changes nothing
  pub attribute_one : (f : ℕ → ℕ) (p : ℕ) → p < n → opened_at n near (at_least att 1) f p ≡ f p
  attribute_one f p l =
      let c = attribute_criterion at 1 (omega arith) in
      le_antisymm (opened_below grid c f p)
      (opened_least grid c f (f p) p (le_refl (f p))
      (le→leb 1 (att (has (patch n near f (f p) p)))
      (at.positive (has (patch n near f (f p) p)) p l (joined-patch grid f (f p) p p (here l (omega orders))))))
