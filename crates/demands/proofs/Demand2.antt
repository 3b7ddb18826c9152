-- Demand 2 for cleaning.
use mathlib.Core.Path.{◌≡◌, refl, sym, ap, ◌∙◌}
use mathlib.Core.Logic.{◌⊎◌, inl, inr}
use mathlib.Core.Bool.{false}
use mathlib.Core.List.{List}
use Prim.Native.Nat.{ℕ, ◌-◌, ◌*◌, ◌≤◌, ◌<◌}
use native.Mathlib.Omega.{arith}
use lib.ListN.{length, take}
use Rattle.meaning.specs.Answers.{any_above, clean_refusal, filter_refusal}
use Rattle.meaning.specs.Opening.{cleaned, closed, dark_side, light_side, opened, side_fits}
use Rattle.meaning.specs.Plate.{grey, negative}
use Rattle.theorems.proofs.Plates.{cleaned_plate, closed-length, closed-negative, negative-length, negative_twice, opened-length, opened_plate}
use Rattle.theorems.proofs.Theorems.{closed-is_least, opened-is-greatest}
use Rattle.theory_lists.proofs.Lists.{get_d_map}
use Rattle.plate_refusals.proofs.Refusals.{Cleanable, above_none, clean_none}
use Rattle.plate_filter.specs.Operations.{Cleaned}
use Rattle.demands.specs.Demand2.{CleaningClaim, HoldsCleaned, HoldsClosed, HoldsOpened, Negatives}
use Rattle.demands.proofs.Claims.{over-nth, over-take}

-- ---- one plate, cleaned on a side

module _ (side limit : ℕ) {k w h M : ℕ} {f out out' work work' : List ℕ} {r : ℕ} (a : Cleaned side k w h M limit f out out' work work' r) (z : r ≡ 0) where
  cleanable : Cleanable side k w h M limit f (length out) (length work)
  cleanable = clean_none side k w h M limit f (length out) (length work) (sym a.number ∙ z)

  -- a limit that is not refused is at most the pixels
  pub limit-fits : limit ≤ length f
  limit-fits = let s = cleanable.sizes in omega (arith, s.limit_high, s.taken.long)

  -- the plate cleaned stands in front of the excess
  pub left-cleaned : take (w * h) out' ≡ cleaned side k w h M limit f
  left-cleaned =
      rw (a.output, z) (over-take (cleaned side k w h M limit f) out (w * h) (cleaned_plate (a.accepted z) side limit limit-fits).long)

-- the answers of the two sides
light_opens : (k w h M limit : ℕ) (f : List ℕ) → cleaned light_side k w h M limit f ≡ opened k w h limit f
unfolding cleaned
light_opens k w h M limit f = refl

dark_closes : (k w h M limit : ℕ) (f : List ℕ) → cleaned dark_side k w h M limit f ≡ closed k w h M limit f
unfolding cleaned
dark_closes k w h M limit f = refl

module _ (limit : ℕ) {k w h M : ℕ} {f out out' work work' : List ℕ} {r : ℕ} where
  light_holds : Cleaned light_side k w h M limit f out out' work work' r → r ≡ 0 → HoldsOpened k w h limit f out'
  light_holds a z t p l =
      let plate = a.accepted z in
      rw (a.output, z, light_opens k w h M limit f, over-nth (opened k w h limit f) out p (omega (arith, opened-length plate limit)))
      (opened-is-greatest plate limit t p (limit-fits light_side limit a z) l)

  dark_holds : Cleaned dark_side k w h M limit f out out' work work' r → r ≡ 0 → HoldsClosed k w h M limit f out'
  dark_holds a z t p l =
      let plate = a.accepted z in
      rw (a.output, z, dark_closes k w h M limit f, over-nth (closed k w h M limit f) out p (omega (arith, closed-length plate limit)))
      (closed-is_least plate limit t p (limit-fits dark_side limit a z) l)

  side_holds : (side : ℕ) → Cleaned side k w h M limit f out out' work work' r → r ≡ 0 → (side ≡ light_side) ⊎ (side ≡ dark_side)
      → HoldsCleaned side k w h M limit f out'
  side_holds side a z (inl e) = inl (e, light_holds (rw e at a) z)
  side_holds side a z (inr e) = inr (e, dark_holds (rw e at a) z)

-- ---- light on a plate f, dark on its negative

negative_low : (M : ℕ) (f : List ℕ) (p : ℕ) → p < length f → grey (negative M f) p ≤ M
unfolding negative
negative_low M f p l = omega (arith, get_d_map (λ (g : ℕ). M - g) f p l)

module _ (limit : ℕ) {k w h M : ℕ} {f out out' work work' lent lent' space space' : List ℕ} {r r' : ℕ}
    (a : Cleaned light_side k w h M limit f out out' work work' r) (b : Cleaned dark_side k w h M limit (negative M f) lent lent' space space' r') where
  alike : ((p : ℕ) → p < length f → grey f p ≤ M) → length lent ≡ length out → length space ≡ length work → r' ≡ r
  unfolding clean_refusal filter_refusal side_fits
  alike low x y =
      let lows : any_above M (negative M f) ≡ false = above_none M (negative M f) (λ p l. negative_low M f p (omega (arith, negative-length M f))) in
      let number : clean_refusal light_side k w h M limit f (length out) (length work) ≡ r = sym a.number in
      b.number ∙ rw (x, y, lows, negative-length M f) (rw (above_none M f low) at number)

  module _ (z : r ≡ 0) (z' : r' ≡ 0) where
    light_plate : take (w * h) out' ≡ opened k w h limit f
    light_plate = left-cleaned light_side limit a z ∙ light_opens k w h M limit f

    dark_plate : take (w * h) lent' ≡ closed k w h M limit (negative M f)
    dark_plate = left-cleaned dark_side limit b z' ∙ dark_closes k w h M limit (negative M f)

    each_other : Negatives M (take (w * h) out') (take (w * h) lent')
    each_other =
        let plate = a.accepted z in
        let e : take (w * h) lent' ≡ negative M (take (w * h) out') =
        dark_plate ∙ closed-negative plate limit ∙ ap (negative M) (sym light_plate) in
        let back : take (w * h) out' ≡ negative M (negative M (take (w * h) out')) =
        rw light_plate (sym (negative_twice (opened_plate plate limit (limit-fits light_side limit a z)))) in
        (e, back ∙ ap (negative M) (sym e))

pub cleaning : CleaningClaim
cleaning = record {
  cleaning = λ side k w h M limit f out out' work work' r a z. side_holds limit side a z (cleanable side limit a z).side_is;
  refused_alike = λ k w h M limit f out out' work work' lent lent' space space' r r' a b low x y. alike limit a b low x y;
  negatives = λ k w h M limit f out out' work work' lent lent' space space' r r' a z b z'. each_other limit a b z z';
}
