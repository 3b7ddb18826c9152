-- Several cleanings: the theorems on `cleaned`, said of what `clean` leaves.
use mathlib.Core.Path.{◌≡◌, refl, sym, ap, ◌∙◌}
use mathlib.Core.List.{List}
use Prim.Native.Nat.{ℕ, ◌≤◌, max}
use native.Mathlib.Omega.{arith}
use lib.ListN.{length}
use Rattle.meaning.specs.Opening.{cleaned}
use Rattle.meaning.specs.Plate.{NowhereLighter, Plate}
use Rattle.theorems.proofs.Plates.{cleaned_plate}
use Rattle.theorems.proofs.Theorems.{cleaned_grows, cleaned_twice_is_once}
use Rattle.plate_refusals.proofs.Refusals.{cleanable_none}
use Rattle.demands.specs.Cleanings.{CleaningsClaim, Leaves}
use Rattle.demands.proofs.Demand2.{left-cleaned, limit-fits}

-- ---- one cleaning

module _ {side k w h M limit : ℕ} {f g : List ℕ} (l : Leaves side k w h M limit f g) where
  abbrev plate : Plate k w h M f
  plate = l.call.accepted refl

  fits : limit ≤ length f
  fits = limit-fits side limit l.call refl

  -- what is left is the plate cleaned
  is-cleaned : g ≡ cleaned side k w h M limit f
  is-cleaned = l.left ∙ left-cleaned side limit l.call refl

  left_plate : Plate k w h M g
  left_plate = rw is-cleaned (cleaned_plate plate side limit fits)

-- ---- two cleanings

module _ (side k w h M : ℕ) where
  greater : (a b : ℕ) (f g g' : List ℕ) → Leaves side k w h M a f g → Leaves side k w h M b g g' → g' ≡ cleaned side k w h M (max a b) f
  greater a b f g g' la lb =
      is-cleaned lb
      ∙ ap (cleaned side k w h M b) (is-cleaned la)
      ∙ cleaned_twice_is_once (plate la) side a b (fits la) (omega (arith, fits lb, (plate la).long, (plate lb).long))

  order : (limit : ℕ) (f g f' g' : List ℕ) → NowhereLighter f g → Leaves side k w h M limit f f' → Leaves side k w h M limit g g' → NowhereLighter f' g'
  order limit f g f' g' b lf lg = rw (is-cleaned lf, is-cleaned lg) (cleaned_grows (plate lg) side limit (fits lg) f (plate lf) b)

pub cleanings : CleaningsClaim
cleanings = record {
  not_refused = λ side k w h M limit f out out' work work' r plate s low high room space c.
      c.number ∙ cleanable_none (record {
        side_is = s;
        sizes = record {
          taken = plate;
          limit_low = low;
          limit_high = high;
          room = room;
          space = space;
        };
      });
  leaves_plate = λ side k w h M limit f g l. left_plate l;
  greater_limit = λ side k w h M a b f g g' once la lb lm. greater side k w h M a b f g g' la lb ∙ sym (is-cleaned lm);
  same_limit = λ side k w h M limit f g g' l l'.
      greater side k w h M limit limit f g g' l l' ∙ ap (λ (m : ℕ). cleaned side k w h M m f) (omega arith) ∙ sym (is-cleaned l);
  order_kept = order;
}
