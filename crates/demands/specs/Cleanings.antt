-- Several cleanings: two limits on one plate, and one limit on two plates. Each claim is about what `clean` leaves; it starts from its contract.
-- k: connectivity, w: width, h: height, M: greatest grey, f: the plate; out, work: the buffers as they were lent, out', work': as they are left;
-- r: what was returned.
use Rattle.std.specs.Prelude.{◌≡◌, ◌⊎◌, List, ℕ, ◌*◌, ◌≤◌, max, length, take}
use Rattle.meaning.specs.Opening.{dark_side, light_side}
use Rattle.meaning.specs.Plate.{NowhereLighter, Plate}
use Rattle.plate_filter.specs.Operations.{Cleaned}

-- `clean` was called on plate f, in whatever buffers, was not refused, and left plate g
pub record Leaves (side k w h M limit : ℕ) (f g : List ℕ) : Type 0 where
  pub out : List ℕ
  pub out' : List ℕ
  pub work : List ℕ
  pub work' : List ℕ
  pub call : Cleaned side k w h M limit f out out' work work' 0
  pub left : g ≡ take (w * h) out'

pub record CleaningsClaim : Type 0 where
  -- an accepted plate, either side, a limit from 1 to the pixels, an output and a work space long enough: `clean` does not refuse ..
  pub not_refused : (side k w h M limit : ℕ) (f out out' work work' : List ℕ) (r : ℕ)
      → Plate k w h M f → (side ≡ light_side) ⊎ (side ≡ dark_side) → 1 ≤ limit → limit ≤ w * h → w * h ≤ length out → 8 * (w * h) ≤ length work
      → Cleaned side k w h M limit f out out' work work' r → r ≡ 0
  -- .. and what it leaves is an accepted plate, so that it can be cleaned again
  pub leaves_plate : (side k w h M limit : ℕ) (f g : List ℕ) → Leaves side k w h M limit f g → Plate k w h M g
  -- cleaning at limit a and then at limit b leaves what one cleaning at the greater of the two leaves
  pub greater_limit : (side k w h M a b : ℕ) (f g g' once : List ℕ)
      → Leaves side k w h M a f g → Leaves side k w h M b g g' → Leaves side k w h M (max a b) f once → g' ≡ once
  -- so cleaning at one limit twice changes nothing the second time
  pub same_limit : (side k w h M limit : ℕ) (f g g' : List ℕ) → Leaves side k w h M limit f g → Leaves side k w h M limit g g' → g' ≡ g
  -- where plate g is nowhere darker than plate f (f nowhere lighter than g), what is left of g is nowhere darker than what is left of f
  pub order_kept : (side k w h M limit : ℕ) (f g f' g' : List ℕ)
      → NowhereLighter f g → Leaves side k w h M limit f f' → Leaves side k w h M limit g g' → NowhereLighter f' g'
