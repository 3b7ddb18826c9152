-- Demand 2's words for cleaning, as one claim about `clean`: it starts from its contract and asks nothing else.
-- k: connectivity, w: width, h: height, M: greatest grey, f: the plate; out, work: the buffers as they were lent, out', work': as they are left;
-- r: what was returned.
use Rattle.std.specs.Prelude.{◌≡◌, ◌↔◌, ◌⊎◌, List, ℕ, ◌-◌, ◌*◌, ◌≤◌, ◌<◌, length, take}
use Rattle.meaning.specs.Sets.{nth}
use Rattle.meaning.specs.Plate.{grey, negative, on_trim_edge, touch}
use Rattle.meaning.specs.Opening.{Region, dark_side, light_side}
use Rattle.plate_filter.specs.Operations.{Cleaned}

-- each pixel p holds the greatest t for which a connected set that has at least the limit's pixels or holds one of the trim edge contains p and has no
-- grey below t
abbrev pub HoldsOpened : (k w h limit : ℕ) (f out : List ℕ) → Type 0
HoldsOpened k w h limit f out = (t p : ℕ) → p < length f → Region (length f) (touch k w) (on_trim_edge w h) (grey f) limit t p ↔ t ≤ nth out p

-- the same on the negative: the greatest grey minus what p holds is that greatest t
abbrev pub HoldsClosed : (k w h M limit : ℕ) (f out : List ℕ) → Type 0
HoldsClosed k w h M limit f out =
    (t p : ℕ) → p < length f → Region (length f) (touch k w) (on_trim_edge w h) (grey (negative M f)) limit t p ↔ t ≤ M - nth out p

-- the one on the light side, the other on the dark side, and there is no third
abbrev pub HoldsCleaned : (side k w h M limit : ℕ) (f out : List ℕ) → Type 0
HoldsCleaned side k w h M limit f out = ((side ≡ light_side) × HoldsOpened k w h limit f out) ⊎ ((side ≡ dark_side) × HoldsClosed k w h M limit f out)

-- two plates are negatives of each other
abbrev pub Negatives : (M : ℕ) (f g : List ℕ) → Type 0
Negatives M f g = (g ≡ negative M f) × (f ≡ negative M g)

pub record CleaningClaim : Type 0 where
  -- what is not refused is cleaned
  pub cleaning : (side k w h M limit : ℕ) (f out out' work work' : List ℕ) (r : ℕ) → Cleaned side k w h M limit f out out' work work' r → r ≡ 0
      → HoldsCleaned side k w h M limit f out'
  -- at one limit and connectivity, light on a plate with no pixel above M and dark on its negative are refused alike, in buffers of the same lengths ..
  pub refused_alike : (k w h M limit : ℕ) (f out out' work work' lent lent' space space' : List ℕ) (r r' : ℕ)
      → Cleaned light_side k w h M limit f out out' work work' r → Cleaned dark_side k w h M limit (negative M f) lent lent' space space' r'
      → ((p : ℕ) → p < length f → grey f p ≤ M) → length lent ≡ length out → length space ≡ length work → r' ≡ r
  -- .. and give plates that are negatives of each other
  pub negatives : (k w h M limit : ℕ) (f out out' work work' lent lent' space space' : List ℕ) (r r' : ℕ)
      → Cleaned light_side k w h M limit f out out' work work' r → r ≡ 0 → Cleaned dark_side k w h M limit (negative M f) lent lent' space space' r'
      → r' ≡ 0 → Negatives M (take (w * h) out') (take (w * h) lent')
