-- The examples, computed from the definitions.
use mathlib.Core.Path.{◌≡◌, refl}
use mathlib.Core.List.{map}
use Rattle.pgm.specs.Text.{bytes}
use Rattle.pgm_roll.specs.Examples.{Place, cases, expected, look, places, run}

pub cases_hold : map run cases ≡ map expected cases
unfolding run bytes
cases_hold = refl

pub places_hold : map look places ≡ map (λ (c : Place). c.right) places
unfolding look bytes
places_hold = refl
