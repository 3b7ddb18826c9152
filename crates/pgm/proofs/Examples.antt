-- The examples, computed from the definitions.
use mathlib.Core.Path.{◌≡◌, refl}
use mathlib.Core.List.{map}
use Rattle.pgm.specs.Text.{bytes}
use Rattle.pgm.specs.Examples.{run, expected, cases}

pub cases_hold : map run cases ≡ map expected cases
unfolding run bytes
cases_hold = refl
