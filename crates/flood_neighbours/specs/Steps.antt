-- The steps to a neighbour.
use Rattle.std.specs.Prelude.{ℕ}
use Rattle.flood_neighbours.specs.declared.Step.{Step}
use Rattle.flood_neighbours.specs.declared.Step.TheVariants.{Back, Stay, On}

-- one more than the places to go
abbrev pub places : Step → ℕ
places Back = 0
places Stay = 1
places On = 2
