-- A plate seen as it is, or as its negative: opening works on the one, closing on the other. M: the greatest grey.
use Rattle.std.specs.Prelude.{Bool, List, ℕ, ◌-◌}
use Rattle.meaning.specs.Plate.{negative}
use Rattle.meaning.specs.Sets.{pick}

-- a grey, or its negative
abbrev pub side_grey : Bool → ℕ → ℕ → ℕ
side_grey negated M g = pick negated (M - g) g

-- a plate, or its negative
abbrev pub side_plate : Bool → ℕ → List ℕ → List ℕ
side_plate negated M f = pick negated (negative M f) f
