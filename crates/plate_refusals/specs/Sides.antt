-- The sides on which a plate is cleaned, by the numbers of SPECIFICATION 3.
use Rattle.std.specs.Prelude.{◌≡◌, ◌≢◌, ℕ, Result, MatchResult}
use Rattle.meaning.specs.Opening.{light_side, dark_side}
use Rattle.refusals.specs.declared.Refusal.{Refusal}
use Rattle.plate_refusals.specs.declared.Side.{Side}
use Rattle.plate_refusals.specs.declared.Side.TheVariants.{Light, Dark}

abbrev pub side_number : Side → ℕ
side_number Light = light_side
side_number Dark = dark_side

-- a number is taken for its side; what is no side's number is refused as such
abbrev pub Chooses : ℕ → Result Side Refusal → Type 0
Chooses number r = MatchResult r (λ side. side_number side ≡ number) (λ e. (e ≡ Refusal.Side) × (number ≢ light_side) × (number ≢ dark_side))
