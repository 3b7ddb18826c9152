-- Two criteria at once.
use Rattle.std.specs.Prelude.{Bool, ◌&&◌, ℕ}

-- a set qualifies by both
abbrev pub both_keep : ((ℕ → Bool) → Bool) → ((ℕ → Bool) → Bool) → (ℕ → Bool) → Bool
both_keep keep₁ keep₂ s = keep₁ s && keep₂ s
