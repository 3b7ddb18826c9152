-- The ink percentage of a grey, and the rounding that it is made by.
use Rattle.std.specs.Prelude.{ℕ, ◌+◌, ◌-◌, ◌*◌, ◌/◌, ◌≤◌, ◌<◌}

-- the whole number nearest to a / d, halves up: half the divisor is added, and the quotient is taken
unfoldable pub rounded : ℕ → ℕ → ℕ
rounded a d = (a + d / 2) / d

-- the ink percentage of the grey g, where M is the greatest: (M − g) × 100 / M, rounded
unfoldable pub ink_of : ℕ → ℕ → ℕ
unfolding rounded
ink_of M g = rounded ((M - g) * 100) M

-- r is nearest, halves up: (M − g) × 100 / M is at least r − 1/2 and less than r + 1/2, each times 2 × M
abbrev pub Nearest : ℕ → ℕ → ℕ → Type 0
Nearest M g r = (2 * (M * r) ≤ 2 * ((M - g) * 100) + M) × (2 * ((M - g) * 100) < 2 * (M * r) + M)
