-- Where reading a part of a line ends.
use Rattle.std.specs.Prelude.{ℕ, ◌≤◌, ◌<◌}

-- not in front of `at`, and after it where that is inside the line
abbrev pub Behind : ℕ → ℕ → ℕ → Type 0
Behind at long next = (at ≤ next) × (at < long → at < next)
