-- The lightest and the lowest member of a set, and lists along which a key rises.
use Rattle.std.specs.Prelude.{Bool, List, [], ◌∷◌, ℕ, ◌≤◌, ◌<◌, T}
use Rattle.meaning.specs.Sets.{elem}

-- a member below n at which h is greatest
pub record Top (n : ℕ) (s : ℕ → Bool) (h : ℕ → ℕ) : Type 0 where
  pub at : ℕ
  pub below : at < n
  pub member : T (s at)
  pub most : (q : ℕ) → q < n → T (s q) → h q ≤ h at

-- r is the lowest number below n that passes, or n
pub record Lowest (n : ℕ) (s : ℕ → Bool) (r : ℕ) : Type 0 where
  pub bound : r ≤ n
  pub passes : r < n → T (s r)
  pub least : (q : ℕ) → q < n → T (s q) → r ≤ q

-- each member's key is smaller than the keys of all that stand after it
abbrev pub Rising : (ℕ → ℕ) → List ℕ → Type 0
Rising h [] = Unit {0}
Rising h (x ∷ xs) = ((q : ℕ) → T (elem xs q) → h x < h q) × Rising h xs
