-- Paths of pixels inside a set, and grids.
use Rattle.std.specs.Prelude.{Bool, true, ℕ, ◌<◌, T}

-- a path from p over pixels below n that all pass the test `ok`, each near the next. "Connected" is: any two are joined
pub data Joined (n : ℕ) (near : ℕ → ℕ → Bool) (ok : ℕ → Bool) (p : ℕ) : ℕ → Type 0 where
  here : p < n → T (ok p) → Joined n near ok p p
  step : {q r : ℕ} → Joined n near ok p q → T (near q r) → r < n → T (ok r) → Joined n near ok p r

-- neighbours are mutual
abbrev pub Symmetric : (ℕ → ℕ → Bool) → Type 0
Symmetric near = (p q : ℕ) → T (near p q) → T (near q p)

-- what the theory asks of an adjacency on n pixels: it is symmetric, and the whole grid is connected
pub record Grid (n : ℕ) (near : ℕ → ℕ → Bool) : Type 0 where
  pub back : Symmetric near
  pub whole : (p q : ℕ) → p < n → q < n → Joined n near (λ (r : ℕ). true) p q
