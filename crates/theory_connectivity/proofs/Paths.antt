-- Paths of pixels: p and q are joined when a path leads from p to q over pixels below n that all pass the test `ok`, each near the next.
use mathlib.Core.Bool.{Bool}
use Prim.Native.Nat.{ℕ, ◌<◌}
use lib.Dec.{T}
use Rattle.meaning.specs.Paths.{Joined, Symmetric, here, step}
use Rattle.meaning.specs.Sets.{Within}

module _ {n : ℕ} {near : ℕ → ℕ → Bool} {ok : ℕ → Bool} where
  -- both ends of a path are pixels that pass
  pub end_below : {p q : ℕ} → Joined n near ok p q → q < n
  end_below (here l k) = l
  end_below (step j h l k) = l

  pub end_ok : {p q : ℕ} → Joined n near ok p q → T (ok q)
  end_ok (here l k) = k
  end_ok (step j h l k) = k

  pub start_below : {p q : ℕ} → Joined n near ok p q → p < n
  start_below (here l k) = l
  start_below (step j h l k) = start_below j

  pub start_ok : {p q : ℕ} → Joined n near ok p q → T (ok p)
  start_ok (here l k) = k
  start_ok (step j h l k) = start_ok j

  -- what holds of p, and passes on at each step, holds at the end of every path from p
  pub along {ℓ} : {p q : ℕ} (P : ℕ → Type ℓ) → P p
      → ((a b : ℕ) → Joined n near ok p a → P a → T (near a b) → b < n → T (ok b) → P b)
      → Joined n near ok p q → P q
  along P base next (here l k) = base
  along P base next (step {q = a} {r = b} j h l k) = next a b j (along P base next j) h l k

  pub joined_trans : {p q r : ℕ} → Joined n near ok p q → Joined n near ok q r → Joined n near ok p r
  joined_trans a (here l k) = a
  joined_trans a (step b h l k) = step (joined_trans a b) h l k

  pub joined-sym : Symmetric near → {p q : ℕ} → Joined n near ok p q → Joined n near ok q p
  joined-sym back (here l k) = here l k
  joined-sym back (step {q = a} {r = b} j h l k) =
      joined_trans (step (here l k) (back a b h) (end_below j) (end_ok j)) (joined-sym back j)

  -- a path lies within every set that holds all that is joined to its start
  pub joined_within : {p q : ℕ} (s : ℕ → Bool) → ((r : ℕ) → Joined n near ok p r → T (s r)) → Joined n near ok p q → Joined n near s p q
  joined_within {p = p} s f (here l k) = here l (f p (here l k))
  joined_within s f (step {r = b} j h l k) = step (joined_within s f j) h l (f b (step j h l k))

  pub joined_mono : {p q : ℕ} (ok' : ℕ → Bool) → Within n ok ok' → Joined n near ok p q → Joined n near ok' p q
  joined_mono ok' w = joined_within ok' (λ r j. w r (end_below j) (end_ok j))
