-- The connected component of a pixel, computed: the set is grown from the pixel, by all that is near to it and passes, until nothing is added.
-- (What a `let` binds is computed only where it is read, so a test that is settled costs no more.)
use Rattle.std.specs.Prelude.{Bool, true, false, ◌&&◌, ◌||◌, List, [], ◌∷◌, ℕ, zero, suc, eqb}
use Rattle.std.specs.Bool.{beq}
use Rattle.meaning.specs.Sets.{pick, some, table, has}

-- two lists of Bools are the same
unfoldable pub same : List Bool → List Bool → Bool
same [] [] = true
same [] (y ∷ ys) = false
same (x ∷ xs) [] = false
same (x ∷ xs) (y ∷ ys) = let rest = same xs ys in beq x y && rest

-- f, over and over until nothing changes, at most k times
unfoldable pub settle : ℕ → (List Bool → List Bool) → List Bool → List Bool
unfolding same
settle zero f s = s
settle (suc k) f s = let s' = f s in let rest = settle k f s' in pick (same s s') s rest

-- one round: q is in already, or it passes and is near to a pixel that is in
unfoldable pub grown : ℕ → (ℕ → ℕ → Bool) → (ℕ → Bool) → List Bool → List Bool
unfolding table some
grown n near ok s =
    table n (λ (q : ℕ).
    let reached = some n (λ (r : ℕ). let touch = near r q in has s r && touch) in
    let new = ok q && reached in
    has s q || new)

-- the set of p alone, if it passes
unfoldable pub alone : ℕ → (ℕ → Bool) → ℕ → List Bool
unfolding table
alone n ok p = table n (λ (q : ℕ). ok q && eqb p q)

-- the pixels that a path over pixels that pass joins to p; n rounds are enough
unfoldable pub component : ℕ → (ℕ → ℕ → Bool) → (ℕ → Bool) → ℕ → List Bool
unfolding grown alone settle
component n near ok p = settle n (grown n near ok) (alone n ok p)
