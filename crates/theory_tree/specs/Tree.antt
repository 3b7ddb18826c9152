-- Nodes as paths: a node that holds a pixel, parent and root; the order of the anchors; lists that number the nodes.
use Rattle.std.specs.Prelude.{◌≡◌, ◌⊎◌, Bool, ◌&&◌, List, ℕ, ◌+◌, ◌*◌, ◌≤◌, ◌<◌, T}
use Rattle.meaning.specs.Nodes.{anchor, holds}
use Rattle.meaning.specs.Opening.{lighter}
use Rattle.meaning.specs.Paths.{Joined}
use Rattle.meaning.specs.Sets.{elem}
use Rattle.theory_lists.specs.Members.{Rising}

-- the node of c holds a
abbrev pub Over : (n : ℕ) (near : ℕ → ℕ → Bool) (f : ℕ → ℕ) → ℕ → ℕ → Type 0
Over n near f c a = Joined n near (lighter f (f c)) c a

-- b's node is the parent of a's: the lightest of the darker nodes that hold a
pub record Parent (n : ℕ) (near : ℕ → ℕ → Bool) (f : ℕ → ℕ) (a b : ℕ) : Type 0 where
  pub over : Over n near f b a
  pub darker : f b < f a
  pub next : (c : ℕ) → Over n near f c a → f c < f a → f c ≤ f b

-- a pixel that is joined to p at level t, and is of grey t
pub record Hit (n : ℕ) (near : ℕ → ℕ → Bool) (f : ℕ → ℕ) (t p : ℕ) : Type 0 where
  pub at : ℕ
  pub joined : Joined n near (lighter f t) p at
  pub level : f at ≡ t

-- a comes before b: darker, or as dark and lower
abbrev pub Before : (ℕ → ℕ) → ℕ → ℕ → Type 0
Before f a b = (f a < f b) ⊎ ((f a ≡ f b) × (a < b))

unfoldable pub key : ℕ → (ℕ → ℕ) → ℕ → ℕ
key n f q = f q * n + q

-- xs has the anchors, and nothing else, in the order of the keys
pub record Nodes (n : ℕ) (near : ℕ → ℕ → Bool) (f : ℕ → ℕ) (xs : List ℕ) : Type 0 where
  pub inside : (q : ℕ) → T (elem xs q) → q < n
  pub fixed : (q : ℕ) → T (elem xs q) → anchor n near f q ≡ q
  pub all : (q : ℕ) → q < n → T (elem xs (anchor n near f q))
  pub order : Rising (key n f) xs

-- node j holds p and qualifies
unfoldable pub live : (n : ℕ) (near : ℕ → ℕ → Bool) (f : ℕ → ℕ) (xs : List ℕ) → ((ℕ → Bool) → Bool) → ℕ → ℕ → Bool
unfolding holds
live n near f xs keep p j = let k = keep (holds n near f xs j) in holds n near f xs j p && k

-- j is reached from i by going from node to parent
pub data Ancestor (up : ℕ → ℕ) : ℕ → ℕ → Type 0 where
  self : {i : ℕ} → Ancestor up i i
  above : {i j : ℕ} → 0 < i → Ancestor up (up i) j → Ancestor up i j
