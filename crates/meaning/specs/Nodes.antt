-- The component tree (max-tree). A node is a connected component of a level set. It is named here by its anchor, and numbered by its place
-- in the list of the anchors.
use Rattle.std.specs.Prelude.{Bool, ◌&&◌, List, T, eqb, length}
use Prim.Native.Nat.{ℕ, zero, suc, ◌-◌, ◌≤◌, ◌<◌}
use Rattle.meaning.specs.Sets.{Within, area, greatest, lowest, nth, has, place, rising, gather}
use Rattle.meaning.specs.Paths.{Joined}
use Rattle.meaning.specs.Opening.{lighter, patch}
use Rattle.meaning.specs.Plate.{touch, grey, lightest}

-- the node whose level is a's grey and that holds a
unfoldable pub node : ℕ → (ℕ → ℕ → Bool) → (ℕ → ℕ) → ℕ → List Bool
unfolding patch
node n near f a = patch n near f (f a) a

-- the anchor of that node: its lowest pixel number at its level
unfoldable pub anchor : ℕ → (ℕ → ℕ → Bool) → (ℕ → ℕ) → ℕ → ℕ
unfolding node lowest
anchor n near f p = let c = node n near f p in lowest n (λ (q : ℕ). has c q && eqb (f q) (f p))

-- the anchors of all nodes, level rising, then anchor rising; no grey is above m. Node i is the node of the i-th anchor, counted from 0
unfoldable pub anchors : ℕ → ℕ → (ℕ → ℕ → Bool) → (ℕ → ℕ) → List ℕ
unfolding gather rising anchor
anchors m n near f = gather (suc m) (λ (t : ℕ). rising n (λ (p : ℕ). let r = anchor n near f p in let own = eqb r p in eqb (f p) t && own))

-- ---- the columns of the node list; xs are the anchors

module _ (n : ℕ) (near : ℕ → ℕ → Bool) (f : ℕ → ℕ) (xs : List ℕ) where
  -- node i's level: the least grey in it
  abbrev pub level_of : ℕ → ℕ
  level_of i = f (nth xs i)

  -- does node j hold p
  unfoldable pub holds : ℕ → ℕ → Bool
  unfolding node
  holds j = let c = node n near f (nth xs j) in λ (p : ℕ). has c p

  -- its number of pixels
  unfoldable pub area_of : ℕ → ℕ
  unfolding holds area
  area_of i = area n (holds i)

  -- the number of p's own node: the one that holds p and whose level is p's grey
  unfoldable pub own : ℕ → ℕ
  unfolding anchor place
  own p = place xs (anchor n near f p)

  -- the parent: the last node before i that holds i's anchor, the smallest node that strictly contains it; 0 for the root
  unfoldable pub parent : ℕ → ℕ
  unfolding greatest holds
  parent i = greatest (λ (j : ℕ). holds j (nth xs i)) (i - 1)

  -- the rise of a node above its parent's level; of the root, its level
  unfoldable pub rise : ℕ → ℕ
  unfolding parent
  rise zero = level_of 0
  rise (suc j) = level_of (suc j) - level_of (parent (suc j))

-- ---- the specification's words

-- s is a node: for some t it is the component, in the level set at t, of a pixel p of it
pub record NodeSet (n : ℕ) (near : ℕ → ℕ → Bool) (f : ℕ → ℕ) (s : ℕ → Bool) : Type 0 where
  pub t : ℕ
  pub p : ℕ
  pub inside : p < n
  pub light : t ≤ f p
  pub to : (q : ℕ) → q < n → T (s q) → Joined n near (lighter f t) p q
  pub from : (q : ℕ) → Joined n near (lighter f t) p q → T (s q)

-- two sets have the same pixels
abbrev pub Same : ℕ → (ℕ → Bool) → (ℕ → Bool) → Type 0
Same n s s' = Within n s s' × Within n s' s

-- the anchors of a plate's nodes
unfoldable pub nodes_of : ℕ → ℕ → List ℕ → List ℕ
unfolding anchors touch lightest
nodes_of k w f = anchors (lightest f) (length f) (touch k w) (grey f)
