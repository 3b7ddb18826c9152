-- The column ATTRIBUTE and how it is filled. n: the pixels; count: the nodes; g: the plate's shape.
use Rattle.std.specs.Prelude.{◌≡◌, ◌⊎◌, List, ℕ, ◌+◌, ◌*◌, ◌≤◌, ◌<◌, T}
use Rattle.meaning.specs.Nodes.{holds}
use Rattle.meaning.specs.Opening.{Reaches}
use Rattle.meaning.specs.Plate.{grey, on_trim_edge}
use Rattle.work_columns.specs.Columns.{Only, Room, col}
use Rattle.work_columns.specs.Layout.{AREA, ATTRIBUTE, OWN, PARENT, greys_in, touch_in}
use Rattle.work_columns.specs.declared.Shape.{Shape}
use Rattle.maxtree_columns.specs.Tree.{Attributed, Tree, nodes_in}

-- each of the first `count` nodes has its area
pub record AreasCopied (n count : ℕ) (w w' : List ℕ) : Type 0 where
  pub only : Only ATTRIBUTE n w w'
  pub areas : (i : ℕ) → i < count → col ATTRIBUTE n w' i ≡ col AREA n w i

-- ---- the pixels of the trim edge mark their own nodes

-- p is one of first, first + step, .., so many times
abbrev pub OnLine : (first step times p : ℕ) → Type 0
OnLine first step times p = (i : ℕ) × (i < times) × (p ≡ first + i * step)

-- they are pixels, which have their own nodes
pub record Line (n : ℕ) (w : List ℕ) (first step times : ℕ) : Type 0 where
  pub room : Room w n
  pub owns : (p : ℕ) → p < n → col OWN n w p < n
  pub inside : (i : ℕ) → i < times → first + i * step < n

-- the own nodes of the pixels that pass have got n, and no other entry has changed
pub record Marked (n : ℕ) (Passes : ℕ → Type 0) (w w' : List ℕ) : Type 0 where
  pub only : Only ATTRIBUTE n w w'
  pub marks : (p : ℕ) → p < n → Passes p → col ATTRIBUTE n w' (col OWN n w p) ≡ n
  pub others : (j : ℕ) → j < n
      → (col ATTRIBUTE n w' j ≡ col ATTRIBUTE n w j)
      ⊎ ((col ATTRIBUTE n w' j ≡ n) × ((p : ℕ) × (p < n) × Passes p × (col OWN n w p ≡ j)))

-- ---- the nodes hand their marks to their parents

-- node i has handed its mark on, where it has one
pub record Handed (n i : ℕ) (w w' : List ℕ) : Type 0 where
  pub only : Only ATTRIBUTE n w w'
  pub marks : n ≤ col ATTRIBUTE n w i → col ATTRIBUTE n w' (col PARENT n w i) ≡ n
  pub others : (j : ℕ) → j < n
      → (col ATTRIBUTE n w' j ≡ col ATTRIBUTE n w j) ⊎ ((n ≤ col ATTRIBUTE n w i) × (j ≡ col PARENT n w i) × (col ATTRIBUTE n w' j ≡ n))

-- the nodes from `from` on have: each node has n, and reaches the trim edge, or its area; the own node of a pixel of the edge has n
pub record Raised (g : Shape) (f w : List ℕ) (count from : ℕ) : Type 0 where
  pub tree : Tree g f w count
  pub each : (j : ℕ) → j < count
      → ((col ATTRIBUTE g.pixels w j ≡ g.pixels)
      × Reaches g.pixels (on_trim_edge g.width g.height) (holds g.pixels (touch_in g) (grey f) (nodes_in g f) j))
      ⊎ (col ATTRIBUTE g.pixels w j ≡ col AREA g.pixels w j)
  pub own_marked : (p : ℕ) → p < g.pixels → T (on_trim_edge g.width g.height p)
      → col ATTRIBUTE g.pixels w (col OWN g.pixels w p) ≡ g.pixels
  pub handed : (j : ℕ) → from ≤ j → 0 < j → j < count → g.pixels ≤ col ATTRIBUTE g.pixels w j
      → col ATTRIBUTE g.pixels w (col PARENT g.pixels w j) ≡ g.pixels

-- ---- all nodes have their attributes

pub record AttributesSet (g : Shape) (w w' : List ℕ) (count : ℕ) : Type 0 where
  pub only : Only ATTRIBUTE g.pixels w w'
  pub attributed : Attributed g (greys_in g.pixels w) w' count
