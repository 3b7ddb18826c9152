-- The cut of a plate's tree at a limit, total and darkest grey, and the size list (pattern spectrum).
use Rattle.std.specs.Prelude.{Bool, ◌&&◌, List, ℕ, suc, ◌-◌, ◌*◌, length}
use Rattle.std.proofs.Math.Dec.{eqb}
use Rattle.meaning.specs.Sets.{pick, area, sum, most, lowest, table, elem}
use Rattle.meaning.specs.Plate.{touch, grey, lightest, on_trim_edge}
use Rattle.meaning.specs.Opening.{at_least, attribute, reaches}
use Rattle.meaning.specs.Nodes.{level_of, holds, nodes_of}

-- ---- a tree whose nodes are those of the anchors xs

module _ (n : ℕ) (near : ℕ → ℕ → Bool) (f : ℕ → ℕ) (xs : List ℕ) where
  -- the cut at p: the highest level among p's nodes that qualify
  unfoldable pub cut_at : ((ℕ → Bool) → Bool) → ℕ → ℕ
  unfolding most holds
  cut_at keep p = most (length xs) (λ (j : ℕ). let k = keep (holds n near f xs j) in pick (holds n near f xs j p && k) (level_of n near f xs j) 0)

  -- how many nodes have the attribute a
  unfoldable pub count_at : ((ℕ → Bool) → ℕ) → ℕ → ℕ
  unfolding area holds
  count_at att a = area (length xs) (λ (j : ℕ). eqb (att (holds n near f xs j)) a)

  -- the grey lost at a: the sum over the pixels of the cut at a minus the cut at a + 1. No difference is cut off at 0, since the cut at a + 1 is nowhere
  -- lighter than the cut at a: the grey lost and the total of the cut at a + 1 make the total of the cut at a (crate theorems, 7)
  unfoldable pub lost_at : ((ℕ → Bool) → ℕ) → ℕ → ℕ
  unfolding sum cut_at
  lost_at att a = sum n (λ (p : ℕ). cut_at (at_least att a) p - cut_at (at_least att (suc a)) p)

-- ---- a plate

-- the cut of a plate's tree at a limit
unfoldable pub cut : ℕ → ℕ → ℕ → ℕ → List ℕ → List ℕ
unfolding cut_at table touch nodes_of area reaches on_trim_edge
cut k w h limit f = table (length f) (cut_at (length f) (touch k w) (grey f) (nodes_of k w f) (at_least (attribute w h) limit))

-- a plate's total grey
unfoldable pub total : List ℕ → ℕ
unfolding sum
total f = sum (length f) (grey f)

-- a plate's darkest grey: the least that a pixel has
unfoldable pub darkest : List ℕ → ℕ
unfolding lowest lightest
darkest f = lowest (lightest f) (elem f)

-- the size list: for each area from 1 to pixels - 1 the number of nodes off the trim edge of that area; one on the edge has all the pixels for its
-- attribute (crate theorems, 7)
unfoldable pub counts : ℕ → ℕ → ℕ → List ℕ → List ℕ
unfolding count_at table touch nodes_of area reaches on_trim_edge
counts k w h f = table (length f - 1) (λ (i : ℕ). count_at (length f) (touch k w) (grey f) (nodes_of k w f) (attribute w h) (suc i))

-- the grey lost at that area
unfoldable pub losses : ℕ → ℕ → ℕ → List ℕ → List ℕ
unfolding lost_at table touch nodes_of area reaches on_trim_edge
losses k w h f = table (length f - 1) (λ (i : ℕ). lost_at (length f) (touch k w) (grey f) (nodes_of k w f) (attribute w h) (suc i))

-- and the grey held on the trim edge: the total grey of the cut at the full limit, less the darkest grey times the pixels
unfoldable pub held : ℕ → ℕ → ℕ → List ℕ → ℕ
unfolding total cut darkest
held k w h f = total (cut k w h (w * h) f) - darkest f * (w * h)
