-- Greys of one order: of any two pixels, the one that is darker by f is darker by g, and the other way round. So pixels of one grey by f are so by g.
use Rattle.std.specs.Prelude.{◌≡◌, Bool, ℕ, ◌<◌}
use Rattle.meaning.specs.Nodes.{anchors, area_of, level_of, own, parent}
use Rattle.meaning.specs.Sets.{nth}

pub record SameOrder (n : ℕ) (f g : ℕ → ℕ) : Type 0 where
  pub to : (p q : ℕ) → p < n → q < n → f p < f q → g p < g q
  pub from : (p q : ℕ) → p < n → q < n → g p < g q → f p < f q

-- f and g have one tree, but for the levels: these are the anchors' greys. m and m' bound the greys of f and of g
pub record SameTree (n : ℕ) (near : ℕ → ℕ → Bool) (f g : ℕ → ℕ) (m m' : ℕ) : Type 0 where
  pub nodes : anchors m n near f ≡ anchors m' n near g
  pub owns : (p : ℕ) → p < n → own n near f (anchors m n near f) p ≡ own n near g (anchors m' n near g) p
  pub areas : area_of n near f (anchors m n near f) ≡ area_of n near g (anchors m' n near g)
  pub parents : parent n near f (anchors m n near f) ≡ parent n near g (anchors m' n near g)
  pub levels : (i : ℕ) → level_of n near f (anchors m n near f) i ≡ f (nth (anchors m' n near g) i)
