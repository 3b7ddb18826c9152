-- The size list from the columns of the tree. n: the pixels.
use Rattle.std.specs.Prelude.{◌≡◌, List, ℕ, suc, ◌-◌, ◌*◌, ◌≤◌, eqb, leb, length}
use Rattle.meaning.specs.Answers.{over}
use Rattle.meaning.specs.Cut.{counts, held, losses}
use Rattle.meaning.specs.Plate.{max_greatest, max_pixels}
use Rattle.meaning.specs.Sets.{pick, sum, table}
use Rattle.work_columns.specs.Columns.{Frame, col}
use Rattle.work_columns.specs.Layout.{AREA, ATTRIBUTE, LEVEL, PARENT, greys_in}
use Rattle.work_columns.specs.declared.Shape.{Shape}

-- m zeros
abbrev pub zeros : ℕ → List ℕ
zeros m = table m (λ (i : ℕ). 0)

-- what the first k nodes add at a, where node j adds v j at c j
unfoldable pub tally : (c v : ℕ → ℕ) → ℕ → ℕ → ℕ
unfolding sum
tally c v k a = sum k (λ (j : ℕ). pick (eqb (c j) a) (v j) 0)

-- that for each attribute from 1 to n - 1
abbrev pub by_attribute : ℕ → List ℕ → (ℕ → ℕ) → ℕ → List ℕ
by_attribute n w v k = table (n - 1) (λ (i : ℕ). tally (col ATTRIBUTE n w) v k (suc i))

-- where node j adds 1; or the grey lost with it, its area times its rise above its parent's level
abbrev pub ones : ℕ → ℕ
ones j = 1

abbrev pub loss_of : ℕ → List ℕ → ℕ → ℕ
loss_of n w j = col AREA n w j * (col LEVEL n w j - col LEVEL n w (col PARENT n w j))

-- no node loses more
abbrev pub most_lost : ℕ
most_lost = max_pixels * max_greatest

-- the grey held with node j: the grey lost with it where its attribute is all the pixels, else 0; and with the first k nodes after the root
abbrev pub held_of : ℕ → List ℕ → ℕ → ℕ
held_of n w j = pick (leb n (col ATTRIBUTE n w j)) (loss_of n w j) 0

unfoldable pub held_by : ℕ → List ℕ → ℕ → ℕ
unfolding sum
held_by n w k = sum k (λ (j : ℕ). held_of n w (suc j))

-- a table to which the first k nodes have added
pub record TableOf (n : ℕ) (w : List ℕ) (v : ℕ → ℕ) (k : ℕ) (t : List ℕ) : Type 0 where
  pub places : n - 1 ≤ length t
  pub tallies : t ≡ over (by_attribute n w v k) t

-- there is room for the size list
pub record TablesFit (n : ℕ) (counted lost : List ℕ) : Type 0 where
  pub counts_fit : n - 1 ≤ length counted
  pub losses_fit : n - 1 ≤ length lost

-- the size list of the plate f is written, and r is the grey held
pub record SizesListed (g : Shape) (f counted counted' lost lost' : List ℕ) (r : ℕ) : Type 0 where
  pub counted_is : counted' ≡ over (counts g.connectivity g.width g.height f) counted
  pub lost_is : lost' ≡ over (losses g.connectivity g.width g.height f) lost
  pub held-is : r ≡ held g.connectivity g.width g.height f

-- the same of the plate whose greys stand in the work space w; afterwards it is w'
pub record SizesWritten (g : Shape) (w w' counted counted' lost lost' : List ℕ) (r : ℕ) : Type 0 where
  pub frame : Frame g.pixels w w'
  pub listed : SizesListed g (greys_in g.pixels w) counted counted' lost lost' r
