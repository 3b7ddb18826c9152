-- Values by node in the column VALUE, and what is written out of the work space. n: the pixels; M: the greatest grey; count: the nodes.
use Rattle.std.specs.Prelude.{◌≡◌, Bool, List, ◌++◌, ℕ, suc, ◌*◌, ◌≤◌, ◌<◌, length, drop, replicate}
use Rattle.meaning.specs.Plate.{max_greatest}
use Rattle.meaning.specs.Answers.{over}
use Rattle.meaning.specs.Sets.{table}
use Rattle.work_columns.specs.Columns.{Frame, Only, Room, col}
use Rattle.work_columns.specs.Layout.{ATTRIBUTE, LEVEL, OWN, PARENT, VALUE}
use Rattle.plate_greys.specs.Sides.{side_plate}

-- the value of the own node of pixel p, and those of all pixels as a plate
abbrev pub value_at : ℕ → List ℕ → ℕ → ℕ
value_at n w p = col VALUE n w (col OWN n w p)

abbrev pub values_in : ℕ → List ℕ → List ℕ
values_in n w = table n (value_at n w)

-- each is a grey up to M, which fits
pub record Writable (n M : ℕ) (w : List ℕ) : Type 0 where
  pub small : M ≤ max_greatest
  pub room : Room w n
  pub owns : (p : ℕ) → p < n → col OWN n w p < n
  pub low : (p : ℕ) → p < n → value_at n w p ≤ M

-- the nodes are given their values, which by pixel are the plate `answer`
pub record ValuesAre (n M : ℕ) (answer w w' : List ℕ) : Type 0 where
  pub frame : Frame n w w'
  pub writable : Writable n M w'
  pub by_pixel : values_in n w' ≡ answer

-- ---- the cut at a limit

-- of the first `count` nodes, each that does not qualify has a parent with a smaller number
pub record Climbable (limit n : ℕ) (w : List ℕ) (count : ℕ) : Type 0 where
  pub room : Room w n
  pub few : count ≤ n
  pub earlier : (i : ℕ) → i < count → col ATTRIBUTE n w i < limit → col PARENT n w i < i

-- v has the values of the first `count` nodes in the cut: that of a node that qualifies is its level, that of another is its parent's; those of the
-- first `settled` are stored
pub record CutOf (limit n : ℕ) (w : List ℕ) (count settled : ℕ) (v : ℕ → ℕ) : Type 0 where
  pub kept : (i : ℕ) → i < count → limit ≤ col ATTRIBUTE n w i → v i ≡ col LEVEL n w i
  pub passed : (i : ℕ) → i < count → col ATTRIBUTE n w i < limit → v i ≡ v (col PARENT n w i)
  pub stored : (i : ℕ) → i < settled → v i ≡ col VALUE n w i

-- r is the value of node i
pub record Climbed (limit n : ℕ) (w : List ℕ) (settled i r : ℕ) : Type 0 where
  pub fits : r < 4294967296
  pub value-is : (v : ℕ → ℕ) → CutOf limit n w (suc i) settled v → r ≡ v i

-- ---- nodes without a child

pub record Ones (n count : ℕ) (w w' : List ℕ) : Type 0 where
  pub only : Only VALUE n w w'
  pub values : (i : ℕ) → i < count → col VALUE n w' i ≡ 1

-- ---- writing

-- all values are written, and the columns are cleared
pub record Delivered (negated : Bool) (n M : ℕ) (w w' out out' : List ℕ) : Type 0 where
  pub written : out' ≡ over (side_plate negated M (values_in n w)) out
  pub cleared : w' ≡ replicate (8 * n) 0 ++ drop (8 * n) w

-- there is a column, and room for its entries
pub record Copyable (n : ℕ) (w : List ℕ) (c count : ℕ) (out : List ℕ) : Type 0 where
  pub room : Room w n
  pub column : c < 8
  pub few : count ≤ n
  pub long : count ≤ length out
