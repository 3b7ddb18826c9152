-- Columns of a lent slice as functions. Column c of n entries stands at c * n .. c * n + n. A column is 0 beyond its end, so that two columns with
-- the same entries are equal.
use Rattle.std.specs.Prelude.{◌≡◌, List, ℕ, ◌+◌, ◌*◌, ◌≤◌, ◌<◌, eqb, ltb, length, get_or, drop}
use Rattle.meaning.specs.Plate.{max_pixels}
use Rattle.meaning.specs.Sets.{pick}

-- column c of w, n entries long
unfoldable pub col : ℕ → ℕ → List ℕ → ℕ → ℕ
col c n w i = pick (ltb i n) (get_or w (c * n + i) 0) 0

-- the slice holds eight columns of n entries
pub record Room (w : List ℕ) (n : ℕ) : Type 0 where
  pub small : n ≤ max_pixels
  pub room : 8 * n ≤ length w

-- g' is g with v at i, below n
pub record Put (n : ℕ) (g g' : ℕ → ℕ) (i v : ℕ) : Type 0 where
  pub here : g' i ≡ v
  pub other : (j : ℕ) → j < n → (j ≡ i → ⊥) → g' j ≡ g j

-- w' is as long as w, and the same after its eight columns
pub record Frame (n : ℕ) (w w' : List ℕ) : Type 0 where
  pub len : length w' ≡ length w
  pub tail : drop (8 * n) w' ≡ drop (8 * n) w

-- w' is w but for column c
pub record Only (c n : ℕ) (w w' : List ℕ) : Type 0 where
  pub frame : Frame n w w'
  pub off : (d : ℕ) → d < 8 → (d ≡ c → ⊥) → col d n w' ≡ col d n w

-- w' is w with v at entry i of column c
pub record Stored (w w' : List ℕ) (n c i v : ℕ) : Type 0 where
  pub frame : Frame n w w'
  pub put : Put n (col c n w) (col c n w') i v
  pub off : (d : ℕ) → d < 8 → (d ≡ c → ⊥) → col d n w' ≡ col d n w

-- w' is w with v at the first `count` entries of column c
pub record Filled (w w' : List ℕ) (n c count v : ℕ) : Type 0 where
  pub only : Only c n w w'
  pub here : (i : ℕ) → i < count → col c n w' i ≡ v
  pub rest : (i : ℕ) → count ≤ i → i < n → col c n w' i ≡ col c n w i

-- ---- two columns side by side

-- the entry k, 0 or 1, of pair i: the n pairs stand where the columns 5 and 6 do
unfoldable pub pair_at : ℕ → ℕ → List ℕ → ℕ → ℕ
pair_at k n w i = pick (ltb i n) (get_or w (5 * n + (2 * i + k)) 0) 0

-- column c where the columns 5 and 6 are pairs: 6 the first entries, 5 the second
abbrev pub cell : ℕ → ℕ → List ℕ → ℕ → ℕ
cell c n w = pick (eqb c 5) (pair_at 1 n w) (pick (eqb c 6) (pair_at 0 n w) (col c n w))

-- w' is w with v at entry i of column c, in that reading
pub record CellStored (w w' : List ℕ) (n c i v : ℕ) : Type 0 where
  pub frame : Frame n w w'
  pub put : Put n (cell c n w) (cell c n w') i v
  pub off : (d : ℕ) → d < 8 → (d ≡ c → ⊥) → cell d n w' ≡ cell d n w
