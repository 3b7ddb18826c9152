-- The set of open levels, numbers below 65,536, as three layers of bits in the first 1,041 words of a slice. The words 0 to 1,023 hold the set: bit j of
-- word a is 1 where 64 a + j is a member. The words 1,024 to 1,039 hold in the same way the set of the words that are not 0, and the word 1,040 that of
-- the words 1,024 to 1,039 that are not 0.
use Rattle.std.specs.Prelude.{◌≡◌, List, ℕ, ◌+◌, ◌-◌, ◌/◌, ◌%◌, ◌^◌, ◌≤◌, ◌<◌, ltb, length, take, drop, Option, Some, None}
use Rattle.meaning.specs.Sets.{bit, nth}

-- bit j of x
unfoldable pub bit_at : ℕ → ℕ → ℕ
bit_at x j = x / 2 ^ j % 2

-- 0 for 0, 1 for any other number
abbrev pub signum : ℕ → ℕ
signum x = bit (ltb 0 x)

-- 1 where j is a member of the set that the words hold, else 0
unfoldable pub member : List ℕ → ℕ → ℕ
member ws j = bit_at (nth ws (j / 64)) (j % 64)

-- n words of s, from word b on
unfoldable pub part : ℕ → ℕ → List ℕ → List ℕ
part b n s = take n (drop b s)

-- the three layers
abbrev pub words : List ℕ → List ℕ
words s = part 0 1024 s

abbrev pub middle : List ℕ → List ℕ
middle s = part 1024 16 s

abbrev pub root : List ℕ → List ℕ
root s = part 1040 1 s

-- upper holds the set of the words of lower that are not 0
pub record Summary (lower upper : List ℕ) : Type 0 where
  pub tells : (a : ℕ) → member upper a ≡ signum (nth lower a)

-- the slice holds a set
pub record Layers (s : List ℕ) : Type 0 where
  pub room : 1041 ≤ length s
  pub mid : Summary (words s) (middle s)
  pub top : Summary (middle s) (root s)

-- 1 where the level m is open, else 0
unfoldable pub is_open : List ℕ → ℕ → ℕ
is_open s m = member (words s) m

-- u is one more than the lightest open level, 0 where none is open
pub record Lightest (s : List ℕ) (u : ℕ) : Type 0 where
  pub above : (l : ℕ) → is_open s l ≡ 1 → l < u
  pub held : 0 < u → is_open s (u - 1) ≡ 1

-- one more than the level, 0 where there is none
abbrev pub next_of : Option ℕ → ℕ
next_of None = 0
next_of (Some l) = l + 1

-- s' holds the set of s, but for the level m, which is open where v is 1; after the layers s' is s
pub record Changed (s s' : List ℕ) (m v : ℕ) : Type 0 where
  pub layers : Layers s'
  pub len : length s' ≡ length s
  pub tail : drop 1041 s' ≡ drop 1041 s
  pub here : is_open s' m ≡ v
  pub other : (l : ℕ) → (l ≡ m → ⊥) → is_open s' l ≡ is_open s l

-- what opening the level m asks
pub record Openable (s : List ℕ) (m : ℕ) : Type 0 where
  pub layers : Layers s
  pub small : m < 65536
  pub fresh : is_open s m ≡ 0

-- what shutting the level h asks: it is the lightest
pub record Shuttable (s : List ℕ) (h : ℕ) : Type 0 where
  pub layers : Layers s
  pub lightest : Lightest s (h + 1)

-- h is shut; r is one more than the lightest level that is left, 0 where none is
pub record Shut (s s' : List ℕ) (h r : ℕ) : Type 0 where
  pub changed : Changed s s' h 0
  pub lightest : Lightest s' r
  pub lower : r ≤ h
