-- What the private functions ask and ensure. b is the first word of a layer.
use Rattle.std.specs.Prelude.{◌≡◌, List, ℕ, ◌+◌, ◌-◌, ◌/◌, ◌%◌, ◌^◌, ◌≤◌, ◌<◌, Bool, nat_eq, length, set}
use Rattle.meaning.specs.Sets.{nth}
use Rattle.flood_open_levels.specs.Levels.{bit_at, is_open}

-- the word of s that has the bit of j
abbrev pub word_of : List ℕ → ℕ → ℕ → ℕ
word_of s b j = nth s (b + j / 64)

-- the bit of j is v
pub record BitIs (s : List ℕ) (b j v : ℕ) : Type 0 where
  pub inside : b + j / 64 < length s
  pub is : bit_at (word_of s b j) (j % 64) ≡ v

-- j is added; r: its word was 0
pub record Added (s s' : List ℕ) (b j : ℕ) (r : Bool) : Type 0 where
  pub word : r ≡ nat_eq (word_of s b j) 0
  pub stored : s' ≡ set s (b + j / 64) (word_of s b j + 2 ^ (j % 64))

-- j is removed; r: its word is 0 then
pub record Removed (s s' : List ℕ) (b j : ℕ) (r : Bool) : Type 0 where
  pub word : r ≡ nat_eq (word_of s b j - 2 ^ (j % 64)) 0
  pub stored : s' ≡ set s (b + j / 64) (word_of s b j - 2 ^ (j % 64))

-- word a of the layer is not 0
pub record Nonempty (s : List ℕ) (b a : ℕ) : Type 0 where
  pub inside : b + a < length s
  pub small : a < 1024
  pub some : 0 < nth s (b + a)

-- r is the greatest member that word a of a layer has, which is x
pub record Highest (x a r : ℕ) : Type 0 where
  pub word : r / 64 ≡ a
  pub here : bit_at x (r % 64) ≡ 1
  pub most : (j : ℕ) → bit_at x j ≡ 1 → j ≤ r % 64

-- r is the lightest open level below 4096 (b + 1)
pub record LightestUpTo (s : List ℕ) (b r : ℕ) : Type 0 where
  pub small : r < 65536
  pub held : is_open s r ≡ 1
  pub most : (l : ℕ) → is_open s l ≡ 1 → l / 64 / 64 ≤ b → l ≤ r
