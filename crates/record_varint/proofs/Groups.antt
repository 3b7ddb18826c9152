-- The groups of a number, and bytes as a field: one step of each definition, and the groups' number and size.
use mathlib.Core.Path.{◌≡◌}
use mathlib.Core.Logic.{by_cases}
use mathlib.Core.List.{List, [], ◌∷◌}
use Prim.Native.Nat.{ℕ, zero, suc, ◌+◌, ◌-◌, ◌*◌, ◌/◌, ◌%◌, ◌≤◌, ◌<◌}
use native.Mathlib.Omega.{arith}
use native.Mathlib.Decide.{dec_lt}
use lib.ListN.{length, get_or}
use borrow.Author.Tests.{lt-ltb, le-ltb}
use Rattle.meaning.specs.Record.{groups, varint}
use Rattle.record_varint.specs.Field.{continued, value, field_bound}

-- ---- one step of each definition
module _ (k v : ℕ) where
  pub groups_low : v < 128 → groups (suc k) v ≡ v ∷ []
  unfolding groups
  groups_low h = rw (lt-ltb v 128 h, groups)

  pub groups_high : 128 ≤ v → groups (suc k) v ≡ (128 + v % 128) ∷ groups k (v / 128)
  unfolding groups
  groups_high h = rw (le-ltb v 128 h, groups)

module _ (b : ℕ) (l : List ℕ) where
  pub continued_low : b < 128 → continued (b ∷ l) ≡ 0
  unfolding continued
  continued_low h = rw (lt-ltb b 128 h, continued)

  pub continued_high : 128 ≤ b → continued (b ∷ l) ≡ suc (continued l)
  unfolding continued
  continued_high h = rw (le-ltb b 128 h, continued)

  pub value_low : b < 128 → value (b ∷ l) ≡ b
  unfolding value
  value_low h = rw (lt-ltb b 128 h, value)

  pub value_high : 128 ≤ b → value (b ∷ l) ≡ (b - 128) + 128 * value l
  unfolding value
  value_high h = rw (le-ltb b 128 h, value)

-- ---- numbers of at most k groups are below 128 ^ k
unfoldable pub cap : ℕ → ℕ
cap zero = 1
cap (suc k) = 128 * cap k

pub cap_more : (k n : ℕ) → k ≤ n → cap k ≤ cap n
unfolding cap
cap_more zero zero h = omega arith
cap_more zero (suc n) h = omega (arith, cap_more zero n (omega arith))
cap_more (suc k) zero h = omega arith
cap_more (suc k) (suc n) h = omega (arith, cap_more k n (omega arith))

-- ---- how many groups, and their bytes
-- one more group than are needed changes nothing
groups-more : (k v : ℕ) → v < cap (suc k) → groups (suc k) v ≡ groups (suc (suc k)) v
unfolding cap
groups-more zero v h = let low : v < 128 = omega arith in rw (groups_low 0 v low, groups_low 1 v low)
groups-more (suc k) v h =
    by_cases (dec_lt v 128) (λ low. rw (groups_low (suc k) v low, groups_low (suc (suc k)) v low))
    (λ high. let le : 128 ≤ v = omega arith in
    rw (groups_high (suc k) v le, groups_high (suc (suc k)) v le, groups-more k (v / 128) (omega arith)))

groups_least : (k v : ℕ) → 1 ≤ length (groups (suc k) v)
groups_least k v =
    by_cases (dec_lt v 128) (λ low. rw (groups_low k v low) (omega arith)) (λ high. let le : 128 ≤ v = omega arith in rw (groups_high k v le) (omega arith))

groups-most : (k v : ℕ) → length (groups k v) ≤ k
unfolding groups
groups-most zero v = omega arith
groups-most (suc k) v =
    by_cases (dec_lt v 128) (λ low. rw (groups_low k v low) (omega arith))
    (λ high. let le : 128 ≤ v = omega arith in rw (groups_high k v le) (omega (arith, groups-most k (v / 128))))

groups-bytes : (k v i : ℕ) → get_or (groups k v) i 0 < 256
unfolding groups
groups-bytes zero v i = omega arith
groups-bytes (suc k) v zero =
    by_cases (dec_lt v 128) (λ low. rw (groups_low k v low) (omega arith)) (λ high. let le : 128 ≤ v = omega arith in rw (groups_high k v le) (omega arith))
groups-bytes (suc k) v (suc i) =
    by_cases (dec_lt v 128) (λ low. rw (groups_low k v low) (omega arith))
    (λ high. let le : 128 ≤ v = omega arith in rw (groups_high k v le) (groups-bytes k (v / 128) i))

-- ---- the same of the shortest form
pub varint_low : (v : ℕ) → v < 128 → varint v ≡ v ∷ []
varint_low v h = groups_low 4 v h

pub varint_high : (v : ℕ) → 128 ≤ v → v < field_bound → varint v ≡ (128 + v % 128) ∷ varint (v / 128)
unfolding cap
varint_high v h small = rw (groups_high 4 v h, groups-more 3 (v / 128) (omega arith))

pub varint_least : (v : ℕ) → 1 ≤ length (varint v)
varint_least v = groups_least 4 v

pub varint-most : (v : ℕ) → length (varint v) ≤ 5
varint-most v = groups-most 5 v

pub varint-bytes : (v i : ℕ) → get_or (varint v) i 0 < 256
varint-bytes v i = groups-bytes 5 v i

-- ---- the size of the form, by the size of the number
pub size_one : (v : ℕ) → v < 128 → length (varint v) ≡ 1
size_one v h = rw (groups_low 4 v h)

pub size_two : (v : ℕ) → 128 ≤ v → v < 16384 → length (varint v) ≡ 2
size_two v a b = rw (groups_high 4 v a, groups_low 3 (v / 128) (omega arith))

pub size_three : (v : ℕ) → 16384 ≤ v → v < 2097152 → length (varint v) ≡ 3
size_three v a b = rw (groups_high 4 v (omega arith), groups_high 3 (v / 128) (omega arith), groups_low 2 (v / 128 / 128) (omega arith))

pub size_four : (v : ℕ) → 2097152 ≤ v → v < 268435456 → length (varint v) ≡ 4
size_four v a b =
    rw (
      groups_high 4 v (omega arith),
      groups_high 3 (v / 128) (omega arith),
      groups_high 2 (v / 128 / 128) (omega arith),
      groups_low 1 (v / 128 / 128 / 128) (omega arith),
    )

pub size_five : (v : ℕ) → 268435456 ≤ v → v < field_bound → length (varint v) ≡ 5
size_five v a b =
    rw (
      groups_high 4 v (omega arith),
      groups_high 3 (v / 128) (omega arith),
      groups_high 2 (v / 128 / 128) (omega arith),
      groups_high 1 (v / 128 / 128 / 128) (omega arith),
      groups_low 0 (v / 128 / 128 / 128 / 128) (omega arith),
    )

pub ruleset sizes = (size_one, size_two, size_three, size_four, size_five)
