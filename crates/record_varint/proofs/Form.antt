-- The shortest form: what it spells, and which bytes are one.
use mathlib.Core.Path.{◌≡◌, sym, ap, subst, ◌∙◌}
use mathlib.Core.Logic.{by_cases}
use mathlib.Core.Bool.{true}
use mathlib.Core.List.{List, [], ◌∷◌, ◌++◌}
use Prim.Native.Nat.{ℕ, zero, suc, ◌+◌, ◌-◌, ◌*◌, ◌/◌, ◌%◌, ◌≤◌, ◌<◌}
use native.Mathlib.Omega.{arith}
use native.Mathlib.Decide.{dec_lt}
use lib.ListN.{length, get_or, drop}
use Rattle.meaning.specs.Record.{groups, varint}
use Rattle.record_varint.specs.Field.{continued, value, starts, field_bound}
use Rattle.record_varint.proofs.Groups.{cap, cap_more, groups_low, groups_high, continued_low, continued_high, value_low, value_high}
use Rattle.record_varint.proofs.Starts.{starts_self, starts_cons, starts-yes}

-- ---- the bytes of a form, whatever follows: what they spell, how many continued, and the last
groups-value : (k v : ℕ) (r : List ℕ) → v < cap (suc k) → value (groups (suc k) v ++ r) ≡ v
unfolding cap
groups-value zero v r h = let low : v < 128 = omega arith in rw (groups_low, value_low)
groups-value (suc k) v r h =
    by_cases (dec_lt v 128) (λ low. rw (groups_low, value_low))
    (λ high. let le : 128 ≤ v = omega arith in let top : 128 ≤ 128 + v % 128 = omega arith in
    rw (groups_high, value_high) (omega (arith, groups-value k (v / 128) r (omega arith))))

groups-continued : (k v : ℕ) (r : List ℕ) → v < cap (suc k) → suc (continued (groups (suc k) v ++ r)) ≡ length (groups (suc k) v)
unfolding cap
groups-continued zero v r h = let low : v < 128 = omega arith in rw (groups_low, continued_low)
groups-continued (suc k) v r h =
    by_cases (dec_lt v 128) (λ low. rw (groups_low, continued_low))
    (λ high. let le : 128 ≤ v = omega arith in let top : 128 ≤ 128 + v % 128 = omega arith in
    rw (groups_high, continued_high) (ap suc (groups-continued k (v / 128) r (omega arith))))

groups_last : (k v : ℕ) (r : List ℕ) → v < cap (suc k) → 0 < v → 0 < get_or (groups (suc k) v ++ r) (continued (groups (suc k) v ++ r)) 0
unfolding cap
groups_last zero v r h p = let low : v < 128 = omega arith in rw (groups_low, continued_low) p
groups_last (suc k) v r h p =
    by_cases (dec_lt v 128) (λ low. rw (groups_low, continued_low) p)
    (λ high. let le : 128 ≤ v = omega arith in let top : 128 ≤ 128 + v % 128 = omega arith in
    rw (groups_high, continued_high) (groups_last k (v / 128) r (omega arith) (omega arith)))

module _ (v : ℕ) (r : List ℕ) (small : v < field_bound) where
  pub varint-value : value (varint v ++ r) ≡ v
  unfolding cap
  varint-value = groups-value 4 v r (omega arith)

  pub varint-continued : suc (continued (varint v ++ r)) ≡ length (varint v)
  unfolding cap
  varint-continued = groups-continued 4 v r (omega arith)

  -- the last group is zero only where it is the only one
  pub varint_last : 0 < continued (varint v ++ r) → 0 < get_or (varint v ++ r) (continued (varint v ++ r)) 0
  unfolding cap
  varint_last h =
      by_cases (dec_lt 0 v) (λ p. groups_last 4 v r (omega arith) p)
      (λ p. let low : v < 128 = omega arith in let no : 0 < 0 = rw (groups_low 4 v low, continued_low) at h in absurd (omega arith))

-- ---- bytes that begin with the form of what they spell
module _ (l : List ℕ) (small : value l < field_bound) (form : starts (varint (value l)) l ≡ true) where
  whole : l ≡ varint (value l) ++ drop (length (varint (value l))) l
  whole = starts-yes (varint (value l)) l form

  pub form_lead : suc (continued l) ≡ length (varint (value l))
  form_lead = ap (λ (t : List ℕ). suc (continued t)) whole ∙ varint-continued (value l) (drop (length (varint (value l))) l) small

  pub form_last : 0 < continued l → 0 < get_or l (continued l) 0
  form_last =
      subst (λ (t : List ℕ). 0 < continued t → 0 < get_or t (continued t) 0) (sym whole) (varint_last (value l) (drop (length (varint (value l))) l) small)

-- ---- such bytes are those that end with no zero group after others
abbrev pub Bytes : List ℕ → Type 0
Bytes l = (i : ℕ) → get_or l i 0 < 256

-- groups of which the last is not zero spell a number that needs them all
spelt_least : (l : List ℕ) → continued l < length l → 0 < get_or l (continued l) 0 → cap (continued l) ≤ value l
unfolding cap continued
spelt_least [] h p = omega arith
spelt_least (b ∷ l) h p =
    by_cases (dec_lt b 128)
    (λ low. rw (continued_low, value_low) (rw continued_low at p))
    (λ high. let le : 128 ≤ b = omega arith in
    let inside : suc (continued l) < suc (length l) = rw (continued_high b l le) at h in
    let rest : cap (continued l) ≤ value l = spelt_least l (omega arith) (rw (continued_high b l le) at p) in
    rw (continued_high, value_high) (omega arith))

shortest : (k : ℕ) (l : List ℕ) → Bytes l → continued l < length l → (0 < continued l → 0 < get_or l (continued l) 0) → value l < cap (suc k)
    → starts (groups (suc k) (value l)) l ≡ true
unfolding cap
shortest k [] by h p q = absurd (omega arith)
shortest zero (b ∷ l) by h p q =
    by_cases (dec_lt b 128)
    (λ low. rw (value_low, groups_low) (starts_self (b ∷ []) l))
    (λ high. let le : 128 ≤ b = omega arith in
    let inside : suc (continued l) < suc (length l) = rw (continued_high b l le) at h in
    let last : 0 < get_or l (continued l) 0 = (rw (continued_high b l le) at p) (omega arith) in
    let few : (b - 128) + 128 * value l < 128 = rw (value_high b l le) at q in
    absurd (omega (arith, spelt_least l (omega arith) last, cap_more 0 (continued l) (omega arith))))
shortest (suc k) (b ∷ l) by h p q =
    by_cases (dec_lt b 128)
    (λ low. rw (value_low, groups_low) (starts_self (b ∷ []) l))
    (λ high. let le : 128 ≤ b = omega arith in
    let inside : suc (continued l) < suc (length l) = rw (continued_high b l le) at h in
    let last : 0 < get_or l (continued l) 0 = (rw (continued_high b l le) at p) (omega arith) in
    let few : (b - 128) + 128 * value l < 128 * (128 * cap k) = rw (value_high b l le) at q in
    let some : 1 ≤ value l = omega (arith, spelt_least l (omega arith) last, cap_more 0 (continued l) (omega arith)) in
    let byte : b < 256 = by 0 in
    let v : 128 ≤ (b - 128) + 128 * value l = omega arith in
    let m : 128 + ((b - 128) + 128 * value l) % 128 ≡ b = omega arith in
    let d : ((b - 128) + 128 * value l) / 128 ≡ value l = omega arith in
    rw (value_high b l le, groups_high, m, d)
    (starts_cons b (groups (suc k) (value l)) l (shortest k l (λ i. by (suc i)) (omega arith) (λ _. last) (omega arith))))

pub shortest_form : (l : List ℕ) → Bytes l → continued l < length l → (0 < continued l → 0 < get_or l (continued l) 0) → value l < field_bound
    → starts (varint (value l)) l ≡ true
unfolding cap
shortest_form l by h p q = shortest 4 l by h p (omega arith)
