-- The bytes from a position on, as a field: what each step of finding its end and of spelling its number shows, and the cases of `field_at` by the
-- tests of the code.
use mathlib.Core.Path.{◌≡◌, sym, ◌∙◌}
use mathlib.Core.Logic.{by_cases, ◌⊎◌, inl, inr}
use mathlib.Core.Bool.{true}
use mathlib.Core.List.{List, [], ◌∷◌}
use Prim.Native.Nat.{ℕ, zero, suc, ◌+◌, ◌-◌, ◌*◌, ◌≤◌, ◌<◌}
use native.Mathlib.Omega.{arith}
use native.Mathlib.Numerals.{add-one}
use native.Mathlib.Decide.{dec_lt}
use lib.Dec.{ltb, leb}
use lib.ListN.{length, get_or, drop, length-drop}
use lib.Seq.{drop-cons, get_or-drop}
use borrow.Author.Tests.{ltb-true, leb-true}
use Rattle.meaning.specs.Record.{varint}
use Rattle.record_varint.specs.Field.{continued, value, starts, field_bound, accepted, refused, field_at}
use Rattle.record_varint.proofs.Groups.{cap, cap_more, varint-most, continued_low, continued_high, value_low, value_high}
use Rattle.record_varint.proofs.Starts.{and-not}
use Rattle.record_varint.proofs.Form.{Bytes, form_lead, form_last, shortest_form}
use Rattle.record_varint.proofs.Reading.{field_unended, field-malformed, field_outside, field_accepted}

-- ---- one byte at a position
module _ (s : List ℕ) (i : ℕ) where
  pub continued_here : i < length s → get_or s i 0 < 128 → continued (drop i s) ≡ 0
  continued_here h b = rw (drop-cons s i 0, continued_low)

  pub continued_next : i < length s → 128 ≤ get_or s i 0 → continued (drop i s) ≡ suc (continued (drop (i + 1) s))
  continued_next h b = rw (add-one, drop-cons s i 0, continued_high)

  value_here : i < length s → get_or s i 0 < 128 → value (drop i s) ≡ get_or s i 0
  value_here h b = rw (drop-cons s i 0, value_low)

  value_next : i < length s → 128 ≤ get_or s i 0 → value (drop i s) ≡ (get_or s i 0 - 128) + 128 * value (drop (suc i) s)
  value_next h b = rw (drop-cons s i 0, value_high)

-- what finding the end of a field needs
pub ruleset end_steps = (continued_here, continued_next)

-- ---- the bytes that continued have the top bit set, and the one after them has not
continued_high_at : (l : List ℕ) (k : ℕ) → k < continued l → 128 ≤ get_or l k 0
unfolding continued
continued_high_at [] k h = absurd (omega arith)
continued_high_at (b ∷ l) zero h = by_cases (dec_lt b 128) (λ low. absurd (omega (arith, continued_low b l low))) (λ high. omega arith)
continued_high_at (b ∷ l) (suc k) h =
    by_cases (dec_lt b 128) (λ low. absurd (omega (arith, continued_low b l low)))
    (λ high. continued_high_at l k (omega (arith, continued_high b l (omega arith))))

continued_low_at : (l : List ℕ) → continued l < length l → get_or l (continued l) 0 < 128
continued_low_at [] h = absurd (omega arith)
continued_low_at (b ∷ l) h =
    by_cases (dec_lt b 128) (λ low. rw continued_low low)
    (λ high. let le : 128 ≤ b = omega arith in rw continued_high (continued_low_at l (omega (arith, continued_high b l le))))

-- ---- spelling the number, from its last group to its first
-- the groups from i to the end spell v
pub record FieldSpelt (s : List ℕ) (at end i v : ℕ) : Type 0 where
  pub from : at ≤ i
  pub to : i ≤ end
  pub spells : v ≡ value (drop i s)
  pub few : v < cap (suc (end - i))

module _ (s : List ℕ) (at end : ℕ) (h : end < length s) (ends : end ≡ at + continued (drop at s)) where
  -- each byte before the last has its top bit set
  pub top_set : (i : ℕ) → at ≤ i → i < end → 128 ≤ get_or s i 0
  top_set i a b = let e : at + (i - at) ≡ i = omega arith in rw (get_or-drop, e) at (continued_high_at (drop at s) (i - at) (omega arith))

  pub spelt_last : (v : ℕ) → v ≡ get_or s end 0 → FieldSpelt s at end end v
  unfolding cap
  spelt_last v is =
      let low : get_or s end 0 < 128 = rw (get_or-drop, ← ends) at (continued_low_at (drop at s) (omega (arith, length-drop at s))) in
      record {
        from = omega arith;
        to = omega arith;
        spells = is ∙ sym (value_here s end h low);
        few = omega (arith, cap_more 1 (suc (end - end)) (omega arith));
      }

  -- at most four groups are spelt before the last step
  pub spelt_small : (i v : ℕ) → end ≤ at + 4 → FieldSpelt s at end i v → at < i → v < 268435456
  unfolding cap
  spelt_small i v most p more = omega (arith, p.few, cap_more (suc (end - i)) 4 (omega arith))

  pub spelt_back : (i v b : ℕ) → Bytes s → FieldSpelt s at end i v → at < i → b ≡ get_or s (i - 1) 0
      → FieldSpelt s at end (i - 1) (v * 128 + (b - 128))
  unfolding cap
  spelt_back i v b bytes p more is =
      let high : 128 ≤ get_or s (i - 1) 0 = top_set (i - 1) (omega arith) (omega (arith, p.to)) in
      let e : suc (i - 1) ≡ i = omega arith in
      let step : value (drop (i - 1) s) ≡ (get_or s (i - 1) 0 - 128) + 128 * value (drop i s) = rw (value_next s (i - 1) (omega (arith, p.to)) high, e) in
      record {
        from = omega arith;
        to = omega (arith, p.to);
        spells = omega (arith, p.spells);
        few = omega (arith, p.few, bytes (i - 1), cap_more (suc (suc (end - i))) (suc (end - (i - 1))) (omega (arith, p.to)));
      }

-- ---- the cases of `field_at`, by the tests of the code
-- the bytes from `at` to the end are the form of v
pub record Formed (s : List ℕ) (at end v : ℕ) : Type 0 where
  pub ends : end ≡ at + continued (drop at s)
  pub inside : continued (drop at s) < length (drop at s)
  pub spells : v ≡ value (drop at s)
  pub small : v < field_bound
  pub form : starts (varint (value (drop at s))) (drop at s) ≡ true

pub read_unended : (s : List ℕ) (at lo hi : ℕ) → length s ≤ at + continued (drop at s) → refused 20 ≡ field_at s at lo hi
read_unended s at lo hi h = sym (field_unended (drop at s) at lo hi (omega (arith, length-drop at s)))

module _ (s : List ℕ) (at end : ℕ) (ends : end ≡ at + continued (drop at s)) (h : end < length s) where
  inside : continued (drop at s) < length (drop at s)
  inside = omega (arith, length-drop at s)

  last : get_or (drop at s) (continued (drop at s)) 0 ≡ get_or s end 0
  last = rw (get_or-drop, ends)

  module _ (lo hi : ℕ) where
    -- no bytes that begin with the form of a number that is small enough come this way
    malformed : (starts (varint (value (drop at s))) (drop at s) ≡ true → value (drop at s) < field_bound → ⊥) → refused 21 ≡ field_at s at lo hi
    malformed not-form =
        sym (field-malformed (drop at s) at lo hi inside (and-not (starts (varint (value (drop at s))) (drop at s)) (ltb (value (drop at s)) field_bound)
        (λ f v. not-form f (ltb-true (value (drop at s)) field_bound v))))

    pub read_many : 4 < end - at → refused 21 ≡ field_at s at lo hi
    read_many m = malformed (λ f v. omega (arith, form_lead (drop at s) v f, varint-most (value (drop at s))))

    pub read_zero_last : at < end → get_or s end 0 ≡ 0 → refused 21 ≡ field_at s at lo hi
    read_zero_last several none =
        malformed (λ f v. omega (arith, last, form_last (drop at s) v f (omega arith)))

    pub read_large : (v : ℕ) → v ≡ value (drop at s) → field_bound ≤ v → refused 21 ≡ field_at s at lo hi
    read_large v is m = malformed (λ f small. omega arith)

  -- no test of the form refuses
  pub read_formed : (v : ℕ) → v ≡ value (drop at s) → Bytes s → (at < end → get_or s end 0 ≡ 0 → ⊥) → v < field_bound → Formed s at end v
  read_formed v is bytes nonzero small = record {
    ends = ends;
    inside = inside;
    spells = is;
    small = small;
    form =
        shortest_form (drop at s) (λ i. rw get_or-drop (bytes (at + i))) inside
        (λ several. let some : get_or s end 0 ≡ 0 → ⊥ = nonzero (omega arith) in
        omega (arith, last))
        (omega arith);
  }

module _ (s : List ℕ) (at lo hi end v : ℕ) (f : Formed s at end v) where
  pub read_outside : (v < lo) ⊎ (lo ≤ v) × (hi < v) → refused 22 ≡ field_at s at lo hi
  read_outside out =
      let is = f.spells in
      sym (field_outside (drop at s) at lo hi f.inside f.form (omega (arith, f.small))
      (and-not (leb lo (value (drop at s))) (leb (value (drop at s)) hi)
      (λ a b. let low = leb-true lo (value (drop at s)) a in let high = leb-true (value (drop at s)) hi b in
      elim out [ inl h ↦ omega arith | inr h ↦ omega arith ])))

  pub read_accepted : lo ≤ v → v ≤ hi → accepted v (end + 1) ≡ field_at s at lo hi
  read_accepted a b =
      let is = f.spells in
      let small : value (drop at s) < field_bound = omega (arith, f.small) in
      let next : end + 1 ≡ at + length (varint (value (drop at s))) = omega (arith, f.ends, form_lead (drop at s) small f.form) in
      rw (field_accepted (drop at s) at lo hi f.inside f.form small (omega arith) (omega arith), is, next)
