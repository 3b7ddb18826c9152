-- Reading a field: reading what was written gives the number back, and what is accepted was written so.
use mathlib.Core.Path.{◌≡◌, refl, ap, ◌∙◌}
use mathlib.Core.Bool.{Bool, true, false, not, ◌&&◌}
use mathlib.Core.List.{List, ◌++◌}
use Prim.Native.Nat.{ℕ, ◌+◌, ◌≤◌, ◌<◌}
use native.Mathlib.Omega.{arith}
use lib.Dec.{ltb, leb}
use lib.ListN.{length, drop, length-drop, length-append}
use lib.Seq.{drop-drop}
use borrow.Author.Tests.{lt-ltb, le-leb, lt-leb, ltb-true, leb-true, not-false}
use Rattle.meaning.specs.Sets.{pick}
use Rattle.meaning.specs.Record.{varint}
use Rattle.record_varint.specs.Field.{continued, value, starts, field_bound, Reading, accepted, refused, field_of, field_at}
use Rattle.record_varint.proofs.Groups.{varint_least}
use Rattle.record_varint.proofs.Starts.{and_left, and_right, starts_self, starts-yes}
use Rattle.record_varint.proofs.Form.{varint-value, varint-continued}

-- ---- the cases of field_of
module _ (l : List ℕ) (at lo hi : ℕ) where
  pub field_unended : length l ≤ continued l → field_of l at lo hi ≡ refused 20
  unfolding field_of
  field_unended h = rw (le-leb (length l) (continued l) h)

  module _ (ended : continued l < length l) where
    pub field-malformed : (starts (varint (value l)) l && ltb (value l) field_bound) ≡ false → field_of l at lo hi ≡ refused 21
    unfolding field_of
    field-malformed e = rw (lt-leb (length l) (continued l) ended, e)

    module _ (form : starts (varint (value l)) l ≡ true) (small : value l < field_bound) where
      pub field_outside : (leb lo (value l) && leb (value l) hi) ≡ false → field_of l at lo hi ≡ refused 22
      unfolding field_of
      field_outside e = rw (lt-leb (length l) (continued l) ended, form, lt-ltb (value l) field_bound small, e)

      pub field_accepted : lo ≤ value l → value l ≤ hi → field_of l at lo hi ≡ accepted (value l) (at + length (varint (value l)))
      unfolding field_of
      field_accepted a b = rw (lt-leb (length l) (continued l) ended, form, lt-ltb (value l) field_bound small, le-leb lo (value l) a, le-leb (value l) hi b)

-- ---- reading what was written
-- the number comes back, with the position after its form
pub field-written : (v : ℕ) (r : List ℕ) (at lo hi : ℕ) → v < field_bound → lo ≤ v → v ≤ hi
    → field_of (varint v ++ r) at lo hi ≡ accepted v (at + length (varint v))
field-written v r at lo hi small a b =
    let is : value (varint v ++ r) ≡ v = varint-value v r small in
    let ended : continued (varint v ++ r) < length (varint v ++ r) = omega (arith, varint-continued v r small, length-append (varint v) r) in
    let form : starts (varint (value (varint v ++ r))) (varint v ++ r) ≡ true = rw is (starts_self (varint v) r) in
    field_accepted (varint v ++ r) at lo hi ended form (omega arith) (omega arith) (omega arith) ∙ rw is

-- ---- what was accepted
pub record Accepted (s : List ℕ) (at lo hi v next : ℕ) : Type 0 where
  pub form : drop at s ≡ varint v ++ drop next s
  pub after : next ≡ at + length (varint v)
  pub within : next ≤ length s
  pub low : lo ≤ v
  pub high : v ≤ hi
  pub small : v < field_bound

pick_no : (b : Bool) (n : ℕ) (f : Reading) (v q : ℕ) → pick b (refused n) f ≡ accepted v q → (b ≡ false) × (f ≡ accepted v q)
pick_no true n f v q e = let z : ◌≡◌ {A = ℕ} 0 1 = cc in absurd (omega arith)
pick_no false n f v q e = (refl, e)

pub field_read : (s : List ℕ) (at lo hi v next : ℕ) → field_at s at lo hi ≡ accepted v next → Accepted s at lo hi v next
unfolding field_of
field_read s at lo hi v next e =
    let l = drop at s in
    let e20 = pick_no (leb (length l) (continued l)) 20 _ v next e in
    let e21 = pick_no (not (starts (varint (value l)) l && ltb (value l) field_bound)) 21 _ v next e20.1 in
    let e22 = pick_no (not (leb lo (value l) && leb (value l) hi)) 22 _ v next e21.1 in
    let good = not-false (starts (varint (value l)) l && ltb (value l) field_bound) e21.0 in
    let inside = not-false (leb lo (value l) && leb (value l) hi) e22.0 in
    let is : v ≡ value l = cc e22.1 in
    let after : next ≡ at + length (varint (value l)) = cc e22.1 in
    let form : l ≡ varint (value l) ++ drop (length (varint (value l))) l = starts-yes (varint (value l)) l (and_left (starts (varint (value l)) l) _ good) in
    record {
      form = rw (after, is, ← drop-drop (length (varint (value l))) at s) form;
      after = rw is after;
      within =
          omega (arith, length-drop at s, varint_least (value l), length-append (varint (value l)) (drop (length (varint (value l))) l), ap length form);
      low = rw is (leb-true lo (value l) (and_left (leb lo (value l)) _ inside));
      high = rw is (leb-true (value l) hi (and_right (leb lo (value l)) _ inside));
      small = rw is (ltb-true (value l) field_bound (and_right (starts (varint (value l)) l) _ good));
    }
