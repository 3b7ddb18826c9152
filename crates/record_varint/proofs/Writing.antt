-- Writing a number's form byte by byte: what is left to be stored, stored on the list as it is, gives the list as it is to be.
use mathlib.Core.Path.{◌≡◌, refl, ap, ◌∙◌}
use mathlib.Core.List.{List, ◌∷◌}
use Prim.Native.Nat.{ℕ, ◌+◌, ◌/◌, ◌%◌, ◌≤◌, ◌<◌}
use native.Mathlib.Omega.{arith}
use native.Mathlib.Numerals.{add-one}
use lib.ListN.{length, set, length-set}
use lib.Seq.{sets}
use Rattle.meaning.specs.Record.{varint}
use Rattle.record_varint.specs.Field.{field_bound}
use Rattle.record_varint.proofs.Groups.{varint_low, varint_high, varint_least}

-- of the form of v, which goes to `at` in the list d, that of x is left, which goes to i in the list o
pub record Left (d : List ℕ) (at v : ℕ) (o : List ℕ) (i x : ℕ) : Type 0 where
  pub small : x < field_bound
  pub ends : i + length (varint x) ≡ at + length (varint v)
  pub room : i + 1 ≤ at + length (varint v)
  pub gives : sets o i (varint x) ≡ sets d at (varint v)
  pub same : length o ≡ length d

pub left-first : (d : List ℕ) (at v : ℕ) → v < field_bound → Left d at v d at v
left-first d at v h = record { small = h; ends = refl; room = omega (arith, varint_least v); gives = refl; same = refl }

module _ (d : List ℕ) (at v : ℕ) (o : List ℕ) (i x : ℕ) (l : Left d at v o i x) where
  pub left-more : 127 < x → Left d at v (set o i (128 + x % 128)) (i + 1) (x / 128)
  left-more h =
      let e : varint x ≡ (128 + x % 128) ∷ varint (x / 128) = varint_high x h l.small in
      let ends : i + 1 + length (varint (x / 128)) ≡ at + length (varint v) = omega (arith, l.ends, ap length e) in
      record {
        small = omega (arith, l.small);
        ends = ends;
        room = omega (arith, varint_least (x / 128));
        gives = rw add-one (rw e at l.gives);
        same = length-set o i (128 + x % 128) ∙ l.same;
      }

  pub left_ends : x ≤ 127 → i + 1 ≡ at + length (varint v)
  left_ends h = rw (varint_low x (omega arith)) at l.ends

  pub left_last : x ≤ 127 → set o i x ≡ sets d at (varint v)
  left_last h = rw (varint_low x (omega arith)) at l.gives
