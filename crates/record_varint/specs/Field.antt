-- What reading a field at a position of a record finds, and what comparing one finds: SPECIFICATION 6 and 9.
use Rattle.std.specs.Prelude.{◌≡◌, Bool, true, false, not, ◌&&◌, List, [], ◌∷◌, ℕ, suc, ◌+◌, ◌-◌, ◌*◌, ltb, leb, eqb, length, drop}
use Rattle.std.specs.Prelude.{Option, None, Some, Result, Ok, Err}
use Rattle.meaning.specs.Sets.{pick}
use Rattle.meaning.specs.Record.{varint}
use Rattle.refusals.specs.Numbers as numbers
use Rattle.refusals.specs.declared.Refusal.{Refusal}
use Rattle.record_varint.specs.declared.Fault.{Fault}
use Rattle.record_varint.specs.declared.Fault.TheVariants.{Unended, Malformed, OutOfRange}

-- ---- bytes as a field

-- how many bytes with the top bit set stand at the front
unfoldable pub continued : List ℕ → ℕ
continued [] = 0
continued (b ∷ l) = elim (ltb b 128) [ true ↦ 0 | false ↦ suc (continued l) ]

-- the number that the groups up to the first byte with its top bit clear spell, lowest group first
unfoldable pub value : List ℕ → ℕ
value [] = 0
value (b ∷ l) = elim (ltb b 128) [ true ↦ b | false ↦ (b - 128) + 128 * value l ]

-- do the bytes begin with the first list
unfoldable pub starts : List ℕ → List ℕ → Bool
starts [] l = true
starts (x ∷ xs) [] = false
starts (x ∷ xs) (b ∷ l) = eqb b x && starts xs l

-- a field is below this
abbrev pub field_bound : ℕ
field_bound = 4294967296

-- ---- reading

-- a number with the position after it, or a refusal with its number
pub data Reading : Type 0 where
  accepted : (value next : ℕ) → Reading
  refused : (number : ℕ) → Reading

-- the number of the refusal; 0 is no refusal
abbrev pub refusal_of : Reading → ℕ
refusal_of (accepted v next) = 0
refusal_of (refused number) = number

-- what reading finds in the bytes l, the first of which is at the position `at`. 20: they end before one with its top bit clear, however many
-- came; 21: they do not begin with the shortest form of the number that they spell, or it is too large; 22: it is not one of lo to hi
unfoldable pub field_of : List ℕ → ℕ → ℕ → ℕ → Reading
field_of l at lo hi =
    let v = value l in
    pick (leb (length l) (continued l)) (refused 20)
    (pick (not (starts (varint v) l && ltb v field_bound)) (refused 21)
    (pick (not (leb lo v && leb v hi)) (refused 22)
    (accepted v (at + length (varint v)))))

-- what reading at a position of the bytes s finds
abbrev pub field_at : List ℕ → ℕ → ℕ → ℕ → Reading
field_at s at lo hi = field_of (drop at s) at lo hi

-- the specification's number of a fault
abbrev pub number_of : Fault → ℕ
number_of Unended = 20
number_of Malformed = 21
number_of OutOfRange = 22

-- the refusal of an operation where a field has the fault: its number is that of the fault
abbrev pub Refuses : Fault → Refusal → Type 0
Refuses fault refusal = numbers.number_of refusal ≡ number_of fault

-- what an answer of reading says
abbrev pub reading : Result (ℕ × ℕ) Fault → Reading
reading (Ok (v, next)) = accepted v next
reading (Err fault) = refused (number_of fault)

-- ---- comparing

-- what comparing the bytes s from `at` on with the number v finds: they begin with its form, or 24
abbrev pub same_at : List ℕ → ℕ → ℕ → Reading
same_at s at v = pick (starts (varint v) (drop at s)) (accepted v (at + length (varint v))) (refused 24)

-- what an answer of comparing with the number v says
abbrev pub comparison : ℕ → Option ℕ → Reading
comparison v (Some next) = accepted v next
comparison v None = refused 24
