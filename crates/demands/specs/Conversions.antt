-- Converting a record to the new form or to the old one, as a claim over all sound records and buffers. It speaks of the definitions that the contracts of
-- `to_new_form` and `to_old_form` equate with what they answer and leave in their buffers. new: the form that is asked for; was: the form of the record;
-- k: connectivity, w: width, h: height, M: greatest grey, f: the plate.
use Rattle.std.specs.Prelude.{◌≡◌, Bool, false, not, List, ℕ, ◌*◌, ◌≤◌, length, take}
use Rattle.meaning.specs.Plate.{byte_greatest}
use Rattle.meaning.specs.Record.{record_in}
use Rattle.record_parse.specs.Parse.{plate, read_of}
use Rattle.record.specs.declared.Written.{Written}
use Rattle.record_convert.specs.Converting.{convert_out, convert_refusal, converted_of}

-- what converting the bytes s answers
abbrev pub convert_answer : (new : Bool) (s out work : List ℕ) → Written
convert_answer new s out work = converted_of (convert_refusal new (read_of s (length work)) (length out)) new (read_of s (length work))

-- the record that it returns, without the excess: as many bytes as it answers, from the front of the output
abbrev pub converted : (new : Bool) (s out work : List ℕ) → List ℕ
converted new s out work = take (convert_answer new s out work).length (convert_out new (read_of s (length work)) out)

-- the bytes s are a sound record in the form `was`: with such a work space reading them up to 24 finds the plate f
abbrev pub Sound : (s work : List ℕ) (was : Bool) (k w h M : ℕ) (f : List ℕ) → Type 0
Sound s work was k w h M f = read_of s (length work) ≡ plate was k w h M f

pub record ConversionClaim : Type 0 where
  -- given space, converting a sound record succeeds: to the new form each, to the old form where M is 255. It returns the plate's record in that form
  pub succeeds : (new was : Bool) (s out work : List ℕ) (k w h M : ℕ) (f : List ℕ) → Sound s work was k w h M f → (new ≡ false → M ≡ byte_greatest)
      → length (record_in new k w h M f) ≤ length out
      → (convert_answer new s out work ≡ record { refusal = 0; length = length (record_in new k w h M f) })
      × (converted new s out work ≡ record_in new k w h M f)
  -- and only there: to the old form of any other M it is refused by 30, whatever the space
  pub refused : (was : Bool) (s out work : List ℕ) (k w h M : ℕ) (f : List ℕ) → Sound s work was k w h M f → (M ≡ byte_greatest → ⊥)
      → convert_answer false s out work ≡ record { refusal = 30; length = 0 }
  -- a record that is in the form already comes back unchanged
  pub unchanged : (new : Bool) (s out work : List ℕ) (k w h M : ℕ) (f : List ℕ) → Sound s work new k w h M f → length s ≤ length out
      → converted new s out work ≡ s
  -- there and back gives the bytes, from either form
  pub restored : (was : Bool) (s out work out' work' : List ℕ) (k w h M : ℕ) (f : List ℕ) → Sound s work was k w h M f → M ≡ byte_greatest
      → length (record_in (not was) k w h M f) ≤ length out → length s ≤ length out' → 8 * (w * h) ≤ length work'
      → converted was (converted (not was) s out work) out' work' ≡ s
