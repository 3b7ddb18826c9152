-- Demand 2's words for records: each plate, greatest grey and connectivity has one record; given its space, the reader accepts exactly the one record of
-- each form and gives the plate back. It speaks of the definitions that the contracts of `write_record` and `read_record` equate with what they answer
-- and leave in their buffers. new: the form of a record; k: connectivity, w: width, h: height, M: greatest grey, f: the plate.
use Rattle.std.specs.Prelude.{◌≡◌, Bool, false, List, ℕ, ◌*◌, ◌≤◌, length}
use Rattle.meaning.specs.Answers.{over}
use Rattle.meaning.specs.Plate.{Plate, byte_greatest}
use Rattle.meaning.specs.Record.{record_in}
use Rattle.record_parse.specs.Parse.{plate, read_of}
use Rattle.record.specs.Reading.{head_of, read_out, read_refusal}
use Rattle.record.specs.declared.Head.{Head}

-- what reading the bytes s answers, and the output that it leaves
abbrev pub read_head : (s out work : List ℕ) → Head
read_head s out work = head_of (read_refusal (read_of s (length work)) (length out)) (read_of s (length work))

abbrev pub read_plate : (s out work : List ℕ) → List ℕ
read_plate s out work = read_out (read_of s (length work)) out

-- the accepted plate f has a record in the form: each has one in the new form, and only one whose greatest grey is 255 in the old form
pub record HasRecord (new : Bool) (k w h M : ℕ) (f : List ℕ) : Type 0 where
  pub accepted : Plate k w h M f
  pub form : new ≡ false → M ≡ byte_greatest

-- the bytes s are that record, and the reader has its space
pub record RecordRead (s out work : List ℕ) (new : Bool) (k w h M : ℕ) (f : List ℕ) : Type 0 where
  pub has : HasRecord new k w h M f
  pub bytes : s ≡ record_in new k w h M f
  pub places : w * h ≤ length out
  pub space : 8 * (w * h) ≤ length work

-- over all bytes and buffers
pub record OneRecord : Type 0 where
  -- the record of a plate, given its space, is not refused, and the plate comes back
  pub back : (s out work : List ℕ) (new : Bool) (k w h M : ℕ) (f : List ℕ) → RecordRead s out work new k w h M f
      → (read_head s out work ≡ record { refusal = 0; width = w; height = h; greatest = M; connectivity = k }) × (read_plate s out work ≡ over f out)
  -- bytes that are not refused are the record of a plate, and its space was there
  pub only : (s out work : List ℕ) → (read_head s out work).refusal ≡ 0
      → (new : Bool) × ((k : ℕ) × ((w : ℕ) × ((h : ℕ) × ((M : ℕ) × ((f : List ℕ) × RecordRead s out work new k w h M f)))))
  -- two plates with their greatest greys and connectivities that have one record are one, and it is in one form
  pub one : (new new' : Bool) (k k' w w' h h' M M' : ℕ) (f f' : List ℕ) → HasRecord new k w h M f → HasRecord new' k' w' h' M' f'
      → record_in new k w h M f ≡ record_in new' k' w' h' M' f' → plate new k w h M f ≡ plate new' k' w' h' M' f'
