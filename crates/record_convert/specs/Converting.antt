-- Converting a record to the new form, or to the old one (`new`). It starts from what reading finds up to 24 (`read_of` of the crate `record_parse`).
use Rattle.std.specs.Prelude.{◌≡◌, Bool, not, ◌||◌, List, ℕ, eqb, length}
use Rattle.meaning.specs.Sets.{pick}
use Rattle.meaning.specs.Plate.{byte_greatest}
use Rattle.meaning.specs.Record.{record_in}
use Rattle.meaning.specs.Answers.{out_after, out_refusal, refuse}
use Rattle.record_parse.specs.Parse.{Parsed, early, late, plate}
use Rattle.record.specs.Reading.{parsed_out, parsed_refusal, parsed_work}
use Rattle.record.specs.declared.Written.{Written}

-- a plate with this greatest grey has a record in the form: in the new one each, in the old one where it is 255
unfoldable pub form_fits : Bool → ℕ → Bool
form_fits new M = new || eqb M byte_greatest

-- after 24: 30 where it has none; 5 output shorter than the converted record
abbrev pub convert_refusal : Bool → Parsed → ℕ → ℕ
convert_refusal new p out =
    parsed_refusal p λ k w h M f. refuse (not (form_fits new M)) 30 (out_refusal (length (record_in new k w h M f)) out 0)

-- the length of the converted record; 0 on a refusal
abbrev pub converted_of : ℕ → Bool → Parsed → Written
converted_of refusal new (early number) = record { refusal = refusal; length = 0 }
converted_of refusal new (late number pixels) = record { refusal = refusal; length = 0 }
converted_of refusal new (plate was k w h M f) = record { refusal = refusal; length = pick (eqb refusal 0) (length (record_in new k w h M f)) 0 }

-- the output: the record of the plate in the form that is asked for
abbrev pub convert_out : Bool → Parsed → List ℕ → List ℕ
convert_out new p out = parsed_out (convert_refusal new p (length out)) p (λ k w h M f. record_in new k w h M f) out

-- the contract: the answer, the output and the work space. p: what reading finds up to 24
pub record Converted (new : Bool) (p : Parsed) (out out' work work' : List ℕ) (r : Written) : Type 0 where
  pub answer : r ≡ converted_of (convert_refusal new p (length out)) new p
  pub output : out' ≡ convert_out new p out
  pub space : work' ≡ parsed_work p work

-- bytes are written where there is room for them: 5, or their length
pub record PassedOn (bytes out out' : List ℕ) (r : Written) : Type 0 where
  pub answer : r
      ≡ record { refusal = out_refusal (length bytes) (length out) 0; length = pick (eqb (out_refusal (length bytes) (length out) 0) 0) (length bytes) 0 }
  pub output : out' ≡ out_after (out_refusal (length bytes) (length out) 0) bytes out
