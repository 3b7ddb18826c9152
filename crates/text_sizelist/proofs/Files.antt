-- The text of a file: refused, or that of the plate that was read.
use mathlib.Core.Path.{◌≡◌, sym, ap, ◌∙◌}
use mathlib.Core.List.{List}
use Prim.Native.Nat.{ℕ, ◌*◌, ◌≤◌, ◌<◌}
use native.Mathlib.Omega.{arith}
use borrow.Author.Tests.{eq-eqb, le-ltb, lt-ltb, ne_eqb}
use lib.ListN.{drop, length, length-append, take}
use lib.Seq.{take_at}
use Rattle.meaning.specs.Answers.{out_after}
use Rattle.std.specs.Prelude.{Ok, Err}
use Rattle.refusals.specs.declared.Refusal.{Refusal}
use Rattle.refusals.specs.Numbers.{number_of}
use Rattle.refusals.proofs.Numbers.{number_nonzero}
use Rattle.pgm.specs.File.{plate_of, read_answer, read_pgm}
use Rattle.pgm.specs.declared.PgmHead.{PgmHead}
use Rattle.pgm.specs.declared.PgmRead.{PgmRead}
use Rattle.pgm.proofs.Readable.{Readable}
use Rattle.pgm.proofs.Reading.{file_readable}
use Rattle.text_lines.specs.Lines.{PutText}
use Rattle.text_lines.proofs.Pieces.{sets-front}
use Rattle.text_plate.specs.Text.{most_pixels, plate_text, refused_text}
use Rattle.text_sizelist.specs.Text.{answer_text, input_bytes, size_text}
use Rattle.text_sizelist.specs.Pieces.{Made}

-- a text that was put from its first place on
pub made : {text text' answer : List ℕ} {r : ℕ} → PutText text 0 answer text' r → Made answer text text' r
made {text} {answer = answer} p = record {
  long = omega (arith, p.after);
  output = p.stored ∙ sets-front answer text (omega (arith, p.after, p.room));
}

-- ---- the three ways

pub text_long : (file : List ℕ) → input_bytes < length file → refused_text 6 ≡ size_text file
unfolding size_text
text_long file l = rw (lt-ltb input_bytes (length file) l)

text_read : (file : List ℕ) → length file ≤ input_bytes → answer_text (read_pgm file most_pixels) (plate_of file) ≡ size_text file
unfolding size_text
text_read file l = rw (le-ltb input_bytes (length file) l)

pub text_refused : (file : List ℕ) (r : Refusal) → length file ≤ input_bytes → read_answer (Err r) ≡ read_pgm file most_pixels
    → refused_text (number_of r) ≡ size_text file
text_refused file r l e =
    let a : answer_text (read_answer (Err r)) (plate_of file) ≡ refused_text (number_of r) = rw (ne_eqb (number_of r) 0 (number_nonzero r)) in
    sym a ∙ ap (λ (s : PgmRead). answer_text s (plate_of file)) e ∙ text_read file l

pub text_plate : (file : List ℕ) (h : PgmHead) → length file ≤ input_bytes → read_answer (Ok h) ≡ read_pgm file most_pixels
    → plate_text h.width h.height h.greatest (plate_of file) ≡ size_text file
text_plate file h l e = ap (λ (s : PgmRead). answer_text s (plate_of file)) e ∙ text_read file l

-- ---- a plate that was read

-- what stands in front of the output's excess is the plate
module _ (file out : List ℕ) {out' : List ℕ} {h : PgmHead} (e : read_answer (Ok h) ≡ read_pgm file (length out))
    (o : out' ≡ out_after (read_pgm file (length out)).refusal (plate_of file) out)
  where
    taken : (read_pgm file (length out)).refusal ≡ 0
    taken = sym (ap (λ (s : PgmRead). s.refusal) e)

    pub read_is : Readable h.width h.height h.greatest (plate_of file) (length out)
    read_is = rw (sym e) at (file_readable file (length out) taken)

    pub plate_is : take (h.width * h.height) out' ≡ plate_of file
    plate_is =
        rw (o, eq-eqb (read_pgm file (length out)).refusal 0 taken)
        (take_at (plate_of file) (drop (length (plate_of file)) out) (h.width * h.height) read_is.long)

-- ---- for the program

pub made_fits : {answer text text' : List ℕ} {r : ℕ} → Made answer text text' r → r ≤ length text'
made_fits {answer} {text} m = omega (arith, m.long, ap length m.output, length-append answer (drop (length answer) text))
