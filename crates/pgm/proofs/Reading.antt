-- Reading a file: a plate after a sound header, refused or read, and a file whose header is faulty.
use mathlib.Core.Path.{◌≡◌, refl, sym, ◌∙◌}
use mathlib.Core.Bool.{Bool, true, false}
use mathlib.Core.List.{List}
use Prim.Native.Nat.{ℕ, ◌≤◌, ◌<◌}
use native.Mathlib.Omega.{arith}
use borrow.Author.Tests.{eqb-true}
use lib.Dec.{eqb}
use lib.ListN.{length}
use Rattle.std.specs.Result.{IsErrAnd}
use Rattle.std.proofs.Common.{Result}
use Rattle.std.proofs.lemmas.Result.{err_from_is_err_and}
use Rattle.meaning.specs.Answers.{out_after}
use Rattle.refusals.specs.Numbers.{number_of}
use Rattle.refusals.specs.declared.Refusal.{Refusal}
use Rattle.pgm_header.specs.Grammar.{ParsedHeader, sound, faulty, header}
use Rattle.pgm_header.specs.Steps.{fault_number}
use Rattle.pgm_header.specs.declared.HeaderFault.{HeaderFault}
use Rattle.pgm_header.specs.declared.HeaderFault.TheVariants.{Letters, GapOrNumber}
use Rattle.pgm_header.proofs.Faults.{fault_positive}
use Rattle.pgm.specs.File.{greys_of, raster_refusal, read_answer, sizes_read, ReadPlate, answer_of, read_pgm, plate_after, plate_of}
use Rattle.pgm.specs.declared.PgmHead.{PgmHead}
use Rattle.pgm.specs.declared.PgmRead.{PgmRead}
use Rattle.pgm.proofs.Readable.{Readable, raster_none}

pub plate_fits : (w h M : ℕ) (raster out : List ℕ) → 0 ≡ raster_refusal w h M raster (length out) → length (greys_of M raster) ≤ length out
plate_fits w h M raster out e = let r = raster_none w h M raster (length out) (sym e) in omega (arith, r.long, r.fits)

-- ---- a file whose header was read

-- what is promised of reading a file: the answer, and the output afterwards
abbrev Promised : List ℕ → List ℕ → PgmRead → List ℕ → Type 0
Promised file out r after =
    (r ≡ read_pgm file (length out)) × (after ≡ out_after (read_pgm file (length out)).refusal (plate_of file) out)

fault_refuses : (f : HeaderFault) → eqb (fault_number f) 0 ≡ false
fault_refuses Letters = refl
fault_refuses GapOrNumber = refl

pub file_refused : (file out : List ℕ) (f : HeaderFault) (r : Result PgmHead Refusal) → IsErrAnd r (λ y. number_of y ≡ fault_number f)
    → faulty (fault_number f) ≡ header file → Promised file out (read_answer r) out
unfolding read_pgm plate_of
file_refused file out f r k p =
    let y = err_from_is_err_and r k in
    (rw (y.1, y.2, ← p), rw (← p, fault_refuses f))

pub refusal_is : (n w h M : ℕ) → (sizes_read n w h M).refusal ≡ n
refusal_is n w h M = by_test (eqb n 0) refl
  where
    by_test : (t : Bool) → eqb n 0 ≡ t → (sizes_read n w h M).refusal ≡ n
    by_test true e = rw e (sym (eqb-true n 0 e))
    by_test false e = rw e

pub file_read : (file out : List ℕ) {w h M : ℕ} {raster : List ℕ} {r : PgmRead} {after : List ℕ} → sound w h M raster ≡ header file
    → ReadPlate w h M raster out r after → Promised file out r after
unfolding read_pgm plate_of
file_read file out {w} {h} {M} {raster} p k = (
  k.answer ∙ rw (← p),
  k.output ∙ rw (← p, refusal_is (raster_refusal w h M raster (length out)) w h M),
)

-- ---- a file that is not refused

file_none : (p : ParsedHeader) (room : ℕ) → ((n : ℕ) → p ≡ faulty n → 0 < n) → (answer_of p room).refusal ≡ 0
    → let r = answer_of p room in Readable r.width r.height r.greatest (plate_after p) room
file_none (sound w h M raster) room k z =
    let n = raster_refusal w h M raster room in
    let e : n ≡ 0 = sym (refusal_is n w h M) ∙ z in
    rw e (raster_none w h M raster room e)
file_none (faulty n) room k z = absurd (omega (arith, k n refl, z))

pub file_readable : (file : List ℕ) (room : ℕ) → (read_pgm file room).refusal ≡ 0
    → let r = read_pgm file room in Readable r.width r.height r.greatest (plate_of file) room
unfolding read_pgm plate_of
file_readable file room z = file_none (header file) room (fault_positive file) z
