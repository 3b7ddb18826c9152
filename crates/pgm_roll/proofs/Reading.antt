-- Reading the plate of a number after a pass over the roll: refused, beyond the count, too large for the output, or written.
use mathlib.Core.Path.{◌≡◌, refl, sym, ap, ◌∙◌}
use mathlib.Core.List.{List}
use Prim.Native.Nat.{ℕ, ◌*◌, ◌≤◌, ◌<◌}
use native.Mathlib.Omega.{arith}
use borrow.Author.Tests.{le-leb, lt-leb, ne_eqb}
use lib.ListN.{length}
use Rattle.std.specs.Result.{IsErrAnd}
use Rattle.std.proofs.Common.{Some, None, Result, Ok, Err}
use Rattle.std.proofs.lemmas.Result.{err_from_is_err_and}
use Rattle.refusals.specs.Numbers.{number_of}
use Rattle.refusals.specs.declared.Refusal.{Refusal}
use Rattle.refusals.specs.declared.Refusal.TheVariants.{PlateNumber}
use Rattle.refusals.proofs.Numbers.{number_nonzero}
use Rattle.plate_refusals.proofs.Refusals.{out_none}
use Rattle.meaning.specs.Answers.{out_after, out_refusal, over}
use Rattle.pgm.specs.File.{read_answer, refused_read}
use Rattle.pgm.specs.declared.PgmHead.{PgmHead}
use Rattle.pgm.specs.declared.PgmRead.{PgmRead}
use Rattle.pgm.proofs.Reading.{refusal_is}
use Rattle.pgm_roll.specs.Roll.{Image, Roll, count_of, number_refusal, numbered, pixels, place_answer, plate_read, plates, plates_of, refused, roll}
use Rattle.pgm_roll.specs.Scan.{Scanned, Stands, greys_at}
use Rattle.pgm_roll.specs.declared.FoundPlate.{FoundPlate}
use Rattle.pgm_roll.specs.declared.RollCount.{RollCount}
use Rattle.pgm_roll.specs.declared.RollScan.{RollScan}

-- what is promised of the answer a and the output afterwards
abbrev Promised : Roll → ℕ → List ℕ → PgmRead → List ℕ → Type 0
Promised r number out a after =
    (a ≡ plate_read r number (length out)) × (after ≡ out_after (plate_read r number (length out)).refusal (numbered r number).greys out)

module _ (r : Roll) (number : ℕ) (out : List ℕ) where
  refuses : (e : Refusal) → number_refusal r number (length out) ≡ number_of e → Promised r number out (refused_read (number_of e)) out
  refuses e is =
      let p = numbered r number in
      let ne = ne_eqb (number_of e) 0 (number_nonzero e) in
      (rw (is, ne), rw (is, refusal_is (number_of e) p.width p.height p.greatest, ne))

  reads : {after : List ℕ} → number_refusal r number (length out) ≡ 0 → after ≡ over (numbered r number).greys out
      → let p = numbered r number in
      Promised r number out (record { refusal = 0; width = p.width; height = p.height; greatest = p.greatest }) after
  reads e j = (rw e, j ∙ rw e)

module _ (file : List ℕ) (number : ℕ) (out : List ℕ) where
  -- what is left by a refusal that is handed on
  pub handed_on : (a : Result PgmHead Refusal) (e : Refusal) → IsErrAnd a (λ y. y ≡ e) → Promised (roll file) number out (read_answer (Err e)) out
      → Promised (roll file) number out (read_answer a) out
  handed_on a e l p = let y = err_from_is_err_and a l in rw (y.1, y.2) p

  -- ---- the roll is refused

  module _ (e : Refusal) (k : Scanned file number (Err e)) where
    by-roll : (g : Roll) → roll file ≡ g → number_refusal (roll file) number (length out) ≡ number_of e
    by-roll (plates ps) f = absurd (number_nonzero e (ap (λ (c : RollCount). c.refusal) k.counted ∙ rw f))
    by-roll (refused n) f = rw f (sym (ap (λ (c : RollCount). c.refusal) k.counted ∙ rw f))

    pub scan_refused : Promised (roll file) number out (read_answer (Err e)) out
    scan_refused = refuses (roll file) number out e (by-roll (roll file) refl)

  -- ---- it is sound

  module _ {s : RollScan} (k : Scanned file number (Ok s)) where
    abbrev all : List Image
    all = plates_of (roll file)

    count_is : s.count ≡ length all
    count_is = ap (λ (c : RollCount). c.count) (k.counted ∙ ap count_of k.sound)

    number_is : number_refusal (roll file) number (length out) ≡ number_refusal (plates all) number (length out)
    number_is = ap (λ (g : Roll). number_refusal g number (length out)) k.sound

    pub scan_beyond : s.chosen ≡ None → Promised (roll file) number out (read_answer (Err PlateNumber)) out
    scan_beyond e =
        let none : s.count ≤ number = rw e at k.found in
        refuses (roll file) number out PlateNumber (number_is ∙ rw (le-leb (length all) number (omega (arith, count_is))))

    module _ {c : FoundPlate} (e : s.chosen ≡ Some c) where
      one : (number < s.count) × Stands file (place_answer (Ok c)) (numbered (roll file) number)
      one = rw e at k.found

      pub there : Stands file (place_answer (Ok c)) (numbered (roll file) number)
      there = one.1

      last : number_refusal (roll file) number (length out) ≡ out_refusal (c.head.width * c.head.height) (length out) 0
      last = number_is ∙ rw (lt-leb (length all) number (omega (arith, one.0, count_is)), there.width, there.height)

      pub scan_short : (r : Refusal) → number_of r ≡ out_refusal (c.head.width * c.head.height) (length out) 0
          → Promised (roll file) number out (read_answer (Err r)) out
      scan_short r is = refuses (roll file) number out r (last ∙ sym is)

      module _ (is : 0 ≡ out_refusal (c.head.width * c.head.height) (length out) 0) where
        pub scan_fits : length (greys_at file (place_answer (Ok c))) ≤ length out
        scan_fits =
            let room = (out_none (c.head.width * c.head.height) (length out) 0 (sym is)).0 in
            let size : c.head.width * c.head.height ≡ pixels (numbered (roll file) number) = rw (there.width, there.height) in
            omega (arith, ap length there.greys, there.long, room, size)

        pub scan_read : {after : List ℕ} → after ≡ over (greys_at file (place_answer (Ok c))) out
            → Promised (roll file) number out (read_answer (Ok c.head)) after
        scan_read j =
            rw (there.width, there.height, there.greatest)
            (reads (roll file) number out (last ∙ sym is) (j ∙ ap (λ (f : List ℕ). over f out) there.greys))
