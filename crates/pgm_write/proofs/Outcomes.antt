-- What writing a plate file leaves: on a refusal, and with the file written.
use mathlib.Core.Path.{◌≡◌, refl, sym, ap, ◌∙◌}
use mathlib.Core.List.{List}
use Prim.Native.Nat.{ℕ, ◌+◌, ◌*◌}
use native.Mathlib.Omega.{arith}
use borrow.Author.Tests.{ne_eqb}
use lib.ListN.{length, length-append}
use lib.Seq.{sets}
use Rattle.std.specs.Result.{IsErrAnd}
use Rattle.std.proofs.Common.{Result}
use Rattle.std.proofs.lemmas.Result.{err_from_is_err_and}
use Rattle.refusals.specs.Numbers.{number_of}
use Rattle.refusals.specs.declared.Refusal.{Refusal}
use Rattle.refusals.proofs.Numbers.{number_nonzero}
use Rattle.meaning.specs.Plate.{Plate, connectivity_fits}
use Rattle.meaning.specs.Answers.{image_refusal, out_after, out_refusal}
use Rattle.plate_refusals.proofs.Refusals.{decided, image_chain, image_none, image_passes, out_none}
use Rattle.text_lines.proofs.Pieces.{sets-front}
use Rattle.pgm.specs.File.{pixel_bytes, raster_bytes}
use Rattle.pgm_write.specs.Writing.{header_lines, pgm_of, raster_of, write_answer, write_pgm, write_refusal}
use Rattle.pgm_write.specs.declared.PgmWritten.{PgmWritten}
use Rattle.pgm_write.proofs.Rasters.{raster_length}

-- ---- the answers

pub file_length : (w h M : ℕ) (f : List ℕ) → length (pgm_of w h M f) ≡ length (header_lines w h M) + pixel_bytes M * length f
unfolding pgm_of
file_length w h M f = length-append (header_lines w h M) (raster_of M f) ∙ ap (λ (n : ℕ). length (header_lines w h M) + n) (raster_length M f)

-- a plate's header and raster are as long as its file
pub file_size : {k w h M : ℕ} {f : List ℕ} → Plate k w h M f → {n b : ℕ} → n ≡ length (header_lines w h M) → b ≡ raster_bytes w h M
    → n + b ≡ length (pgm_of w h M f)
file_size {w = w} {h} {M} {f} plate e e' = rw (e, e', ← plate.long) (sym (file_length w h M f))

module _ (w h M : ℕ) (f out : List ℕ) where
  -- what is promised of writing the file: the answer, and the output afterwards
  abbrev Promised : PgmWritten → List ℕ → Type 0
  Promised r after = (r ≡ write_pgm w h M f (length out)) × (after ≡ out_after (write_pgm w h M f (length out)).refusal (pgm_of w h M f) out)

  refused : (r : Result ℕ Refusal) (e : Refusal) → IsErrAnd r (λ y. y ≡ e) → number_of e ≡ write_refusal w h M f (length out)
      → Promised (write_answer r) out
  unfolding write_pgm
  refused r e l is =
      let y = err_from_is_err_and r l in
      let ne = ne_eqb (number_of e) 0 (number_nonzero e) in
      (rw (y.1, y.2, ← is, ne), rw (← is, ne, ne))

  -- 2, 29, 3 and 28
  pub write_first : (r : Result ℕ Refusal) (e : Refusal) → IsErrAnd r (λ y. y ≡ e) → number_of e ≡ image_refusal w h M f 0 → Promised (write_answer r) out
  unfolding write_refusal
  write_first r e l is =
      refused r e l (decided (image_chain w h M f) is (number_nonzero e) (out_refusal (length (pgm_of w h M f)) (length out) 0))

  -- where they are not met f is an accepted plate, with any connectivity
  pub write_taken : 0 ≡ image_refusal w h M f 0 → Plate 4 w h M f
  unfolding connectivity_fits
  write_taken e = (image_none w h M f refl 0 (sym e)).0

  module _ {k : ℕ} (plate : Plate k w h M f) {n : ℕ} (long : n ≡ length (pgm_of w h M f)) where
    last : out_refusal n (length out) 0 ≡ write_refusal w h M f (length out)
    unfolding write_refusal
    last = rw long (sym (image_passes plate (out_refusal (length (pgm_of w h M f)) (length out) 0)))

    -- 5
    pub write_short : (r : Result ℕ Refusal) (e : Refusal) → IsErrAnd r (λ y. y ≡ e) → number_of e ≡ out_refusal n (length out) 0
        → Promised (write_answer r) out
    write_short r e l is = refused r e l (is ∙ last)

    -- the file is written
    pub write_done : {after : List ℕ} → 0 ≡ out_refusal n (length out) 0 → after ≡ sets out 0 (pgm_of w h M f)
        → Promised (record { refusal = 0; length = n }) after
    unfolding write_pgm
    write_done e d =
        let none : write_refusal w h M f (length out) ≡ 0 = sym (e ∙ last) in
        (rw (none, long), rw none (d ∙ sets-front (pgm_of w h M f) out (omega (arith, long, (out_none n (length out) 0 (sym e)).0))))
