-- A plate file alone: it is read as a plate exactly where the plate stands at its front and nothing behind it.
use mathlib.Core.Path.{◌≡◌, refl, sym, ap, ◌∙◌}
use mathlib.Core.List.{List, [], ◌++◌, append-nil}
use Prim.Native.Nat.{ℕ, ◌≤◌}
use native.Mathlib.Omega.{arith}
use Rattle.pgm_header.specs.Grammar.{ParsedHeader, sound, faulty, header}
use Rattle.pgm_header.proofs.Faults.{fault_positive}
use Rattle.pgm_header.proofs.Prefix.{header_headed}
use Rattle.pgm.specs.File.{answer_of, greys_of, plate_after, plate_of, raster_refusal, read_pgm}
use Rattle.pgm.specs.declared.PgmRead.{PgmRead}
use Rattle.pgm.proofs.Readable.{Readable, raster_long, raster_none}
use Rattle.pgm_roundtrip.proofs.PlateFiles.{answer_is, parsed_reads}
use Rattle.pgm_roll.specs.Roll.{Image, pixels}
use Rattle.pgm_roll.specs.Rolls.{Accepted, Reads}
use Rattle.pgm_roll.proofs.Plates.{Found, found_parsed}

-- ---- a plate that is found

module _ {p : Image} where
  -- it is accepted
  pub found_accepted : {s after : List ℕ} → Found s p after → Accepted p
  found_accepted k c kind =
      let r = k.readable in
      record { kind = kind; sizes = r.sizes; range = r.range; long = r.long; greys = r.greys }

  -- and read, where nothing stands behind it
  pub found_reads : {file : List ℕ} → Found file p [] → Reads file p
  found_reads {file} k =
      let parsed : header file ≡ sound p.width p.height p.greatest k.raster = rw (append-nil k.raster) at (found_parsed k) in
      let r = k.readable in
      let readable : (room : ℕ) → pixels p ≤ room → Readable p.width p.height p.greatest p.greys room =
      λ room fits. record { sizes = r.sizes; range = r.range; long = r.long; greys = r.greys; fits = fits } in
      record {
        alone = λ room fits.
            parsed_reads p.width p.height p.greatest p.greys file k.raster parsed k.long k.greys (readable room fits);
      }

-- ---- a file that is read

module _ (file : List ℕ) (p : Image) where
  sound_found : {raster : List ℕ} → header file ≡ sound p.width p.height p.greatest raster
      → raster_refusal p.width p.height p.greatest raster (pixels p) ≡ 0 → greys_of p.greatest raster ≡ p.greys → Found file p []
  sound_found {raster} k z same =
      let headed = header_headed file k in
      record {
        head = headed.head;
        raster = raster;
        split = headed.split ∙ ap (λ (l : List ℕ). headed.head ++ l) (sym (append-nil raster));
        head_long = headed.long;
        again = headed.again;
        long = raster_long p.width p.height p.greatest raster (pixels p) z;
        greys = same;
        readable = rw same at (raster_none p.width p.height p.greatest raster (pixels p) z);
      }

  by-header : (g : ParsedHeader) → header file ≡ g
      → answer_of g (pixels p) ≡ record { refusal = 0; width = p.width; height = p.height; greatest = p.greatest }
      → plate_after g ≡ p.greys → Found file p []
  by-header (sound w h M raster) k e same =
      let (z, sizes) = answer_is (raster_refusal w h M raster (pixels p)) w h M p.width p.height p.greatest e in
      let (wide, others) = sizes in
      let (high, top) = others in
      sound_found (rw (wide, high, top) at k) (rw (wide, high, top) at z) (rw top at same)
  by-header (faulty n) k e same = absurd (omega (arith, fault_positive file n k, ap (λ (r : PgmRead). r.refusal) e))

  -- the plate stands at its front
  pub reads_found : Reads file p → Found file p []
  unfolding read_pgm plate_of
  reads_found r =
      let a = r.alone (pixels p) (omega arith) in
      by-header (header file) refl a.answer a.plate
