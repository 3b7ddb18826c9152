-- The claim on plate files: what is written, and what is read.
use mathlib.Core.Path.{◌≡◌, refl, sym, ap, ◌∙◌}
use mathlib.Core.Bool.{true, and-eq-true_iff, ◌&&◌}
use mathlib.Core.List.{List, ◌∷◌, ◌++◌, append_assoc, append-nil}
use Prim.Native.Nat.{ℕ, ◌*◌, ◌≤◌}
use native.Mathlib.Omega.{arith}
use borrow.Author.Tests.{le-ltb}
use lib.ListN.{drop, length, length-append, take}
use lib.Seq.{take_at}
use Rattle.meaning.specs.Plate.{Plate}
use Rattle.meaning.specs.Answers.{out_after, out_refusal}
use Rattle.theory_connectivity.proofs.Sizes.{greatest_range, grid_sizes}
use Rattle.text_lines.specs.Lines.{decimal, further, line}
use Rattle.text_lines.proofs.Decimals.{decimal_few}
use Rattle.pgm_header.specs.Grammar.{digits_value, header, sound}
use Rattle.pgm.specs.File.{greys_of, pixel_bytes, plate_of, raster_bytes, raster_refusal, read_pgm, sizes_read}
use Rattle.pgm.specs.Text.{bytes}
use Rattle.pgm.specs.declared.PgmRead.{PgmRead}
use Rattle.pgm.proofs.Raster.{bytes_most}
use Rattle.pgm.proofs.Readable.{Readable, raster_long, raster_read}
use Rattle.pgm.proofs.Reading.{refusal_is}
use Rattle.pgm_write.specs.Writing.{header_lines, pgm_of, raster_of, write_pgm}
use Rattle.pgm_write.proofs.Outcomes.{write_done}
use Rattle.pgm_write.proofs.Rasters.{raster_length}
use Rattle.pgm_roundtrip.specs.PlateFiles.{Bytes, PlateFileClaim, ReadsAs, WrittenForm, numeral, pgm_bytes}
use Rattle.pgm_roundtrip.proofs.Headers.{file_of, header_read, header_there}
use Rattle.pgm_roundtrip.proofs.Numerals.{decimal-numeral, numeral-decimal, spelled}
use Rattle.pgm_roundtrip.proofs.Rasters.{bytes_after, bytes_append, bytes_cons, bytes_rest, digits-bytes, raster_back, raster_made, raster_there}

-- ---- the file of a plate, laid out

pub laid_out : (w h M : ℕ) (f : List ℕ) → pgm_of w h M f ≡ file_of (decimal w) (decimal h) (decimal M) (raster_of M f)
unfolding pgm_of header_lines bytes line further
laid_out w h M f = simp (append_assoc, append-nil)

-- the numbers of a plate have at most five digits
module _ {k w h M : ℕ} {f : List ℕ} (plate : Plate k w h M f) where
  few_width : length (decimal w) ≤ 5
  few_width = decimal_few 4 w (omega (arith, (grid_sizes w h plate.sizes).wide.most))

  few_height : length (decimal h) ≤ 5
  few_height = decimal_few 4 h (omega (arith, (grid_sizes w h plate.sizes).high.most))

  few_greatest : length (decimal M) ≤ 5
  few_greatest = decimal_few 4 M (omega (arith, (greatest_range M plate.range).most))

-- ---- a file with a sound header

-- it is read as the plate that its raster has
pub parsed_reads : (w h M : ℕ) (f file raster : List ℕ) {room : ℕ} → header file ≡ sound w h M raster → length raster ≡ raster_bytes w h M
    → greys_of M raster ≡ f → Readable w h M f room → ReadsAs w h M f file room
unfolding read_pgm plate_of
parsed_reads w h M f file raster {room} parsed long same readable = record {
  answer = rw (parsed, raster_read w h M raster room long (rw same readable));
  plate = rw parsed same;
}

-- ---- the file of an accepted plate

module _ {k w h M : ℕ} {f : List ℕ} (plate : Plate k w h M f) where
  abbrev raster : List ℕ
  raster = raster_of M f

  raster-size : length raster ≡ pixel_bytes M * (w * h)
  raster-size = raster_length M f ∙ ap (λ (n : ℕ). pixel_bytes M * n) plate.long

  pub file_short : length (pgm_of w h M f) ≤ pgm_bytes (w * h)
  file_short =
      let a = decimal w in
      let b = decimal h in
      let c = decimal M in
      omega (
        arith,
        ap length (laid_out w h M f),
        length-append a (32 ∷ (b ++ 10 ∷ (c ++ 10 ∷ raster))),
        length-append b (10 ∷ (c ++ 10 ∷ raster)),
        length-append c (10 ∷ raster),
        few_width plate,
        few_height plate,
        few_greatest plate,
        raster-size,
        bytes_most M (w * h),
      )

  pub file_written : (out : List ℕ) → length (pgm_of w h M f) ≤ length out
      → let r = write_pgm w h M f (length out) in (r ≡ record { refusal = 0; length = length (pgm_of w h M f) })
      × (take r.length (out_after r.refusal (pgm_of w h M f) out) ≡ pgm_of w h M f)
  file_written out l =
      let fits : 0 ≡ out_refusal (length (pgm_of w h M f)) (length out) 0 = rw (le-ltb (length out) (length (pgm_of w h M f)) l) in
      let answer = sym (write_done w h M f out plate refl fits refl).0 in
      (answer, rw answer (take_at (pgm_of w h M f) (drop (length (pgm_of w h M f)) out) (length (pgm_of w h M f)) refl))

  header_parsed : header (pgm_of w h M f) ≡ sound w h M raster
  header_parsed =
      rw (laid_out w h M f)
      (header_there (decimal w) (decimal h) (decimal M) raster (decimal-numeral w) (decimal-numeral h) (decimal-numeral M)
      (few_width plate) (few_height plate) (few_greatest plate) ∙ rw ((spelled w).value, (spelled h).value, (spelled M).value))

  -- reading gives the plate
  pub file_back : (room : ℕ) → w * h ≤ room → ReadsAs w h M f (pgm_of w h M f) room
  file_back room fits =
      let readable : Readable w h M f room =
      record { sizes = plate.sizes; range = plate.range; long = plate.long; greys = plate.greys; fits = fits } in
      parsed_reads w h M f (pgm_of w h M f) raster header_parsed raster-size (raster_back M f) readable

  pub file_bytes : Bytes (pgm_of w h M f)
  file_bytes =
      let pixels : Bytes raster = raster_made M f (greatest_range M plate.range).most plate.greys in
      let third = bytes_append (decimal M) (digits-bytes (decimal M) (spelled M).digits) (bytes_cons {b = 10} (omega arith) pixels) in
      let second = bytes_append (decimal h) (digits-bytes (decimal h) (spelled h).digits) (bytes_cons {b = 10} (omega arith) third) in
      let first = bytes_append (decimal w) (digits-bytes (decimal w) (spelled w).digits) (bytes_cons {b = 32} (omega arith) second) in
      rw (laid_out w h M f) (bytes_cons (omega arith) (bytes_cons (omega arith) (bytes_cons (omega arith) first)))

  pub file_form : WrittenForm (pgm_of w h M f)
  unfolding bytes
  file_form = record {
    width = decimal w;
    height = decimal h;
    greatest = decimal M;
    raster = raster;
    numerals = rw (decimal-numeral w, decimal-numeral h, decimal-numeral M);
    layout = laid_out w h M f;
  }

-- ---- a file in the written form that is read

-- the answer is that of a plate
pub answer_is : (n w h M w' h' M' : ℕ) → sizes_read n w h M ≡ record { refusal = 0; width = w'; height = h'; greatest = M' }
    → (n ≡ 0) × ((w ≡ w') × ((h ≡ h') × (M ≡ M')))
answer_is n w h M w' h' M' e =
    let z : n ≡ 0 = sym (refusal_is n w h M) ∙ ap (λ (r : PgmRead). r.refusal) e in
    let same : ◌≡◌ {A = PgmRead} (record { refusal = 0; width = w; height = h; greatest = M })
    (record { refusal = 0; width = w'; height = h'; greatest = M' }) = rw z at e in
    (z, (ap (λ (r : PgmRead). r.width) same, (ap (λ (r : PgmRead). r.height) same, ap (λ (r : PgmRead). r.greatest) same)))

-- three numerals and a raster
module _ (a b c raster : List ℕ) (na : numeral a ≡ true) (nb : numeral b ≡ true) (nc : numeral c ≡ true) where
  raster_small : Bytes (file_of a b c raster) → Bytes raster
  raster_small e =
      let first = bytes_after a (bytes_rest (bytes_rest (bytes_rest e))) in
      let second = bytes_after b (bytes_rest first) in
      bytes_rest (bytes_after c (bytes_rest second))

  form_only : (w h M : ℕ) (f : List ℕ) (room : ℕ) → Bytes (file_of a b c raster) → ReadsAs w h M f (file_of a b c raster) room
      → file_of a b c raster ≡ pgm_of w h M f
  unfolding read_pgm plate_of
  form_only w h M f room small r =
      let wide = digits_value 0 a in
      let high = digits_value 0 b in
      let top = digits_value 0 c in
      let parsed = header_read a b c raster na nb nc room (ap (λ (r : PgmRead). r.refusal) r.answer) in
      let answer : sizes_read (raster_refusal wide high top raster room) wide high top ≡ record { refusal = 0; width = w; height = h; greatest = M } =
      rw parsed at r.answer in
      let (none, same) = answer_is (raster_refusal wide high top raster room) wide high top w h M answer in
      let (same_width_lem, rest) = same in
      let (same-height, same-greatest) = rest in
      let plate : greys_of top raster ≡ f = rw parsed at r.plate in
      let there = raster_there top (wide * high) raster (raster_long wide high top raster room none) (raster_small small) in
      let raster_is : raster ≡ raster_of M f =
      sym there ∙ ap (λ (m : ℕ). raster_of m (greys_of top raster)) same-greatest ∙ ap (raster_of M) plate in
      let a-is : a ≡ decimal w = numeral-decimal a na ∙ ap decimal same_width_lem in
      let b-is : b ≡ decimal h = numeral-decimal b nb ∙ ap decimal same-height in
      let c_is : c ≡ decimal M = numeral-decimal c nc ∙ ap decimal same-greatest in
      ap (λ (l : List ℕ). file_of l b c raster) a-is ∙ ap (λ (l : List ℕ). file_of (decimal w) l c raster) b-is
      ∙ ap (λ (l : List ℕ). file_of (decimal w) (decimal h) l raster) c_is ∙ ap (file_of (decimal w) (decimal h) (decimal M)) raster_is
      ∙ sym (laid_out w h M f)

pub file_only : (w h M : ℕ) (f file : List ℕ) (room : ℕ) → Bytes file → ReadsAs w h M f file room → WrittenForm file → file ≡ pgm_of w h M f
unfolding bytes
file_only w h M f file room small r form =
    let a = form.width in
    let b = form.height in
    let c = form.greatest in
    let raster = form.raster in
    let layout : file ≡ file_of a b c raster = form.layout in
    let (na, others) = (and-eq-true_iff (numeral a) (numeral b && numeral c)).0 form.numerals in
    let (nb, nc) = (and-eq-true_iff (numeral b) (numeral c)).0 others in
    layout ∙ form_only a b c raster na nb nc w h M f room (rw layout at small) (rw layout at r)

-- ---- the claim

pub plate_files : PlateFileClaim
plate_files = record {
  written = λ k w h M f out plate l. file_written plate out l;
  short = λ k w h M f plate. file_short plate;
  back = λ k w h M f room plate fits. file_back plate room fits;
  form = λ k w h M f plate. (file_bytes plate, file_form plate);
  only = file_only;
}
