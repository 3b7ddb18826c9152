-- The plate that begins at a place of a file: what `plate_at` answers of it, and where the plate then stands.
use mathlib.Core.Path.{◌≡◌, refl, sym, ap, ◌∙◌}
use mathlib.Core.Bool.{Bool, true, false}
use mathlib.Core.List.{List, ◌++◌}
use Prim.Native.Nat.{ℕ, ◌+◌, ◌-◌, ◌*◌, ◌≤◌}
use native.Mathlib.Omega.{arith}
use borrow.Author.Tests.{ne_eqb}
use lib.ListN.{drop, length, length-append, length-drop, take}
use lib.Seq.{drop_at, drop-drop, take_at}
use Rattle.std.specs.Result.{IsErrAnd}
use Rattle.std.proofs.Common.{Result}
use Rattle.std.proofs.lemmas.Result.{err_from_is_err_and}
use Rattle.refusals.specs.Numbers.{number_of}
use Rattle.refusals.specs.declared.Refusal.{Refusal}
use Rattle.refusals.proofs.Numbers.{number_nonzero}
use Rattle.meaning.specs.Answers.{any_above, refuse}
use Rattle.meaning.specs.Plate.{grid_fits, max_pixels}
use Rattle.theory_connectivity.proofs.Sizes.{grid_sizes}
use Rattle.plate_refusals.proofs.Refusals.{decided, passed}
use Rattle.pgm_header.specs.Grammar.{faulty, header, sound}
use Rattle.pgm_header.specs.Steps.{fault_number}
use Rattle.pgm_header.specs.declared.HeaderFault.{HeaderFault}
use Rattle.pgm.specs.File.{greys_of, raster_bytes, short_refusal}
use Rattle.pgm.proofs.Raster.{bytes_least}
use Rattle.pgm.proofs.Readable.{Whole, short_chain, short_none}
use Rattle.pgm_roll.specs.Roll.{FirstPlate, Image, after_header, fault, first_plate, pixels, place_answer, place_of, plate_at}
use Rattle.pgm_roll.specs.Roll.{plate_then, raster_fault, refused_at}
use Rattle.pgm_roll.specs.Scan.{Stands}
use Rattle.pgm_roll.specs.declared.FoundPlate.{FoundPlate}
use Rattle.pgm_roll.specs.declared.PlateAt.{PlateAt}
use Rattle.pgm_roll.proofs.Plates.{Found, first_positive, found}

-- ---- after a sound header, where the raster begins at `at`

module _ (file : List ℕ) (at w h M : ℕ) (within : at ≤ length file) where
  abbrev rest : List ℕ
  rest = drop at file

  abbrev size : ℕ
  size = raster_bytes w h M

  -- the plate that is found there
  abbrev answer : PlateAt
  answer = place_of (length file) (after_header (sound w h M rest))

  at_refused : {n : ℕ} → n ≡ raster_fault w h M rest → (n ≡ 0 → ⊥) → refused_at n ≡ answer
  at_refused {n} is x = rw (← is, ne_eqb n 0 x)

  at_sound : raster_fault w h M rest ≡ 0 → size ≤ length rest
      → ◌≡◌ {A = PlateAt} (record { refusal = 0; width = w; height = h; greatest = M; raster = at; end = at + size }) answer
  at_sound z l =
      let ends : length file - length (drop size rest) ≡ at + size = omega (arith, length-drop size rest, length-drop at file, l) in
      let begins : at + size - size ≡ at = omega arith in
      rw (z, ends, begins)

  -- n was found to be the refusal by 2, 12 and 14
  module _ {n : ℕ} (is : n ≡ short_refusal w h M (length file - at) 0) where
    short_is : n ≡ short_refusal w h M (length rest) 0
    short_is = rw (length-drop at file) is

    pub at_short : {r : PlateAt} → (n ≡ 0 → ⊥) → r ≡ refused_at n → r ≡ answer
    unfolding raster_fault
    at_short x e = e ∙ at_refused (decided (short_chain w h M (length rest)) short_is x _) x

  pub short_at : (r : Result FoundPlate Refusal) (e : Refusal) → IsErrAnd r (λ y. y ≡ e) → number_of e ≡ short_refusal w h M (length file - at) 0
      → place_answer r ≡ answer
  short_at r e l is = let y = err_from_is_err_and r l in rw (y.1, y.2) (at_short is (number_nonzero e) refl)

  module _ (is : 0 ≡ short_refusal w h M (length file - at) 0) where
    module _ where
      whole : Whole w h M (length rest)
      whole = (short_none w h M (length rest) 0 (sym (short_is is))).0

      pub whole_sizes : grid_fits w h ≡ true
      whole_sizes = whole.sizes

      pub whole_enough : at + size ≤ length file
      whole_enough = omega (arith, whole.enough, length-drop at file, within)

      -- m: how many bytes the raster has, b: whether a pixel of it is above the greatest grey
      module _ {m : ℕ} {b : Bool} (m_is : m ≡ size) (b-is : b ≡ any_above M (greys_of M (take (at + m - at) rest))) where
        above_is : b ≡ any_above M (greys_of M (take size rest))
        above_is = let e : at + m - at ≡ size = omega (arith, m_is) in rw e at b-is

        fault_is : raster_fault w h M rest ≡ refuse b 28 0
        unfolding raster_fault
        fault_is = passed (short_chain w h M (length rest)) (short_is is) refl _ ∙ rw (← above_is)

        pub at_above : {r : PlateAt} → b ≡ true → r ≡ refused_at 28 → r ≡ answer
        at_above t e = e ∙ at_refused (sym (fault_is ∙ rw t)) (λ x. omega (arith, x))

        pub at_whole : b ≡ false → ◌≡◌ {A = PlateAt} (record { refusal = 0; width = w; height = h; greatest = M; raster = at; end = at + m }) answer
        at_whole t = rw m_is (at_sound (fault_is ∙ rw t) whole.enough)

-- ---- after the header, sound or faulty

module _ (file : List ℕ) (at : ℕ) where
  pub at_faulty : (f : HeaderFault) (r : Result FoundPlate Refusal) → IsErrAnd r (λ y. number_of y ≡ fault_number f)
      → faulty (fault_number f) ≡ header (drop at file) → place_answer r ≡ plate_at file at
  unfolding plate_at first_plate
  at_faulty f r l p = let y = err_from_is_err_and r l in rw (y.1, y.2, ← p)

  pub at_header : (w h M c : ℕ) {r : PlateAt} → sound w h M (drop c file) ≡ header (drop at file)
      → r ≡ place_of (length file) (after_header (sound w h M (drop c file))) → r ≡ plate_at file at
  unfolding plate_at first_plate
  at_header w h M c p j = j ∙ rw (← p)

-- ---- a plate that was found from a place on

module _ (file : List ℕ) (at : ℕ) {after : List ℕ} {p : Image} (k : Found (drop at file) p after) where
  abbrev place : PlateAt
  place = place_of (length file) (plate_then p after)

  abbrev bytes : ℕ
  bytes = raster_bytes p.width p.height p.greatest

  lengths : length file ≡ at + (length k.head + (bytes + length after))
  lengths =
      omega (
        arith,
        length-drop at file,
        ap length k.split,
        length-append k.head (k.raster ++ after),
        length-append k.raster after,
        k.long,
        k.head_long,
      )

  end_is : place.end ≡ at + length k.head + bytes
  end_is = omega (arith, lengths)

  raster_is : place.raster ≡ at + length k.head
  raster_is = omega (arith, end_is)

  -- what stands from the raster on
  from_raster : drop place.raster file ≡ k.raster ++ after
  from_raster =
      rw raster_is
      (sym (drop-drop (length k.head) at file) ∙ ap (drop (length k.head)) k.split ∙ drop_at k.head (k.raster ++ after) (length k.head) refl)

  -- the bytes behind it stand from its end on
  pub from_end : drop place.end file ≡ after
  from_end =
      let e : place.end ≡ place.raster + bytes = omega (arith, end_is, raster_is) in
      rw e (sym (drop-drop bytes place.raster file) ∙ ap (drop bytes) from_raster ∙ drop_at k.raster after bytes k.long)

  pub stands : Stands file place p
  stands =
      let e : place.end - place.raster ≡ bytes = omega (arith, end_is, raster_is) in
      record {
        width = refl;
        height = refl;
        greatest = refl;
        from = omega (arith, end_is, raster_is);
        till = omega (arith, lengths, end_is);
        greys = rw (e, from_raster, take_at k.raster after bytes k.long) k.greys;
        sizes = k.readable.sizes;
        long = k.readable.long;
      }

  -- it has a header of at least nine bytes, and at least a byte for each pixel
  pub end_far : at + (9 + pixels p) ≤ place.end
  end_far = omega (arith, end_is, k.head_long, bytes_least p.greatest (pixels p))

-- it is within the grid
pub stands_sizes : {file : List ℕ} {c : PlateAt} {p : Image} → Stands file c p → grid_fits c.width c.height ≡ true
stands_sizes s = rw (s.width, s.height) s.sizes

pub stands_few : {file : List ℕ} {c : PlateAt} {p : Image} → Stands file c p → c.width * c.height ≤ max_pixels
stands_few s = (grid_sizes _ _ (stands_sizes s)).few_pixels

-- ---- what is answered of the place

-- a plate begins there
pub record Begins (file : List ℕ) (at : ℕ) (r : PlateAt) : Type 0 where
  pub plate : Image
  pub after : List ℕ
  pub there : Found (drop at file) plate after
  pub same : r ≡ place_of (length file) (plate_then plate after)

module _ (file : List ℕ) (at : ℕ) {r : PlateAt} (is : r ≡ plate_at file at) where
  answered : {t : FirstPlate} → first_plate (drop at file) ≡ t → r ≡ place_of (length file) t
  unfolding plate_at
  answered e = is ∙ ap (place_of (length file)) e

  by_first : (t : FirstPlate) → first_plate (drop at file) ≡ t → r.refusal ≡ 0 → Begins file at r
  by_first (plate_then p after) e z = record { plate = p; after = after; there = found (drop at file) e; same = answered e }
  by_first (fault n) e z =
      absurd (omega (arith, first_positive (drop at file) n e, ap (λ (a : PlateAt). a.refusal) (answered e), z))

  pub place-begins : r.refusal ≡ 0 → Begins file at r
  place-begins z = by_first (first_plate (drop at file)) refl z

  by_fault : (t : FirstPlate) → first_plate (drop at file) ≡ t → (r.refusal ≡ 0 → ⊥) → first_plate (drop at file) ≡ fault r.refusal
  by_fault (plate_then p after) e x = absurd (x (ap (λ (a : PlateAt). a.refusal) (answered e)))
  by_fault (fault n) e x = e ∙ ap fault (sym (ap (λ (a : PlateAt). a.refusal) (answered e)))

  pub place_faulty : (r.refusal ≡ 0 → ⊥) → first_plate (drop at file) ≡ fault r.refusal
  place_faulty x = by_fault (first_plate (drop at file)) refl x

module _ {file : List ℕ} {at : ℕ} {r : PlateAt} (b : Begins file at r) where
  abbrev plate_there : PlateAt
  plate_there = place_of (length file) (plate_then b.plate b.after)

  pub begins_stands : Stands file r b.plate
  begins_stands = rw b.same (stands file at b.there)

  -- behind it goes on what stands from its end on
  pub begins_found : Found (drop at file) b.plate (drop r.end file)
  begins_found = rw (b.same, from_end file at b.there) b.there

  pub begins_far : at + (9 + pixels b.plate) ≤ r.end
  begins_far = rw b.same (end_far file at b.there)
