-- The plate at the front of some bytes: where it is found its header and its raster are the front of the bytes, and decide by themselves.
use mathlib.Core.Path.{◌≡◌, refl, sym, ap, ◌∙◌}
use mathlib.Core.Bool.{Bool, true, false}
use mathlib.Core.List.{List, [], ◌++◌, append_assoc, append-nil}
use Prim.Native.Nat.{ℕ, zero, suc, ◌+◌, ◌*◌, ◌≤◌, ◌<◌}
use native.Mathlib.Omega.{arith}
use borrow.Author.Tests.{eqb-true, eqb-false}
use lib.Dec.{eqb}
use lib.ListN.{drop, length, length-append, take, take-append-drop}
use lib.Seq.{drop_at, length-take-le, take_at}
use Rattle.meaning.specs.Answers.{any_above}
use Rattle.plate_refusals.proofs.Refusals.{above_none, none_above, refuse-none}
use Rattle.pgm_header.specs.Grammar.{ParsedHeader, sound, faulty, header}
use Rattle.pgm_header.proofs.Faults.{fault_positive}
use Rattle.pgm_header.proofs.Prefix.{apart, header_headed}
use Rattle.pgm.specs.File.{greys_of, raster_bytes}
use Rattle.pgm.proofs.Raster.{greys_long}
use Rattle.pgm.proofs.Readable.{Readable, Whole, short_none, whole_passes}
use Rattle.pgm_roll.specs.Roll.{Image, after_header, fault, first_plate, pixels, plate_then, raster_fault, sound_plate}

positive : (n : ℕ) → (n ≡ 0 → ⊥) → 0 < n
positive zero x = absurd (x refl)
positive (suc n) x = omega arith

-- ---- after a sound header

-- the bytes s begin with the raster of a plate
pub record Rastered (w h M : ℕ) (s : List ℕ) : Type 0 where
  pub whole : Whole w h M (length s)
  pub readable : Readable w h M (greys_of M (take (raster_bytes w h M) s)) (w * h)

module _ (w h M : ℕ) (s : List ℕ) where
  abbrev raster : List ℕ
  raster = take (raster_bytes w h M) s

  pub raster-size : Whole w h M (length s) → length raster ≡ raster_bytes w h M
  raster-size k = length-take-le (raster_bytes w h M) s k.enough

  pub fault_none : raster_fault w h M s ≡ 0 → Rastered w h M s
  unfolding raster_fault
  fault_none e =
      let (whole, e₁) = short_none w h M (length s) _ e in
      let (low, _) = refuse-none (any_above M (greys_of M raster)) 28 0 (omega arith) e₁ in
      let long = greys_long M raster (w * h) (raster-size whole) in
      record {
        whole = whole;
        readable = record { sizes = whole.sizes; range = whole.range; long = long; greys = none_above M (greys_of M raster) low; fits = omega arith };
      }

  pub none_fault : Rastered w h M s → raster_fault w h M s ≡ 0
  unfolding raster_fault
  none_fault k = whole_passes w h M (length s) k.whole _ ∙ rw (above_none M (greys_of M raster) k.readable.greys)

-- ---- a plate that is found

-- the plate p stands at the front of s, and `after` behind it
pub record Found (s : List ℕ) (p : Image) (after : List ℕ) : Type 0 where
  pub head : List ℕ
  pub raster : List ℕ
  pub split : s ≡ head ++ (raster ++ after)
  pub head_long : 9 ≤ length head
  pub again : (r : List ℕ) → header (head ++ r) ≡ sound p.width p.height p.greatest r
  pub long : length raster ≡ raster_bytes p.width p.height p.greatest
  pub greys : greys_of p.greatest raster ≡ p.greys
  pub readable : Readable p.width p.height p.greatest p.greys (pixels p)

module _ (s : List ℕ) {p : Image} {after : List ℕ} where
  sound_found : (w h M : ℕ) (rest : List ℕ) → header s ≡ sound w h M rest → raster_fault w h M rest ≡ 0
      → sound_plate w h M rest ≡ plate_then p after → Found s p after
  sound_found w h M rest k z e =
      let r = fault_none w h M rest z in
      let headed = header_headed s k in
      let p-is : record { width = w; height = h; greatest = M; greys = greys_of M (take (raster_bytes w h M) rest) } ≡ p = cc in
      let after_is : drop (raster_bytes w h M) rest ≡ after = cc in
      rw (← p-is, ← after_is)
      (record {
        head = headed.head;
        raster = take (raster_bytes w h M) rest;
        split = headed.split ∙ ap (λ (l : List ℕ). headed.head ++ l) (sym (take-append-drop (raster_bytes w h M) rest));
        head_long = headed.long;
        again = headed.again;
        long = raster-size w h M rest r.whole;
        greys = refl;
        readable = r.readable;
      })

  by-header : (g : ParsedHeader) → header s ≡ g → after_header g ≡ plate_then p after → Found s p after
  by-header (sound w h M rest) k e = by_test (eqb (raster_fault w h M rest) 0) refl
    where
      by_test : (t : Bool) → eqb (raster_fault w h M rest) 0 ≡ t → Found s p after
      by_test true t = sound_found w h M rest k (eqb-true (raster_fault w h M rest) 0 t) (rw t at e)
      by_test false t = let x : fault (raster_fault w h M rest) ≡ plate_then p after = rw t at e in apart cc
  by-header (faulty n) k e = apart cc

  pub found : first_plate s ≡ plate_then p after → Found s p after
  unfolding first_plate
  found e = by-header (header s) refl e

-- and what is so found is the first plate
module _ {s after : List ℕ} {p : Image} (k : Found s p after) where
  abbrev follow : List ℕ
  follow = k.raster ++ after

  abbrev size : ℕ
  size = raster_bytes p.width p.height p.greatest

  pub found_parsed : header s ≡ sound p.width p.height p.greatest follow
  found_parsed = ap header k.split ∙ k.again follow

  found_raster : take size follow ≡ k.raster
  found_raster = take_at k.raster after size k.long

  found_rastered : Rastered p.width p.height p.greatest follow
  found_rastered = record {
    whole = record {
      sizes = k.readable.sizes;
      range = k.readable.range;
      enough = omega (arith, length-append k.raster after, k.long);
    };
    readable = rw (found_raster, k.greys) k.readable;
  }

  pub found_first : first_plate s ≡ plate_then p after
  unfolding first_plate
  found_first =
      rw (
        found_parsed,
        none_fault p.width p.height p.greatest follow found_rastered,
        found_raster,
        drop_at k.raster after size k.long,
        k.greys,
      )

  -- what stands behind has fewer bytes
  pub found_shorter : length after + (9 + size) ≤ length s
  found_shorter = omega (arith, ap length k.split, length-append k.head follow, length-append k.raster after, k.head_long, k.long)

  -- its header and its raster with other bytes behind them
  found_again : {t behind : List ℕ} → t ≡ k.head ++ (k.raster ++ behind) → Found t p behind
  found_again e = record {
    head = k.head;
    raster = k.raster;
    split = e;
    head_long = k.head_long;
    again = k.again;
    long = k.long;
    greys = k.greys;
    readable = k.readable;
  }

  -- more bytes at the end are left behind the plate
  pub found_append : (more : List ℕ) → Found (s ++ more) p (after ++ more)
  found_append more =
      found_again
      (ap (λ (l : List ℕ). l ++ more) k.split ∙ append_assoc k.head follow more
      ∙ ap (λ (l : List ℕ). k.head ++ l) (append_assoc k.raster after more))

  -- the bytes of the plate
  abbrev pub own : List ℕ
  own = k.head ++ k.raster

  pub found_own : s ≡ own ++ after
  found_own = k.split ∙ sym (append_assoc k.head k.raster after)

  -- alone they are the plate too
  pub found_alone : Found own p []
  found_alone = found_again (ap (λ (l : List ℕ). k.head ++ l) (sym (append-nil k.raster)))

-- ---- a fault

-- its number is not 0
module _ (s : List ℕ) (n : ℕ) where
  positive_after : (g : ParsedHeader) → header s ≡ g → after_header g ≡ fault n → 0 < n
  positive_after (sound w h M rest) k e = by_test (eqb (raster_fault w h M rest) 0) refl
    where
      by_test : (t : Bool) → eqb (raster_fault w h M rest) 0 ≡ t → 0 < n
      by_test true t = let x : sound_plate w h M rest ≡ fault n = rw t at e in apart cc
      by_test false t =
          let x : fault (raster_fault w h M rest) ≡ fault n = rw t at e in
          let same : raster_fault w h M rest ≡ n = cc in
          let ne = eqb-false (raster_fault w h M rest) 0 t in
          positive n (λ z. ne (same ∙ z))
  positive_after (faulty m) k e = let same : m ≡ n = cc in fault_positive s n (k ∙ ap faulty same)

  pub first_positive : first_plate s ≡ fault n → 0 < n
  unfolding first_plate
  first_positive e = positive_after (header s) refl e
