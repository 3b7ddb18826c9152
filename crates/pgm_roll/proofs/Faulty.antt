-- A fault at the front of some bytes: the faulty plate, alone, is refused with the fault's number; and what is so refused is a fault at the front.
use mathlib.Core.Path.{◌≡◌, refl, sym, ap, ◌∙◌}
use mathlib.Core.Bool.{Bool, true, false, not}
use mathlib.Core.List.{List, [], ◌++◌, append_assoc, append-nil}
use Prim.Native.Nat.{ℕ, ◌*◌, ◌≤◌, ◌<◌}
use native.Mathlib.Omega.{arith}
use borrow.Author.Tests.{eqb-false, eqb-true, le-ltb, ltb-false, ne_eqb}
use lib.Dec.{eqb, ltb}
use lib.ListN.{drop, length, length-append, take, take-append-drop}
use lib.Seq.{take_at}
use Rattle.meaning.specs.Answers.{any_above, out_refusal, refuse}
use Rattle.meaning.specs.Plate.{greatest_fits, grid_fits}
use Rattle.theory_connectivity.proofs.Sizes.{grid_sizes}
use Rattle.plate_refusals.proofs.Refusals.{decided, out_none, passed, refuse_met}
use Rattle.pgm_header.specs.Grammar.{ParsedHeader, sound, faulty, header}
use Rattle.pgm_header.proofs.Faults.{fault_named}
use Rattle.pgm_header.proofs.Prefix.{apart, header_headed}
use Rattle.pgm.specs.File.{greys_of, raster_bytes, raster_refusal, read_pgm, short_refusal}
use Rattle.pgm.proofs.Readable.{Whole, raster_short, short_chain, short_none, whole_passes}
use Rattle.pgm.proofs.Reading.{refusal_is}
use Rattle.pgm_roll.specs.Roll.{after_header, fault, first_plate, raster_fault, sound_plate}
use Rattle.pgm_roll.proofs.Plates.{raster-size}

-- the bytes s begin with a faulty plate, which alone is refused by n; 15 is not met
pub record Faulty (s : List ℕ) (n : ℕ) : Type 0 where
  pub bytes : List ℕ
  pub left : List ℕ
  pub split : s ≡ bytes ++ left
  pub some : 0 < length bytes
  pub all : (n ≡ 28 → ⊥) → left ≡ []
  pub alone : (room : ℕ) → (read_pgm bytes room).refusal ≡ n
  pub kind : n ≡ 15 → ⊥

-- all bytes are the faulty plate
all_faulty : (s : List ℕ) {n : ℕ} → 0 < length s → ((room : ℕ) → (read_pgm s room).refusal ≡ n) → (n ≡ 15 → ⊥) → Faulty s n
all_faulty s some alone kind = record {
  bytes = s;
  left = [];
  split = sym (append-nil s);
  some = some;
  all = λ x. refl;
  alone = alone;
  kind = kind;
}

-- a header's fault is what reading refuses
header_refused : (s : List ℕ) {n : ℕ} → header s ≡ faulty n → (room : ℕ) → (read_pgm s room).refusal ≡ n
unfolding read_pgm
header_refused s k room = rw k

-- and so is what the raster after a sound header refuses
sound_refused : (s : List ℕ) {w h M : ℕ} {raster : List ℕ} → header s ≡ sound w h M raster → (room : ℕ)
    → (read_pgm s room).refusal ≡ raster_refusal w h M raster room
unfolding read_pgm
sound_refused s {w} {h} {M} {raster} k room = rw k (refusal_is (raster_refusal w h M raster room) w h M)

-- ---- 2, 12 and 14

refuse-most : (met : Bool) (number later most : ℕ) → number ≤ most → later ≤ most → refuse met number later ≤ most
refuse-most true number later most a b = a
refuse-most false number later most a b = b

short_most : (w h M follow : ℕ) → short_refusal w h M follow 0 ≤ 14
short_most w h M follow =
    refuse-most (not (grid_fits w h)) 2 _ 14 (omega arith)
    (refuse-most (not (greatest_fits M)) 12 _ 14 (omega arith) (refuse-most (ltb follow (raster_bytes w h M)) 14 0 14 (omega arith) (omega arith)))

-- ---- after a sound header

module _ (s : List ℕ) {w h M : ℕ} {rest : List ℕ} (k : header s ≡ sound w h M rest) where
  abbrev short : ℕ
  short = short_refusal w h M (length rest) 0

  abbrev raster : List ℕ
  raster = take (raster_bytes w h M) rest

  short_faulty : 0 < length s → (short ≡ 0 → ⊥) → Faulty s short
  short_faulty some x =
      all_faulty s some (λ room. sound_refused s k room ∙ sym (raster_short w h M rest room refl x)) (λ e. omega (arith, short_most w h M (length rest)))

  -- a pixel is above the greatest grey: the raster ends the faulty plate
  above_refused : Whole w h M (length rest) → any_above M (greys_of M raster) ≡ true → (room : ℕ) → raster_refusal w h M raster room ≡ 28
  unfolding raster_refusal
  above_refused whole above room =
      let long = raster-size w h M rest whole in
      let whole' : Whole w h M (length raster) = record { sizes = whole.sizes; range = whole.range; enough = omega (arith, long) } in
      whole_passes w h M (length raster) whole' _ ∙ rw (le-ltb (raster_bytes w h M) (length raster) (omega (arith, long)), above)

  above_faulty : Whole w h M (length rest) → any_above M (greys_of M raster) ≡ true → Faulty s 28
  above_faulty whole above =
      let headed = header_headed s k in
      let head = headed.head in
      let left = drop (raster_bytes w h M) rest in
      record {
        bytes = head ++ raster;
        left = left;
        split =
            headed.split ∙ ap (λ (l : List ℕ). head ++ l) (sym (take-append-drop (raster_bytes w h M) rest)) ∙ sym (append_assoc head raster left);
        some = omega (arith, length-append head raster, headed.long);
        all = λ x. absurd (x refl);
        alone = λ room. sound_refused (head ++ raster) (headed.again raster) room ∙ above_refused whole above room;
        kind = λ e. omega (arith, e);
      }

  raster_faulty : 0 < length s → (raster_fault w h M rest ≡ 0 → ⊥) → Faulty s (raster_fault w h M rest)
  unfolding raster_fault
  raster_faulty some x = by_short (eqb short 0) refl
    where
      above : Bool
      above = any_above M (greys_of M raster)

      by_short : (t : Bool) → eqb short 0 ≡ t → Faulty s (raster_fault w h M rest)
      by_short false t =
          let ne = eqb-false short 0 t in
          rw (decided (short_chain w h M (length rest)) refl ne (refuse above 28 0)) at (short_faulty some ne)
      by_short true t =
          let z = eqb-true short 0 t in
          let last = passed (short_chain w h M (length rest)) refl z (refuse above 28 0) in
          let met : above ≡ true = refuse_met above 28 (λ y. x (last ∙ y)) in
          rw (last, met) (above_faulty (short_none w h M (length rest) 0 z).0 met)

-- ---- a fault at the front

module _ (s : List ℕ) {n : ℕ} (some : 0 < length s) where
  by-header : (g : ParsedHeader) → header s ≡ g → after_header g ≡ fault n → Faulty s n
  by-header (sound w h M rest) k e = by_test (eqb (raster_fault w h M rest) 0) refl
    where
      by_test : (t : Bool) → eqb (raster_fault w h M rest) 0 ≡ t → Faulty s n
      by_test true t = let x : sound_plate w h M rest ≡ fault n = rw t at e in apart cc
      by_test false t =
          let x : fault (raster_fault w h M rest) ≡ fault n = rw t at e in
          let same : raster_fault w h M rest ≡ n = cc in
          rw same at (raster_faulty s k some (eqb-false (raster_fault w h M rest) 0 t))
  by-header (faulty m) k e =
      let same : m ≡ n = cc in
      let parsed = k ∙ ap faulty same in
      all_faulty s some (header_refused s parsed) (λ z. omega (arith, fault_named s n parsed))

  pub first_faulty : first_plate s ≡ fault n → Faulty s n
  unfolding first_plate
  first_faulty e = by-header (header s) refl e

-- ---- and back

-- a fault of the header, or of the raster after a sound one
header-first : (s : List ℕ) {n : ℕ} → header s ≡ faulty n → first_plate s ≡ fault n
unfolding first_plate
header-first s k = rw k

raster_first : (s : List ℕ) {w h M n : ℕ} {rest : List ℕ} → header s ≡ sound w h M rest → raster_fault w h M rest ≡ n → (n ≡ 0 → ⊥)
    → first_plate s ≡ fault n
unfolding first_plate
raster_first s {n = n} k e x = rw (k, e, ne_eqb n 0 x)

-- 5 depends on the output's length, where there is a pixel
room_decides : (pixels : ℕ) {n : ℕ} → 1 ≤ pixels → ((room : ℕ) → out_refusal pixels room 0 ≡ n) → ⊥
room_decides pixels {n} some e =
    let none : 0 ≡ n = rw (le-ltb pixels pixels (omega arith)) at (e pixels) in
    omega (arith, some, out_none pixels 0 0 (e 0 ∙ sym none))

module _ {s : List ℕ} {n : ℕ} (f : Faulty s n) where
  all_there : (n ≡ 28 → ⊥) → s ≡ f.bytes
  all_there x = f.split ∙ ap (λ (l : List ℕ). f.bytes ++ l) (f.all x) ∙ append-nil f.bytes

  faulty_header : {m : ℕ} → header f.bytes ≡ faulty m → first_plate s ≡ fault n
  faulty_header {m} k =
      let same : m ≡ n = sym (header_refused f.bytes k 0) ∙ f.alone 0 in
      let all = all_there (λ e. omega (arith, fault_named f.bytes m k, same, e)) in
      header-first s (ap header all ∙ k ∙ ap faulty same)

  module _ {w h M : ℕ} {rest : List ℕ} (k : header f.bytes ≡ sound w h M rest) where
    refuses : (room : ℕ) → raster_refusal w h M rest room ≡ n
    refuses room = sym (sound_refused f.bytes k room) ∙ f.alone room

    -- 2, 12 or 14
    abbrev few : ℕ
    few = short_refusal w h M (length rest) 0

    short_header : (few ≡ 0 → ⊥) → first_plate s ≡ fault n
    unfolding raster_fault
    short_header x =
        let same : few ≡ n = raster_short w h M rest 0 refl x ∙ refuses 0 in
        let all = all_there (λ e. omega (arith, short_most w h M (length rest), same, e)) in
        raster_first s (ap header all ∙ k) (sym (decided (short_chain w h M (length rest)) refl x _) ∙ same) (λ z. x (same ∙ z))

    -- 28, of the same raster with the bytes that are left behind it
    above_fault : Whole w h M (length rest) → length rest ≡ raster_bytes w h M → any_above M (greys_of M rest) ≡ true
        → raster_fault w h M (rest ++ f.left) ≡ 28
    unfolding raster_fault
    above_fault whole long above =
        let enough : raster_bytes w h M ≤ length (rest ++ f.left) = omega (arith, length-append rest f.left, long) in
        whole_passes w h M (length (rest ++ f.left)) (record { sizes = whole.sizes; range = whole.range; enough = enough }) _
        ∙ rw (take_at rest f.left (raster_bytes w h M) long, above)

    above_header : Whole w h M (length rest) → length rest ≡ raster_bytes w h M → any_above M (greys_of M rest) ≡ true → 28 ≡ n
        → first_plate s ≡ fault n
    above_header whole long above same =
        let headed = header_headed f.bytes k in
        let bytes : s ≡ headed.head ++ (rest ++ f.left) =
        f.split ∙ ap (λ (l : List ℕ). l ++ f.left) headed.split ∙ append_assoc headed.head rest f.left in
        raster_first s (ap header bytes ∙ headed.again (rest ++ f.left)) (above_fault whole long above ∙ same) (λ z. omega (arith, same, z))

    -- what follows where none of 2, 12 and 14 is met: 15, which is excluded, 28 or 5
    whole-header : Whole w h M (length rest) → first_plate s ≡ fault n
    unfolding raster_refusal
    whole-header whole = by_rest (ltb (raster_bytes w h M) (length rest)) (any_above M (greys_of M rest)) refl refl
      where
        later : (room : ℕ) → refuse (ltb (raster_bytes w h M) (length rest)) 15 (refuse (any_above M (greys_of M rest)) 28 (out_refusal (w * h) room 0)) ≡ n
        later room = sym (whole_passes w h M (length rest) whole _) ∙ refuses room

        by_rest : (over above : Bool) → ltb (raster_bytes w h M) (length rest) ≡ over → any_above M (greys_of M rest) ≡ above → first_plate s ≡ fault n
        by_rest true above t u = absurd (f.kind (sym (rw t at (later 0))))
        by_rest false true t u =
            above_header whole (omega (arith, whole.enough, ltb-false (raster_bytes w h M) (length rest) t)) u (rw (t, u) at (later 0))
        by_rest false false t u = absurd (room_decides (w * h) (grid_sizes w h whole.sizes).some-pixels (λ room. rw (t, u) at (later room)))

  by-alone : (g : ParsedHeader) → header f.bytes ≡ g → first_plate s ≡ fault n
  by-alone (faulty m) k = faulty_header k
  by-alone (sound w h M rest) k = by_short (eqb (few k) 0) refl
    where
      by_short : (t : Bool) → eqb (few k) 0 ≡ t → first_plate s ≡ fault n
      by_short true t = whole-header k (short_none w h M (length rest) 0 (eqb-true (few k) 0 t)).0
      by_short false t = short_header k (eqb-false (few k) 0 t)

  pub faulty_first : first_plate s ≡ fault n
  faulty_first = by-alone (header f.bytes) refl
