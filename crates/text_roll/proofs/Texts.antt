-- The text of a roll: its plates' texts put one after the other, and the ways in which a file is refused.
use mathlib.Core.Path.{◌≡◌, refl, sym, ap, ◌∙◌}
use mathlib.Core.List.{List, [], ◌∷◌, ◌++◌, append_assoc, append-nil}
use Prim.Native.Nat.{ℕ, ◌+◌, ◌*◌, ◌≤◌, ◌<◌}
use native.Mathlib.Omega.{arith}
use borrow.Author.Tests.{le-ltb, lt-ltb}
use lib.ListN.{drop, length, length-append, length-drop, take}
use lib.Seq.{take_at}
use Rattle.meaning.specs.Answers.{over}
use Rattle.meaning.specs.Plate.{Plate, connectivity_fits}
use Rattle.std.specs.Prelude.{Result, Ok, Err, IsOk}
use Rattle.refusals.specs.declared.Refusal.{Refusal}
use Rattle.refusals.specs.Numbers.{number_of}
use Rattle.refusals.proofs.Numbers.{number_nonzero}
use Rattle.pgm.proofs.Readable.{Readable}
use Rattle.pgm_roll.specs.Roll.{Image, Roll, before, largest, pixels, place_answer, plate_at, plates, plates_of, refused, roll}
use Rattle.pgm_roll.specs.Scan.{Scanned, Stands, greys_at}
use Rattle.pgm_roll.specs.declared.FoundPlate.{FoundPlate}
use Rattle.pgm_roll.specs.declared.PlateAt.{PlateAt}
use Rattle.pgm_roll.specs.declared.RollCount.{RollCount}
use Rattle.pgm_roll.specs.declared.RollScan.{RollScan}
use Rattle.pgm_roll.proofs.Places.{Begins, begins_far, begins_found, begins_stands, place-begins, place_faulty}
use Rattle.pgm_roll.proofs.Rolls.{roll_fault, roll-none, roll_plate}
use Rattle.text_lines.specs.Lines.{PutText}
use Rattle.text_lines.specs.Pieces.{HasRoom, Puts}
use Rattle.text_lines.specs.declared.Text.{Text}
use Rattle.text_lines.proofs.Pieces.{sets-front}
use Rattle.text_lines.proofs.Texts.{puts_nothing, puts_puts}
use Rattle.text_plate.specs.Text.{four, most_pixels, plate_text, refused_text}
use Rattle.text_plate.specs.Pieces.{plate_bytes}
use Rattle.text_roll.specs.Text.{image_text, input_bytes, plates_text, roll_text, size_text}
use Rattle.text_roll.specs.Pieces.{Made, SmallPlace, SmallRoll}

-- the front of an output over which greys were written
pub greys_front : (f out : List ℕ) (n : ℕ) {out' : List ℕ} → length f ≡ n → out' ≡ over f out → take n out' ≡ f
greys_front f out n long e = ap (take n) e ∙ take_at f (drop (length f) out) n long

-- ---- the plates' texts, one after the other

-- the texts of some plates are put; those that are left begin at the place `at` of the file
pub record Putting (file : List ℕ) (t : Text) (at : ℕ) (t' : Text) : Type 0 where
  pub done : List ℕ
  pub left : List Image
  pub within : at ≤ length file
  pub rest : roll (drop at file) ≡ plates left
  pub small : largest left ≤ most_pixels
  pub same : done ++ plates_text left ≡ plates_text (plates_of (roll file))
  pub put : Puts t done t'
  pub short : t'.length ≤ t.length + 63 * at
  pub room : HasRoom t (63 * length file)

pub putting_first : (file : List ℕ) (t : Text) → SmallRoll file t → Putting file t 0 t
putting_first file t k = record {
  done = [];
  left = plates_of (roll file);
  within = omega arith;
  rest = k.sound;
  small = k.small;
  same = refl;
  put = puts_nothing t (omega (arith, k.room));
  short = omega arith;
  room = k.room;
}

-- the first of some plates, and the others
cons_plate : (p : Image) (r : Roll) (ps : List Image) → before (p ∷ []) r ≡ plates ps
    → (qs : List Image) × ((r ≡ plates qs) × (ps ≡ p ∷ qs))
cons_plate p (plates qs) ps e = (qs, (refl, let same : p ∷ qs ≡ ps = cc in sym same))
cons_plate p (refused n) ps e = absurd (let z : ◌≡◌ {A = ℕ} 0 1 = cc in omega (arith, z))

-- a plate that stands in a file is accepted, and its text is that of its greys there
module _ {file : List ℕ} {r : PlateAt} {p : Image} (s : Stands file r p) where
  there_accepted : {room : ℕ} → Readable p.width p.height p.greatest p.greys room → Plate four r.width r.height r.greatest (greys_at file r)
  unfolding connectivity_fits
  there_accepted f =
      rw (s.greys, s.width, s.height, s.greatest)
      (record { kind = refl; sizes = f.sizes; range = f.range; long = f.long; greys = f.greys })

  there_text : plate_text r.width r.height r.greatest (greys_at file r) ≡ image_text p
  there_text = rw (s.greys, s.width, s.height, s.greatest)

pub largest-first : (p : Image) (ps : List Image) → largest (p ∷ ps) ≤ most_pixels → (pixels p ≤ most_pixels) × (largest ps ≤ most_pixels)
unfolding largest
largest-first p ps l = (omega arith, omega arith)

text_first : (p : Image) (ps : List Image) → plates_text (p ∷ ps) ≡ image_text p ++ plates_text ps
unfolding plates_text
text_first p ps = refl

module _ {file : List ℕ} {t t' : Text} {at : ℕ} (k : Putting file t at t') (l : at < length file) where
  some : length (drop at file) ≡ 0 → ⊥
  some z = omega (arith, length-drop at file, l, z)

  -- a plate is there
  pub sound_here : (r : Result FoundPlate Refusal) → place_answer r ≡ plate_at file at → IsOk r
  sound_here (Ok p) is = refl
  sound_here (Err n) is =
      let e : plates k.left ≡ refused (number_of n) = sym k.rest ∙ roll_fault (drop at file) some (place_faulty file at is (number_nonzero n)) in
      absurd (let z : ◌≡◌ {A = ℕ} 0 1 = cc in omega (arith, z))

module _ {file : List ℕ} {t t' : Text} {at : ℕ} (k : Putting file t at t') (l : at < length file) {p : FoundPlate}
    (is : place_answer (Ok p) ≡ plate_at file at)
  where
    abbrev r : PlateAt
    r = place_answer (Ok p)

    pub begun : Begins file at r
    begun = place-begins file at is refl

    -- it is the first of those that are left
    others : (qs : List Image) × ((roll (drop r.end file) ≡ plates qs) × (k.left ≡ begun.plate ∷ qs))
    others = cons_plate begun.plate (roll (drop r.end file)) k.left (sym (roll_plate (begins_found begun)) ∙ k.rest)

    few : pixels begun.plate ≤ most_pixels
    few = (largest-first begun.plate others.0 (rw others.1.1 at k.small)).0

    abbrev greys : List ℕ
    greys = greys_at file r

    greys_few : length greys ≡ pixels begun.plate
    greys_few = let s = begins_stands begun in ap length s.greys ∙ s.long

    -- its text has room
    room_here : t'.length + plate_bytes (length greys) ≤ t.length + 63 * r.end
    room_here = omega (arith, k.short, greys_few, begins_far begun)

    pub put_here : SmallPlace file r t'.bytes.now t'.length
    put_here =
        let s = begins_stands begun in
        record {
          from = s.from;
          till = s.till;
          small = record {
            plate = there_accepted s begun.there.readable;
            small = omega (arith, greys_few, few);
            room = omega (arith, room_here, s.till, k.room, k.put.same_length);
          };
        }

    pub putting_more : {t'' : Text} → Puts t' (plate_text r.width r.height r.greatest greys) t'' → t''.length ≤ t'.length + plate_bytes (length greys)
        → Putting file t r.end t''
    putting_more p short =
        let s = begins_stands begun in
        let q = begun.plate in
        let (qs, found) = others in
        let (rest, left) = found in
        let own = plate_text r.width r.height r.greatest greys in
        record {
          done = k.done ++ own;
          left = qs;
          within = s.till;
          rest = rest;
          small = (largest-first q qs (rw left at k.small)).1;
          same =
              append_assoc k.done own (plates_text qs)
              ∙ ap (λ (l : List ℕ). k.done ++ l) (ap (λ (l : List ℕ). l ++ plates_text qs) (there_text s) ∙ sym (text_first q qs) ∙ ap plates_text (sym left))
              ∙ k.same;
          put = puts_puts k.put p;
          short = omega (arith, room_here, short);
          room = k.room;
        }

pub putting_done : {file : List ℕ} {t t' : Text} {at : ℕ} → Putting file t at t' → length file ≤ at
    → Puts t (plates_text (plates_of (roll file))) t'
unfolding plates_text
putting_done {file} {at = at} k l =
    let none : plates k.left ≡ plates [] = sym k.rest ∙ roll-none (drop at file) (omega (arith, length-drop at file, l)) in
    let left : k.left ≡ [] = cc in
    let no_more : k.done ≡ k.done ++ plates_text k.left = sym (append-nil k.done) ∙ ap (λ (ps : List Image). k.done ++ plates_text ps) (sym left) in
    let all : k.done ≡ plates_text (plates_of (roll file)) = no_more ∙ k.same in
    rw all at k.put

-- ---- the text of a file

-- a text that was put from its first place on
pub made : {text text' answer : List ℕ} {r : ℕ} → PutText text 0 answer text' r → Made answer text text' r
made {text} {answer = answer} p = record {
  long = omega (arith, p.after);
  output = p.stored ∙ sets-front answer text (omega (arith, p.after, p.room));
}

pub text_long : (file : List ℕ) → input_bytes < length file → refused_text 6 ≡ size_text file
unfolding size_text
text_long file l = rw (lt-ltb input_bytes (length file) l)

pub text_roll : (file : List ℕ) → length file ≤ input_bytes → {g : Roll} → roll file ≡ g → roll_text g ≡ size_text file
unfolding size_text
text_roll file l e = rw (le-ltb input_bytes (length file) l, e)

pub text_listed : (ps : List Image) → largest ps ≤ most_pixels → roll_text (plates ps) ≡ plates_text ps
text_listed ps h = rw (le-ltb most_pixels (largest ps) h)

module _ (file : List ℕ) (l : length file ≤ input_bytes) where
  by-roll : (e : Refusal) (g : Roll) → roll file ≡ g → Scanned file 0 (Err e) → refused_text (number_of e) ≡ size_text file
  by-roll e (plates ps) is k = absurd (number_nonzero e (ap (λ (c : RollCount). c.refusal) k.counted ∙ rw is))
  by-roll e (refused n) is k =
      let same : number_of e ≡ n = ap (λ (c : RollCount). c.refusal) k.counted ∙ rw is in
      ap refused_text same ∙ text_roll file l is

  -- a plate is faulty
  pub text_refused : {e : Refusal} → Scanned file 0 (Err e) → refused_text (number_of e) ≡ size_text file
  text_refused {e} k = by-roll e (roll file) refl k

  module _ {s : RollScan} (k : Scanned file 0 (Ok s)) where
    abbrev all : List Image
    all = plates_of (roll file)

    -- all are sound, and one is too large
    pub text_large : most_pixels < s.largest → refused_text 5 ≡ size_text file
    text_large h =
        let large : roll_text (plates all) ≡ refused_text 5 = rw (lt-ltb most_pixels (largest all) (omega (arith, k.most, h))) in
        sym large ∙ text_roll file l k.sound

    module _ (h : s.largest ≤ most_pixels) where
      pub text_plates : plates_text all ≡ size_text file
      text_plates = sym (text_listed all (omega (arith, k.most, h))) ∙ text_roll file l k.sound

      pub small-roll : (text : Text) → HasRoom text (63 * input_bytes) → SmallRoll file text
      small-roll text room = record { sound = k.sound; small = omega (arith, k.most, h); room = omega (arith, l, room) }

-- ---- for the program

pub made_fits : {answer text text' : List ℕ} {r : ℕ} → Made answer text text' r → r ≤ length text'
made_fits {answer} {text} m = omega (arith, m.long, ap length m.output, length-append answer (drop (length answer) text))
