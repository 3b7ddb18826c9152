-- The claim on rolls: a sound roll is plate files one after the other, a refused one is plate files and then a faulty plate, both ways round.
use mathlib.Core.Path.{◌≡◌, refl, sym, ap, ◌∙◌}
use mathlib.Core.List.{List, [], ◌∷◌, ◌++◌, append_assoc}
use Prim.Native.Nat.{ℕ, zero, suc, ◌-◌, ◌<◌}
use native.Mathlib.Omega.{arith}
use lib.ListN.{drop, length, length-append, length-drop, take}
use lib.Seq.{take_at}
use Rattle.meaning.specs.Plate.{connectivity_fits}
use Rattle.pgm_header.proofs.Prefix.{apart}
use Rattle.pgm_write.specs.Writing.{pgm_of}
use Rattle.pgm_roundtrip.proofs.PlateFiles.{file_back}
use Rattle.pgm_roll.specs.Roll.{Image, Roll, before, plate_at, plates, refused, roll}
use Rattle.pgm_roll.specs.Rolls.{Accepted, AllAccepted, FirstFault, PlateFiles, ReadEach, Reads, RollClaim, joined, written}
use Rattle.pgm_roll.proofs.Plates.{Found, found_alone, found_append, found_own, found_shorter, own}
use Rattle.pgm_roll.proofs.Rolls.{Front, before-before, before-none, faulty, front, nothing, plate}
use Rattle.pgm_roll.proofs.Rolls.{roll_empty, roll_fault, roll-none, roll_opens, roll_plate}
use Rattle.pgm_roll.proofs.Places.{begins_far, begins_found, begins_stands, place-begins}
use Rattle.pgm_roll.proofs.Alone.{found_accepted, found_reads, reads_found}
use Rattle.pgm_roll.proofs.Faulty.{Faulty, faulty_first, first_faulty}

-- ---- plate files one after the other

files_none : PlateFiles [] []
unfolding joined
files_none = record { files = []; make_up = refl; each = tt }

files_more : {file s : List ℕ} {p : Image} {ps : List Image} → Reads file p → PlateFiles s ps → PlateFiles (file ++ s) (p ∷ ps)
unfolding joined
files_more {file} r k = record { files = file ∷ k.files; make_up = ap (λ (l : List ℕ). file ++ l) k.make_up; each = (r, k.each) }

-- they are the roll of their plates
joined-roll : (files : List (List ℕ)) (ps : List Image) → ReadEach files ps → roll (joined files) ≡ plates ps
unfolding joined
joined-roll [] [] k = roll-none [] refl
joined-roll [] (p ∷ ps) k = absurd k
joined-roll (file ∷ files) [] k = absurd k
joined-roll (file ∷ files) (p ∷ ps) k =
    roll_plate (found_append (reads_found file p k.0) (joined files)) ∙ ap (before (p ∷ [])) (joined-roll files ps k.1)

files_roll : (s : List ℕ) (ps : List Image) → PlateFiles s ps → roll s ≡ plates ps
files_roll s ps k = ap roll k.make_up ∙ joined-roll k.files ps k.each

-- ---- a sound roll

-- a plate at the front, alone
own_reads : {s after : List ℕ} {p : Image} (k : Found s p after) → Reads (own k) p
own_reads k = found_reads (found_alone k)

roll_files : (s : List ℕ) (ps : List Image) → roll s ≡ plates ps → PlateFiles s ps
roll_files s [] e = rw (roll_empty s e) files_none
roll_files s (p ∷ ps) e =
    let o = roll_opens s e in
    rw (found_own o.there) (files_more (own_reads o.there) (roll_files o.after ps o.rest))

roll_one : (file : List ℕ) (p : Image) → roll file ≡ plates (p ∷ []) → Reads file p
roll_one file p e =
    let o = roll_opens file e in
    found_reads (rw (roll_empty o.after o.rest) at o.there)

one_roll : (file : List ℕ) (p : Image) → Reads file p → roll file ≡ plates (p ∷ [])
one_roll file p r = roll_plate (reads_found file p r) ∙ ap (before (p ∷ [])) (roll-none [] refl)

roll-further : (s more : List ℕ) (ps : List Image) → roll s ≡ plates ps → roll (s ++ more) ≡ before ps (roll more)
roll-further s more [] e = ap (λ (l : List ℕ). roll (l ++ more)) (roll_empty s e) ∙ sym (before-none (roll more))
roll-further s more (p ∷ ps) e =
    let o = roll_opens s e in
    roll_plate (found_append o.there more) ∙ ap (before (p ∷ [])) (roll-further o.after more ps o.rest)
    ∙ before-before (p ∷ []) ps (roll more)

roll_accepted : (s : List ℕ) (ps : List Image) → roll s ≡ plates ps → AllAccepted ps
roll_accepted s [] e = tt
roll_accepted s (p ∷ ps) e = let o = roll_opens s e in (found_accepted o.there, roll_accepted o.after ps o.rest)

-- ---- a refused roll

-- the faulty plate is the first, or a plate stands before
fault_here : {s : List ℕ} {n : ℕ} → Faulty s n → FirstFault s n
fault_here k = record {
  sound = [];
  ps = [];
  ahead = files_none;
  faulty = k.bytes;
  left = k.left;
  split = k.split;
  some = k.some;
  all = k.all;
  alone = k.alone;
  kind = k.kind;
}

fault_later : {s after : List ℕ} {p : Image} {n : ℕ} → Found s p after → FirstFault after n → FirstFault s n
fault_later {p = p} k f = record {
  sound = own k ++ f.sound;
  ps = p ∷ f.ps;
  ahead = files_more (own_reads k) f.ahead;
  faulty = f.faulty;
  left = f.left;
  split =
      found_own k ∙ ap (λ (l : List ℕ). own k ++ l) f.split ∙ sym (append_assoc (own k) f.sound (f.faulty ++ f.left));
  some = f.some;
  all = f.all;
  alone = f.alone;
  kind = f.kind;
}

-- a plate in front does not refuse
before_refused : (p : Image) (r : Roll) {n : ℕ} → before (p ∷ []) r ≡ refused n → r ≡ refused n
before_refused p (plates ps) e = apart cc
before_refused p (refused m) e = e

-- the first fault, where that of fewer bytes is known
module _ (s : List ℕ) {n : ℕ} (shorter : (after : List ℕ) → length after < length s → roll after ≡ refused n → FirstFault after n) where
  by_front : Front s → roll s ≡ refused n → FirstFault s n
  by_front (nothing z) e = let none = roll-none s (ap length z) in apart cc
  by_front (plate p after k) e =
      let stops = before_refused p (roll after) (sym (roll_plate k) ∙ e) in
      fault_later k (shorter after (omega (arith, found_shorter k)) stops)
  by_front (faulty c x f) e =
      let stops = roll_fault s x f in
      let same : c ≡ n = cc in
      fault_here (rw same at (first_faulty s (omega (arith, x)) f))

-- with fewer than m bytes
refused_fault : (m : ℕ) (s : List ℕ) {n : ℕ} → length s < m → roll s ≡ refused n → FirstFault s n
refused_fault zero s l e = absurd (omega arith)
refused_fault (suc m) s l e = by_front s (λ after h f. refused_fault m after (omega arith) f) (front s) e

-- the faulty plate stands where the roll goes on, and refuses it
fault_refused : (s : List ℕ) {n : ℕ} → FirstFault s n → roll s ≡ refused n
fault_refused s {n} k =
    let rest = k.faulty ++ k.left in
    let there : Faulty rest n = record {
      bytes = k.faulty;
      left = k.left;
      split = refl;
      some = k.some;
      all = k.all;
      alone = k.alone;
      kind = k.kind;
    } in
    let long : length rest ≡ 0 → ⊥ = λ z. omega (arith, z, length-append k.faulty k.left, k.some) in
    ap roll k.split ∙ roll-further k.sound rest k.ps (files_roll k.sound k.ps k.ahead)
    ∙ ap (before k.ps) (roll_fault rest long (faulty_first there))

-- ---- the plate at a place

place_step : (s : List ℕ) (at : ℕ) → (plate_at s at).refusal ≡ 0 → let e = (plate_at s at).end in
    (p : Image) × (Reads (take (e - at) (drop at s)) p × (roll (drop at s) ≡ before (p ∷ []) (roll (drop e s))))
place_step s at z =
    let e = (plate_at s at).end in
    let b = place-begins s at refl z in
    let k = begins_found b in
    let behind = drop e s in
    let long : length (own k) ≡ e - at =
    omega (
      arith,
      ap length (found_own k),
      length-append (own k) behind,
      length-drop at s,
      length-drop e s,
      begins_far b,
      (begins_stands b).till,
    ) in
    let bytes : take (e - at) (drop at s) ≡ own k = ap (take (e - at)) (found_own k) ∙ take_at (own k) behind (e - at) long in
    (b.plate, (rw bytes (own_reads k), roll_plate k))

-- ---- written files

accepted_reads : (p : Image) → Accepted p → Reads (pgm_of p.width p.height p.greatest p.greys) p
unfolding connectivity_fits
accepted_reads p a = record { alone = λ room fits. file_back (a 4 refl) room fits }

written_files : (ps : List Image) → AllAccepted ps → PlateFiles (written ps) ps
unfolding written
written_files [] a = files_none
written_files (p ∷ ps) a = files_more (accepted_reads p a.0) (written_files ps a.1)

-- ---- the claim

pub rolls : RollClaim
rolls = record {
  none = roll-none [] refl;
  one = λ file p. (roll_one file p, one_roll file p);
  each = roll_files;
  together = files_roll;
  further = roll-further;
  accepted = roll_accepted;
  refusal = λ s n. (λ e. refused_fault (suc (length s)) s (omega arith) e, λ k. fault_refused s k);
  step = place_step;
  back = λ ps a. files_roll (written ps) ps (written_files ps a);
}
