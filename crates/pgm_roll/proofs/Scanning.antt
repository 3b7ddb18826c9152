-- The pass over a roll: what holds after each plate, and what was found at the end.
use mathlib.Core.Path.{◌≡◌, refl, sym, ap, ◌∙◌}
use mathlib.Core.List.{List, [], ◌∷◌, ◌++◌, append-nil}
use Prim.Native.Nat.{ℕ, ◌+◌, ◌*◌, ◌≤◌, ◌<◌, max}
use native.Mathlib.Omega.{arith}
use lib.ListN.{drop, length, length-append, length-drop, get_or-append}
use lib.Seq.{get_or_at}
use Rattle.std.specs.Result.{IsErrAnd}
use Rattle.std.proofs.Common.{Option, Some, None, Result, Ok}
use Rattle.std.proofs.lemmas.Result.{err_from_is_err_and}
use Rattle.refusals.specs.Numbers.{number_of}
use Rattle.refusals.specs.declared.Refusal.{Refusal}
use Rattle.pgm_roll.specs.Roll.{Image, before, fault, first_plate, largest, no_image, pixels, place_answer, plates, refused, roll}
use Rattle.pgm_roll.specs.Scan.{Chosen, Scanned}
use Rattle.pgm_roll.specs.declared.FoundPlate.{FoundPlate}
use Rattle.pgm_roll.specs.declared.RollScan.{RollScan}
use Rattle.pgm_roll.proofs.Places.{Begins, begins_far, begins_found, begins_stands}
use Rattle.pgm_roll.proofs.Rolls.{before-before, before-none, roll_fault, roll-none, roll_plate}

-- the plates `taken` are those of the roll up to the place `at`; the plate of the number is among them where it is below the count
pub record Scanning (file : List ℕ) (number at count most : ℕ) (chosen : Option FoundPlate) : Type 0 where
  pub taken : List Image
  pub within : at ≤ length file
  pub same : roll file ≡ before taken (roll (drop at file))
  pub counted : length taken ≡ count
  pub few : count ≤ at
  pub largest-is : most ≡ largest taken
  pub found : Chosen file number count taken chosen

pub scanning_first : (file : List ℕ) (number : ℕ) → Scanning file number 0 0 0 None
unfolding largest
scanning_first file number = record {
  taken = [];
  within = omega arith;
  same = sym (before-none (roll file));
  counted = refl;
  few = omega arith;
  largest-is = refl;
  found = omega arith;
}

-- ---- one plate more

largest-more : (ps : List Image) (p : Image) → max (pixels p) (largest ps) ≡ largest (ps ++ (p ∷ []))
unfolding largest
largest-more [] p = refl
largest-more (q ∷ ps) p = omega (arith, largest-more ps p)

module _ {file : List ℕ} {number at count most : ℕ} {chosen : Option FoundPlate} {r : FoundPlate} (k : Scanning file number at count most chosen)
    (b : Begins file at (place_answer (Ok r))) where
  abbrev more : List Image
  more = k.taken ++ (b.plate ∷ [])

  more_same : roll file ≡ before more (roll (drop r.end file))
  more_same = k.same ∙ ap (before k.taken) (roll_plate (begins_found b)) ∙ before-before k.taken (b.plate ∷ []) (roll (drop r.end file))

  -- the plate is that of the number
  pub found_here : count ≡ number → Chosen file number (count + 1) more (Some r)
  found_here here =
      (omega arith, rw (get_or_at k.taken b.plate [] no_image number (k.counted ∙ here)) (begins_stands b))

  -- it is another
  pub found_other : (count ≡ number → ⊥) → (o : Option FoundPlate) → Chosen file number count k.taken o → Chosen file number (count + 1) more o
  found_other other None l = omega arith
  found_other other (Some c) s = (omega arith, rw (get_or-append k.taken (b.plate ∷ []) no_image number (omega (arith, k.counted))) s.1)

  pub scanning_more : {m : ℕ} {next : Option FoundPlate} → m ≡ max (r.head.width * r.head.height) most → Chosen file number (count + 1) more next
      → Scanning file number r.end (count + 1) m next
  scanning_more {m} m_is found =
      let s = begins_stands b in
      record {
        taken = more;
        within = s.till;
        same = more_same;
        counted = length-append k.taken (b.plate ∷ []) ∙ omega (arith, k.counted);
        few = omega (arith, begins_far b, k.few);
        largest-is = m_is ∙ rw (s.width, s.height, k.largest-is) (largest-more k.taken b.plate);
        found = found;
      }

-- ---- the end

module _ {file : List ℕ} {number at count most : ℕ} {chosen : Option FoundPlate} (k : Scanning file number at count most chosen) where
  pub scanned_all : length file ≤ at → Scanned file number (Ok (record { count = count; largest = most; chosen = chosen }))
  scanned_all l =
      let none : roll (drop at file) ≡ plates [] = roll-none (drop at file) (omega (arith, length-drop at file, l)) in
      let all : roll file ≡ plates k.taken = k.same ∙ ap (before k.taken) none ∙ ap plates (append-nil k.taken) in
      record {
        counted = rw (all, k.counted);
        sound = rw all;
        most = rw all k.largest-is;
        found = rw all k.found;
      }

  pub scanned_refused : (r : Result RollScan Refusal) (e : Refusal) → IsErrAnd r (λ y. y ≡ e) → at < length file
      → first_plate (drop at file) ≡ fault (number_of e) → Scanned file number r
  unfolding largest
  scanned_refused r e l h f =
      let stops : roll file ≡ refused (number_of e) =
      k.same ∙ ap (before k.taken) (roll_fault (drop at file) (λ z. omega (arith, length-drop at file, h, z)) f) in
      let y = err_from_is_err_and r l in
      rw (y.1, y.2) (record { counted = rw stops; sound = tt; most = rw stops; found = tt })
