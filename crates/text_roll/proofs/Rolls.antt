-- The proof of the claim on the text of a roll.
use mathlib.Core.Path.{◌≡◌, refl, sym, ap, ◌∙◌}
use mathlib.Core.List.{List, [], ◌∷◌, ◌++◌, append-nil, map}
use Prim.Native.Nat.{ℕ, ◌≤◌}
use native.Mathlib.Omega.{arith}
use lib.ListN.{length, length-append}
use Rattle.pgm_roll.specs.Roll.{Image, largest, plates, roll}
use Rattle.pgm_roll.specs.Rolls.{ReadEach, Reads, joined}
use Rattle.pgm_roll.proofs.Claim.{rolls}
use Rattle.text_plate.specs.Text.{most_pixels}
use Rattle.text_roll.specs.Text.{image_text, input_bytes, plates_text, size_text}
use Rattle.text_roll.specs.Rolls.{SizeTextClaim, TextsAlone}
use Rattle.text_roll.proofs.Texts.{largest-first, text_listed, text_roll}

-- the text of a sound roll of plates that are not too large
roll_text_lem : (file : List ℕ) (ps : List Image) → length file ≤ input_bytes → roll file ≡ plates ps → largest ps ≤ most_pixels → size_text file ≡ plates_text ps
roll_text_lem file ps l e h = sym (text_roll file l e) ∙ text_listed ps h

-- that of one plate, sent by itself
alone_text : (file : List ℕ) (p : Image) → length file ≤ input_bytes → Reads file p → largest (p ∷ []) ≤ most_pixels → size_text file ≡ image_text p
unfolding plates_text
alone_text file p l e h = roll_text_lem file (p ∷ []) l ((rolls.one file p).1 e) h ∙ append-nil (image_text p)

largest_one : (p : Image) (ps : List Image) → largest (p ∷ ps) ≤ most_pixels → largest (p ∷ []) ≤ most_pixels
unfolding largest
largest_one p ps h = omega (arith, h)

each_alone : (files : List (List ℕ)) (ps : List Image) → ReadEach files ps → length (joined files) ≤ input_bytes → largest ps ≤ most_pixels
    → map size_text files ≡ map image_text ps
unfolding joined
each_alone [] [] e l h = refl
each_alone [] (p ∷ ps) e l h = absurd e
each_alone (file ∷ files) [] e l h = absurd e
each_alone (file ∷ files) (p ∷ ps) e l h =
    let lengths = length-append file (joined files) in
    let first : size_text file ≡ image_text p = alone_text file p (omega (arith, lengths, l)) e.0 (largest_one p ps h) in
    let others = each_alone files ps e.1 (omega (arith, lengths, l)) (largest-first p ps h).1 in
    rw (first, others)

texts_joined : (ps : List Image) → plates_text ps ≡ joined (map image_text ps)
unfolding joined plates_text
texts_joined [] = refl
texts_joined (p ∷ ps) = ap (λ (l : List ℕ). image_text p ++ l) (texts_joined ps)

texts_alone : (file : List ℕ) (ps : List Image) → length file ≤ input_bytes → roll file ≡ plates ps → largest ps ≤ most_pixels → TextsAlone file ps
texts_alone file ps l e h =
    let k = rolls.each file ps e in
    let alone = each_alone k.files ps k.each (omega (arith, l, ap length k.make_up)) h in
    record {
      files = k.files;
      make_up = k.make_up;
      each = k.each;
      alone = alone;
      text = roll_text_lem file ps l e h ∙ texts_joined ps ∙ ap joined (sym alone);
    }

empty_text : size_text [] ≡ []
unfolding largest plates_text
empty_text = roll_text_lem [] [] (omega arith) rolls.none (omega arith)

pub size_texts : SizeTextClaim
size_texts = record { none = empty_text; listed = texts_alone }
