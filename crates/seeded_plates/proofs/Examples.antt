-- Test plates, a file of one, and when they are refused, computed from the definitions.
use Rattle.std.proofs.Common.{◌≡◌, [], ◌∷◌, refl}
use Rattle.meaning.specs.Plate.{byte_greatest}
use Rattle.pgm.specs.Text.{bytes}
use Rattle.pgm_write.specs.Writing.{pgm_of}
use Rattle.seeded_plates.specs.Sequence.{seeded_plate, seeded_refusal}

-- the table of SPECIFICATION 5: seeds 0 and 1, and the greatest
pub seeds : seeded_plate 0 6 1 ∷ seeded_plate 1 6 1 ∷ seeded_plate 4294967295 6 1 ∷ []
    ≡ (60 ∷ 71 ∷ 209 ∷ 170 ∷ 98 ∷ 159 ∷ []) ∷ (60 ∷ 94 ∷ 129 ∷ 180 ∷ 12 ∷ 94 ∷ []) ∷ (60 ∷ 48 ∷ 34 ∷ 161 ∷ 183 ∷ 223 ∷ []) ∷ []
unfolding seeded_plate
seeds = refl

-- seed 0 in one row, in two, in four; a seed between, with a row's end after three pixels; the first state of seed 0
pub rows : seeded_plate 0 4 1 ∷ seeded_plate 0 2 2 ∷ seeded_plate 0 1 4 ∷ seeded_plate 123456789 3 2 ∷ seeded_plate 1013904223 3 1 ∷ []
    ≡ (60 ∷ 71 ∷ 209 ∷ 170 ∷ []) ∷ (60 ∷ 71 ∷ 209 ∷ 170 ∷ []) ∷ (60 ∷ 71 ∷ 209 ∷ 170 ∷ [])
    ∷ (54 ∷ 224 ∷ 134 ∷ 87 ∷ 139 ∷ 95 ∷ []) ∷ (71 ∷ 209 ∷ 170 ∷ []) ∷ []
unfolding seeded_plate
rows = refl

pub plate_file : pgm_of 2 2 byte_greatest (seeded_plate 0 2 2) ≡ bytes "P5\n2 2\n255\n<GÑª"
unfolding seeded_plate pgm_of bytes
plate_file = refl

-- 2 alone, and ahead of 5; 5; an output that is just long enough, and longer
pub refusals : seeded_refusal 0 1 9 ∷ seeded_refusal 1 0 0 ∷ seeded_refusal 1 32769 99999 ∷ seeded_refusal 4097 4096 99999999
    ∷ seeded_refusal 65536 65536 0 ∷ seeded_refusal 4 3 11 ∷ seeded_refusal 32768 512 16777215 ∷ seeded_refusal 4 3 12 ∷ seeded_refusal 4 3 99 ∷ []
    ≡ 2 ∷ 2 ∷ 2 ∷ 2 ∷ 2 ∷ 5 ∷ 5 ∷ 0 ∷ 0 ∷ []
unfolding seeded_refusal
refusals = refl
