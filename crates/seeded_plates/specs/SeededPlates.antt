-- Test plates, their files, and reading these back, as a claim over all seeds, sizes and buffers. It speaks of the definitions that the contracts of
-- `seeded_plate`, `write_pgm` and `read_pgm` equate with what they answer and leave in their outputs. w: width, h: height.
use Rattle.std.specs.Prelude.{◌≡◌, ℕ, zero, suc, ◌+◌, ◌*◌, ◌<◌, ◌≤◌, true, List, length, take}
use Rattle.meaning.specs.Plate.{Plate, byte_greatest, connectivity_fits, grey, grid_fits}
use Rattle.meaning.specs.Answers.{out_after}
use Rattle.pgm_write.specs.Writing.{pgm_of, write_pgm}
use Rattle.pgm_roundtrip.specs.PlateFiles.{ReadsAs}
use Rattle.seeded_plates.specs.Sequence.{next_state, seeded_plate, seeded_refusal, top_eight}

-- the state after so many steps from a seed
unfoldable pub state_after : ℕ → ℕ → ℕ
unfolding next_state
state_after zero seed = seed
state_after (suc n) seed = next_state (state_after n seed)

-- what is found in the front of an output after a test plate was generated
abbrev pub generated : (seed w h : ℕ) → List ℕ → List ℕ
generated seed w h out = take (w * h) (out_after (seeded_refusal w h (length out)) (seeded_plate seed w h) out)

-- and after the plate file of f, with greatest grey 255, was written
abbrev pub written_file : (w h : ℕ) → List ℕ → List ℕ → List ℕ
written_file w h f out = let r = write_pgm w h byte_greatest f (length out) in take r.length (out_after r.refusal (pgm_of w h byte_greatest f) out)

pub record SeededPlateClaim : Type 0 where
  -- the pixel in column x of row y is the top eight bits of the state after y × w + x + 1 steps: the state is carried over each row's end
  pub pixel : (seed w h x y : ℕ) → x < w → y < h → grey (seeded_plate seed w h) (y * w + x) ≡ top_eight (state_after (y * w + x + 1) seed)
  -- within the grid it is an accepted plate, with greatest grey 255 and any connectivity k
  pub plate : (seed k w h : ℕ) → connectivity_fits k ≡ true → grid_fits w h ≡ true → Plate k w h byte_greatest (seeded_plate seed w h)
  -- within the grid and given space it is generated, its file is written, and the plate read back from the file is the generated one
  pub back : (seed w h : ℕ) (out file : List ℕ) (room : ℕ) → grid_fits w h ≡ true → w * h ≤ length out
      → length (pgm_of w h byte_greatest (seeded_plate seed w h)) ≤ length file → w * h ≤ room
      → (generated seed w h out ≡ seeded_plate seed w h) × ReadsAs w h byte_greatest (generated seed w h out) (written_file w h (generated seed w h out) file) room
