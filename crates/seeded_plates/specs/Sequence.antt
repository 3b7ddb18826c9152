-- The test plate of a seed (SPECIFICATION 5), and when it is refused (9). s: a state; w: width, h: height.
use Rattle.std.specs.Prelude.{ℕ, zero, suc, ◌+◌, ◌*◌, ◌/◌, ◌%◌, ◌^◌, not, List, [], ◌∷◌}
use Rattle.meaning.specs.Plate.{grid_fits}
use Rattle.meaning.specs.Answers.{out_refusal, refuse}

-- one step: the state times 1,664,525 plus 1,013,904,223, wrapped to 32 bits
unfoldable pub next_state : ℕ → ℕ
next_state s = (s * 1664525 + 1013904223) % 2 ^ 32

-- the top eight of a state's 32 bits
unfoldable pub top_eight : ℕ → ℕ
top_eight s = s / 2 ^ 24

-- so many greys from a state on: each is the new state's top eight bits
unfoldable pub greys_from : ℕ → ℕ → List ℕ
unfolding next_state top_eight
greys_from zero s = []
greys_from (suc n) s = top_eight (next_state s) ∷ greys_from n (next_state s)

-- the plate of a seed, row by row; its greatest grey is 255
unfoldable pub seeded_plate : ℕ → ℕ → ℕ → List ℕ
unfolding greys_from
seeded_plate seed w h = greys_from (w * h) seed

-- 2, then 5 when the output's length, `room`, is below the pixels
unfoldable pub seeded_refusal : ℕ → ℕ → ℕ → ℕ
unfolding grid_fits
seeded_refusal w h room = refuse (not (grid_fits w h)) 2 (out_refusal (w * h) room 0)
