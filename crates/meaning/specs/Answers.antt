-- What an operation answers and what it leaves in its buffers: SPECIFICATION 9. An operation's refusal is a definition
-- of the plate and the sizes that it was given; 0 is no refusal.
use Rattle.std.specs.Prelude.{Bool, not, ◌&&◌, ◌||◌, List, ◌++◌, ℕ, ◌-◌, ◌*◌, eqb, leb, ltb, length, drop, replicate}
use Rattle.meaning.specs.Sets.{pick, some}
use Rattle.meaning.specs.Opening.{side_fits}
use Rattle.meaning.specs.Plate.{grid_fits, connectivity_fits, greatest_fits, grey}

-- the number where the condition is met, else what the later conditions give
abbrev pub refuse : Bool → ℕ → ℕ → ℕ
refuse met number later = pick met number later

-- an output after its answer was written: the answer, and then the excess untouched
abbrev pub over : List ℕ → List ℕ → List ℕ
over answer out = answer ++ drop (length answer) out

-- an output: written where nothing was refused, else untouched
abbrev pub out_after : ℕ → List ℕ → List ℕ → List ℕ
out_after refusal answer out = pick (eqb refusal 0) (over answer out) out

-- the work space: where the work began its first 8 × pixels entries are zero, and later ones untouched; else all is untouched
abbrev pub work_after : Bool → ℕ → List ℕ → List ℕ
work_after began pixels work = pick began (replicate (8 * pixels) 0 ++ drop (8 * pixels) work) work

-- ---- the conditions that several operations share. k: connectivity, w: width, h: height, M: greatest grey, f: the plate; out, counts, losses,
-- work: lengths of what was lent

-- 26 side neither light nor dark
abbrev pub side_refusal : ℕ → ℕ → ℕ
side_refusal side later = refuse (not (side_fits side)) 26 later

-- 29 greatest grey not 1 to 65,535
abbrev pub greatest_refusal : ℕ → ℕ → ℕ
greatest_refusal M later = refuse (not (greatest_fits M)) 29 later

-- 28 a pixel above the greatest grey
unfoldable pub any_above : ℕ → List ℕ → Bool
unfolding some
any_above M f = some (length f) (λ (p : ℕ). ltb M (grey f p))

abbrev pub greys_refusal : ℕ → List ℕ → ℕ → ℕ
greys_refusal M f later = refuse (any_above M f) 28 later

-- 2 width or height or pixels beyond the grid; 29; 3 plate length not the pixels; 28
abbrev pub image_refusal : ℕ → ℕ → ℕ → List ℕ → ℕ → ℕ
image_refusal w h M f later =
    refuse (not (grid_fits w h)) 2 (greatest_refusal M (refuse (not (eqb (length f) (w * h))) 3 (greys_refusal M f later)))

-- 1 connectivity not 4, 6 or 8; then the same
abbrev pub plate_refusal : ℕ → ℕ → ℕ → ℕ → List ℕ → ℕ → ℕ
plate_refusal k w h M f later = refuse (not (connectivity_fits k)) 1 (image_refusal w h M f later)

-- 4 limit 0 or above the pixels
abbrev pub limit_refusal : ℕ → ℕ → ℕ → ℕ
limit_refusal pixels limit later = refuse (not (leb 1 limit && leb limit pixels)) 4 later

-- 5 output shorter than what it is to hold
abbrev pub out_refusal : ℕ → ℕ → ℕ → ℕ
out_refusal needed out later = refuse (ltb out needed) 5 later

-- 5 either table of the size list shorter than pixels - 1
abbrev pub tables_refusal : ℕ → ℕ → ℕ → ℕ → ℕ
tables_refusal pixels counts losses later = out_refusal (pixels - 1) counts (out_refusal (pixels - 1) losses later)

-- 6 work space shorter than 8 × pixels
abbrev pub work_refusal : ℕ → ℕ → ℕ → ℕ
work_refusal pixels work later = refuse (ltb work (8 * pixels)) 6 later

-- ---- operation by operation

-- a plate, a limit and an output of as many pixels: 1, 2, 29, 3, 28, 4, 5, 6
unfoldable pub filter_refusal : ℕ → ℕ → ℕ → ℕ → ℕ → List ℕ → ℕ → ℕ → ℕ
unfolding connectivity_fits grid_fits greatest_fits any_above
filter_refusal k w h M limit f out work =
    plate_refusal k w h M f (limit_refusal (w * h) limit (out_refusal (w * h) out (work_refusal (w * h) work 0)))

-- cleaning: 26, then the same
unfoldable pub clean_refusal : ℕ → ℕ → ℕ → ℕ → ℕ → ℕ → List ℕ → ℕ → ℕ → ℕ
unfolding side_fits filter_refusal
clean_refusal side k w h M limit f out work = side_refusal side (filter_refusal k w h M limit f out work)

-- marking maxima: 1, 2, 29, 3, 28, 5, 6
unfoldable pub maxima_refusal : ℕ → ℕ → ℕ → ℕ → List ℕ → ℕ → ℕ → ℕ
unfolding connectivity_fits grid_fits greatest_fits any_above
maxima_refusal k w h M f out work = plate_refusal k w h M f (out_refusal (w * h) out (work_refusal (w * h) work 0))

-- node list, writing a record: 1, 2, 29, 3, 28, 6, then 5 when the answer needs more places than were lent
unfoldable pub tree_refusal : ℕ → ℕ → ℕ → ℕ → List ℕ → ℕ → ℕ → ℕ → ℕ
unfolding connectivity_fits grid_fits greatest_fits any_above
tree_refusal k w h M f needed out work = plate_refusal k w h M f (work_refusal (w * h) work (out_refusal needed out 0))

-- the ink percentage: 29, then 28
unfoldable pub ink_refusal : ℕ → ℕ → ℕ
unfolding greatest_fits
ink_refusal M g = greatest_refusal M (refuse (ltb M g) 28 0)

-- where the work of an operation whose last condition is 5 began
abbrev pub began : ℕ → Bool
began refusal = eqb refusal 0 || eqb refusal 5
