-- the examples and the slips of SPECIFICATION 10, computed from the definitions.
use mathlib.Core.Path.{◌≡◌, refl}
use mathlib.Core.Bool.{Bool, true, false, ◌&&◌}
use mathlib.Core.List.{List, [], ◌∷◌, ◌++◌, map}
use Prim.Native.Nat.{ℕ, suc, ◌+◌, ◌-◌, ◌*◌}
use lib.Dec.{leb, ltb}
use lib.ListN.{drop, set, take}
use Rattle.meaning.specs.Sets.{area, table}
use Rattle.meaning.specs.Plate.{greatest_fits, byte_greatest, lightest, max_greatest, negative, on_trim_edge}
use Rattle.meaning.specs.Opening.{opened, cleaned, light_side, dark_side, at_least, attribute, reaches}
use Rattle.meaning.specs.Maxima.{marks}
use Rattle.meaning.specs.Nodes.{nodes_of}
use Rattle.meaning.specs.Cut.{cut, counts, losses, held, total, darkest}
use Rattle.meaning.specs.Record.{old_record_of, record_of, encode}
use Rattle.meaning.specs.Ink.{rounded, ink_of}
use Rattle.meaning.specs.Answers.{clean_refusal, filter_refusal, ink_refusal, maxima_refusal, tree_refusal}
use Rattle.meaning.specs.Examples.{small, pair, run, worked_cases, Case, diagonals, edges, neighbours, steps, places, borders, by_corner, trim_edge}

-- the greatest grey of the small plate
abbrev M : ℕ
M = byte_greatest

-- every worked case of SPECIFICATION 10
pub marked_hold : map (λ (c : Case). run c.job) worked_cases ≡ map (λ (c : Case). c.answer) worked_cases
unfolding run
marked_hold = refl

-- the small plate's record in the old form is the 27 bytes of SPECIFICATION 10, and the new one has 0 2 255 1 in front
abbrev small27 : List ℕ
small27 = 4 ∷ 3 ∷ 4 ∷ 4 ∷ 10 ∷ 12 ∷ 1 ∷ 20 ∷ 2 ∷ 1 ∷ 20 ∷ 1 ∷ 3 ∷ 80 ∷ 1 ∷ 0 ∷ 0 ∷ 0 ∷ 0 ∷ 0 ∷ 2 ∷ 1 ∷ 0 ∷ 0 ∷ 0 ∷ 0 ∷ 3 ∷ []

pub record_27 : old_record_of 4 4 3 small ≡ small27
unfolding old_record_of
record_27 = refl

pub record_31 : record_of 4 4 3 M small ≡ 0 ∷ 2 ∷ 255 ∷ 1 ∷ small27
unfolding record_of
record_31 = refl

-- the record of one pixel of the greatest grey: the root's level takes three bytes, as the greatest grey does
pub record_16 : record_of 8 1 1 max_greatest (max_greatest ∷ [])
    ≡ 0 ∷ 2 ∷ 255 ∷ 255 ∷ 3 ∷ 1 ∷ 1 ∷ 8 ∷ 1 ∷ 255 ∷ 255 ∷ 3 ∷ 1 ∷ 0 ∷ []
unfolding record_of
record_16 = refl

-- a number of several groups
pub groups_300 : encode (300 ∷ 127 ∷ 128 ∷ 4294967295 ∷ []) ≡ 172 ∷ 2 ∷ 127 ∷ 128 ∷ 1 ∷ 255 ∷ 255 ∷ 255 ∷ 255 ∷ 15 ∷ []
unfolding encode
groups_300 = refl

-- its size list is what sizelist prints: off the trim edge 1 node of area 1 loses 20, 1 node of area 2 loses 40; 80 are held, and the darkest grey is 10
pub small-counts : counts 4 4 3 small ≡ 1 ∷ 1 ∷ 0 ∷ 0 ∷ 0 ∷ 0 ∷ 0 ∷ 0 ∷ 0 ∷ 0 ∷ 0 ∷ []
unfolding counts
small-counts = refl

pub small-losses : losses 4 4 3 small ≡ 20 ∷ 40 ∷ 0 ∷ 0 ∷ 0 ∷ 0 ∷ 0 ∷ 0 ∷ 0 ∷ 0 ∷ 0 ∷ []
unfolding losses
small-losses = refl

pub small_figures : total small ∷ held 4 4 3 small ∷ darkest small ∷ [] ≡ 260 ∷ 80 ∷ 10 ∷ []
unfolding total held darkest
small_figures = refl

pub small-marks : marks 4 4 small ≡ 0 ∷ 0 ∷ 0 ∷ 0 ∷ 0 ∷ 1 ∷ 0 ∷ 0 ∷ 0 ∷ 0 ∷ 0 ∷ 1 ∷ []
unfolding marks
small-marks = refl

pub small_cut : cut 4 4 3 2 small ≡ pair
unfolding cut
small_cut = refl

-- ---- the three kinds of connectivity

-- the neighbours of the pixel in the middle
pub middle-four : neighbours 4 4 ≡ 0 ∷ 1 ∷ 0 ∷ 1 ∷ 0 ∷ 1 ∷ 0 ∷ 1 ∷ 0 ∷ []
unfolding neighbours
middle-four = refl

pub middle_six : neighbours 6 4 ≡ 1 ∷ 1 ∷ 0 ∷ 1 ∷ 0 ∷ 1 ∷ 0 ∷ 1 ∷ 1 ∷ []
unfolding neighbours
middle_six = refl

pub middle_eight : neighbours 8 4 ≡ 1 ∷ 1 ∷ 1 ∷ 1 ∷ 0 ∷ 1 ∷ 1 ∷ 1 ∷ 1 ∷ []
unfolding neighbours
middle_eight = refl

-- with 6 no diagonal leads round the left or the right border: pixels 2 and 6 are 4 apart in the list, as a pixel and its lower right are
pub corner_six : neighbours 6 2 ∷ neighbours 6 6 ∷ []
    ≡ (0 ∷ 1 ∷ 0 ∷ 0 ∷ 0 ∷ 1 ∷ 0 ∷ 0 ∷ 0 ∷ []) ∷ (0 ∷ 0 ∷ 0 ∷ 1 ∷ 0 ∷ 0 ∷ 0 ∷ 1 ∷ 0 ∷ []) ∷ []
unfolding neighbours
corner_six = refl

-- the pixels off the trim edge of seven columns and four rows
abbrev inner : List ℕ → List ℕ
inner f = take 5 (drop 8 f) ++ take 5 (drop 15 f)

-- cleaned at limit 2, and its regional maxima marked, the plate with a pair on each diagonal differs with 4, 6 and 8
pub diagonals-cleaned : inner (cleaned light_side 4 7 4 M 2 diagonals) ∷ inner (cleaned light_side 6 7 4 M 2 diagonals)
    ∷ inner (cleaned light_side 8 7 4 M 2 diagonals) ∷ []
    ≡ (0 ∷ 0 ∷ 0 ∷ 0 ∷ 0 ∷ 0 ∷ 0 ∷ 0 ∷ 0 ∷ 0 ∷ [])
    ∷ (8 ∷ 0 ∷ 0 ∷ 0 ∷ 0 ∷ 0 ∷ 8 ∷ 0 ∷ 0 ∷ 0 ∷ [])
    ∷ (8 ∷ 0 ∷ 0 ∷ 0 ∷ 8 ∷ 0 ∷ 8 ∷ 0 ∷ 8 ∷ 0 ∷ [])
    ∷ []
unfolding cleaned
diagonals-cleaned = refl

pub diagonals-marks : inner (marks 4 7 diagonals) ∷ inner (marks 6 7 diagonals) ∷ inner (marks 8 7 diagonals) ∷ []
    ≡ (1 ∷ 0 ∷ 0 ∷ 0 ∷ 1 ∷ 0 ∷ 1 ∷ 0 ∷ 1 ∷ 0 ∷ [])
    ∷ (1 ∷ 0 ∷ 0 ∷ 0 ∷ 1 ∷ 0 ∷ 0 ∷ 0 ∷ 1 ∷ 0 ∷ [])
    ∷ (1 ∷ 0 ∷ 0 ∷ 0 ∷ 1 ∷ 0 ∷ 0 ∷ 0 ∷ 0 ∷ 0 ∷ [])
    ∷ []
unfolding marks
diagonals-marks = refl

-- the dark side on the negative
pub diagonals_dark : cleaned dark_side 6 7 4 M 2 (negative M diagonals) ≡ negative M (cleaned light_side 6 7 4 M 2 diagonals)
unfolding cleaned negative
diagonals_dark = refl

-- ---- the slips

-- nothing wraps round an edge, with 4, 6 or 8: the two light pixels are two nodes
pub no_wrap : nodes_of 4 3 edges ∷ nodes_of 6 3 edges ∷ nodes_of 8 3 edges ∷ []
    ≡ (0 ∷ 2 ∷ 3 ∷ []) ∷ (0 ∷ 2 ∷ 3 ∷ []) ∷ (0 ∷ 2 ∷ 3 ∷ []) ∷ []
unfolding nodes_of
no_wrap = refl

-- a maximum sinks as far as it must
pub sinks_on : take 5 (drop 8 (opened 4 7 3 3 steps)) ∷ take 5 (drop 8 (opened 4 7 3 4 steps)) ∷ []
    ≡ (10 ∷ 30 ∷ 30 ∷ 30 ∷ 10 ∷ []) ∷ (10 ∷ 10 ∷ 10 ∷ 10 ∷ 10 ∷ []) ∷ []
unfolding opened
sinks_on = refl

-- parts of one grey in several places are several nodes
pub apart-nodes : nodes_of 4 7 places ≡ 0 ∷ 8 ∷ 10 ∷ 12 ∷ []
unfolding nodes_of
apart-nodes = refl

-- a patch of 65,536 pixels off the trim edge qualifies at the limit 65,536, and not at 65,537
pub large_patch : (w h : ℕ) (s : ℕ → Bool) → reaches (w * h) (on_trim_edge w h) s ≡ false → area (w * h) s ≡ 65536
    → at_least (attribute w h) 65536 s ∷ at_least (attribute w h) 65537 s ∷ [] ≡ true ∷ false ∷ []
large_patch w h s off e = rw (off, e)

-- ---- the trim edge

pub trim_edges : trim_edge 4 3 ∷ trim_edge 1 2 ∷ trim_edge 3 1 ∷ []
    ≡ (1 ∷ 1 ∷ 1 ∷ 1 ∷ 1 ∷ 0 ∷ 0 ∷ 1 ∷ 1 ∷ 1 ∷ 1 ∷ 1 ∷ []) ∷ (1 ∷ 1 ∷ []) ∷ (1 ∷ 1 ∷ 1 ∷ []) ∷ []
unfolding trim_edge
trim_edges = refl

-- a patch on any border of the sheet stays, light or dark; the one in the middle goes
pub borders_stay : cleaned light_side 4 5 5 M 25 borders ∷ cleaned dark_side 4 5 5 M 2 (negative M borders) ∷ []
    ≡ set borders 12 0 ∷ negative M (set borders 12 0) ∷ []
unfolding cleaned negative
borders_stay = refl

-- a pixel off the edge that has one of the edge at its corner reaches it only where corners touch
pub corner-reaches : cleaned light_side 4 4 4 M 2 by_corner ∷ cleaned light_side 6 4 4 M 2 by_corner ∷ [] ≡ set by_corner 9 0 ∷ by_corner ∷ []
unfolding cleaned
corner-reaches = refl

-- ---- ink and refusals

-- 4/10, 5/10 and 6/10; 1/2 and 3/2, and 7/3: halves go up
pub halves_up : rounded 4 10 ∷ rounded 5 10 ∷ rounded 6 10 ∷ rounded 1 2 ∷ rounded 3 2 ∷ rounded 7 3 ∷ [] ≡ 0 ∷ 1 ∷ 1 ∷ 1 ∷ 2 ∷ 2 ∷ []
unfolding rounded
halves_up = refl

-- the ink percentage is the nearest whole number, for each grey up to 255 and up to 200, where ties occur
abbrev nearest : ℕ → ℕ → Bool
nearest m g = leb (2 * (m * ink_of m g)) (2 * ((m - g) * 100) + m) && ltb (2 * ((m - g) * 100)) (2 * (m * ink_of m g) + m)

pub ink_nearest : table 256 (nearest M) ++ table 201 (nearest 200) ≡ table 457 (λ (g : ℕ). true)
unfolding table ink_of
ink_nearest = refl

pub ink_rest : ink_of M 10 ∷ ink_of M 7 ∷ [] ≡ 96 ∷ 97 ∷ []
unfolding ink_of
ink_rest = refl

-- with other greatest greys: bare paper and full ink, the halves 99 1/2 and 1/2, and 10 out of 65,535
pub ink_other : ink_of 1 0 ∷ ink_of 1 1 ∷ ink_of 200 1 ∷ ink_of 200 199 ∷ ink_of max_greatest 0 ∷ ink_of max_greatest 10 ∷ ink_of max_greatest max_greatest ∷ []
    ≡ 100 ∷ 0 ∷ 100 ∷ 1 ∷ 100 ∷ 100 ∷ 0 ∷ []
unfolding ink_of
ink_other = refl

-- the small plate without its first pixel
abbrev short : List ℕ
short = drop 1 small

-- limits 0 and 13 give 4; each other condition, with all later ones met too; nothing refused
pub refusals : filter_refusal 4 4 3 M 0 small 12 96 ∷ filter_refusal 4 4 3 M 13 small 12 96
    ∷ filter_refusal 5 0 3 0 0 short 0 0 ∷ filter_refusal 7 0 3 0 0 short 0 0 ∷ filter_refusal 6 0 3 0 0 short 0 0 ∷ filter_refusal 8 0 3 0 0 short 0 0
    ∷ filter_refusal 8 4 3 0 0 short 0 0 ∷ filter_refusal 8 4 3 89 0 short 0 0 ∷ filter_refusal 8 4 3 89 0 small 0 0
    ∷ filter_refusal 8 4 3 90 12 small 11 95 ∷ filter_refusal 8 4 3 90 12 small 12 95 ∷ filter_refusal 8 4 3 90 12 small 12 96
    ∷ filter_refusal 6 4 3 M 12 small 12 96 ∷ []
    ≡ 4 ∷ 4 ∷ 1 ∷ 1 ∷ 2 ∷ 2 ∷ 29 ∷ 3 ∷ 28 ∷ 5 ∷ 6 ∷ 0 ∷ 0 ∷ []
unfolding filter_refusal
refusals = refl

pub further_refusals : maxima_refusal 4 4 3 0 short 11 0 ∷ maxima_refusal 4 4 3 89 small 11 0 ∷ maxima_refusal 4 4 3 M small 11 0
    ∷ tree_refusal 4 4 3 0 short 4 3 95 ∷ tree_refusal 4 4 3 89 small 4 3 95 ∷ tree_refusal 4 4 3 M small 4 3 95 ∷ tree_refusal 4 4 3 M small 4 3 96 ∷ []
    ≡ 29 ∷ 28 ∷ 5 ∷ 29 ∷ 28 ∷ 6 ∷ 5 ∷ []
unfolding maxima_refusal tree_refusal
further_refusals = refl

-- the greatest grey from below and from above; 29 comes ahead of 28
pub ink_refusals : ink_refusal 0 1 ∷ ink_refusal (suc max_greatest) 0 ∷ ink_refusal 254 255 ∷ ink_refusal 255 255 ∷ ink_refusal max_greatest max_greatest ∷ []
    ≡ 29 ∷ 29 ∷ 28 ∷ 0 ∷ 0 ∷ []
unfolding ink_refusal
ink_refusals = refl

-- sides 0 and 3 give 26, with all later conditions met too or none; sides 1 and 2 leave it to the later ones
pub side_refusals : clean_refusal 0 5 0 3 0 0 short 0 0 ∷ clean_refusal 3 5 0 3 0 0 short 0 0
    ∷ clean_refusal 0 4 4 3 M 12 small 12 96 ∷ clean_refusal 3 4 4 3 M 12 small 12 96
    ∷ clean_refusal 1 5 0 3 0 0 short 0 0 ∷ clean_refusal 2 5 0 3 0 0 short 0 0
    ∷ clean_refusal 1 4 4 3 M 12 small 12 96 ∷ clean_refusal 2 4 4 3 M 12 small 12 96 ∷ []
    ≡ 26 ∷ 26 ∷ 26 ∷ 26 ∷ 1 ∷ 1 ∷ 0 ∷ 0 ∷ []
unfolding clean_refusal
side_refusals = refl

-- the dark side on the negative gives the negative of the light side
pub light_and_dark : cleaned dark_side 4 4 3 M 2 (negative M small) ≡ negative M (cleaned light_side 4 4 3 M 2 small)
unfolding cleaned negative
light_and_dark = refl

-- also with the greatest grey that there may be
pub light_and_dark_16 : cleaned dark_side 4 4 3 max_greatest 2 (negative max_greatest small) ≡ negative max_greatest (cleaned light_side 4 4 3 max_greatest 2 small)
unfolding cleaned negative
light_and_dark_16 = refl

-- ---- the range of greys

-- the greatest grey is 1 to 65,535; the small plate's lightest grey is 90
pub greatest_greys : greatest_fits 0 ∷ greatest_fits 1 ∷ greatest_fits M ∷ greatest_fits max_greatest ∷ greatest_fits (suc max_greatest) ∷ []
    ≡ false ∷ true ∷ true ∷ true ∷ false ∷ []
unfolding greatest_fits
greatest_greys = refl

pub small-lightest : lightest small ≡ 90
unfolding lightest
small-lightest = refl
