-- The contracts of the operations on plates: the refusal, the outputs and the work space, each as an equation; and what is not refused is an accepted
-- plate. k: connectivity, w: width, h: height, M: greatest grey, f: the plate; out, work: the buffers as they were lent, out', work': as they are left;
-- r: what was returned.
use Rattle.std.specs.Prelude.{◌≡◌, Bool, List, ℕ, ◌*◌, ◌≤◌, min, eqb, length}
use Rattle.meaning.specs.Answers.{clean_refusal, maxima_refusal, out_after, over, work_after}
use Rattle.meaning.specs.Maxima.{marks}
use Rattle.meaning.specs.Nodes.{area_of, level_of, nodes_of, parent}
use Rattle.meaning.specs.Opening.{cleaned}
use Rattle.meaning.specs.Plate.{Plate, grey, touch}
use Rattle.meaning.specs.Sets.{nth, table}
use Rattle.work_columns.specs.Columns.{Room, col}
use Rattle.work_columns.specs.Layout.{ANCHOR, AREA, LEVEL, PARENT}
use Rattle.plate_tree.specs.Listing.{ListAnswered}

-- ---- operations with one output, a number for each pixel, all of whose refusals precede any work

-- refusal, answer: what the definitions give
pub record PlateAnswered (k w h M : ℕ) (f : List ℕ) (refusal : ℕ) (answer out out' work work' : List ℕ) (r : ℕ) : Type 0 where
  pub number : r ≡ refusal
  pub output : out' ≡ out_after r answer out
  pub space : work' ≡ work_after (eqb r 0) (w * h) work
  pub accepted : r ≡ 0 → Plate k w h M f

-- cleaning on a side at a limit
abbrev pub Cleaned : (side k w h M limit : ℕ) (f out out' work work' : List ℕ) (r : ℕ) → Type 0
Cleaned side k w h M limit f out out' work work' r =
    PlateAnswered k w h M f (clean_refusal side k w h M limit f (length out) (length work)) (cleaned side k w h M limit f) out out' work work' r

-- marking the regional maxima
abbrev pub MaximaMarked : (k w h M : ℕ) (f out out' work work' : List ℕ) (r : ℕ) → Type 0
MaximaMarked k w h M f out out' work work' r =
    PlateAnswered k w h M f (maxima_refusal k w h M f (length out) (length work)) (marks k w f) out out' work work' r

-- ---- the node list: one output for each column

-- as many places as the shortest of the four has
abbrev pub shortest : ℕ → ℕ → ℕ → ℕ → ℕ
shortest a b c d = min (min a b) (min c d)

-- a column of the node list: the values of all nodes
unfoldable pub column : ℕ → ℕ → List ℕ → ((n : ℕ) (near : ℕ → ℕ → Bool) (f : ℕ → ℕ) (xs : List ℕ) → ℕ → ℕ) → List ℕ
column k w f of = table (length (nodes_of k w f)) (of (length f) (touch k w) (grey f) (nodes_of k w f))

-- the number of the pixel that is node i's anchor
abbrev pub anchor_of : (n : ℕ) (near : ℕ → ℕ → Bool) (f : ℕ → ℕ) (xs : List ℕ) → ℕ → ℕ
anchor_of n near f xs i = nth xs i

-- the four outputs
pub record Columns : Type 0 where
  pub levels : List ℕ
  pub parents : List ℕ
  pub areas : List ℕ
  pub anchors : List ℕ

abbrev pub columns : List ℕ → List ℕ → List ℕ → List ℕ → Columns
columns levels parents areas anchors = record { levels = levels; parents = parents; areas = areas; anchors = anchors }

-- the places of the shortest of them
abbrev pub places_of : Columns → ℕ
places_of out = shortest (length out.levels) (length out.parents) (length out.areas) (length out.anchors)

pub record NodesListed (k w h M : ℕ) (f : List ℕ) (out out' : Columns) (work work' : List ℕ) (refusal count : ℕ) : Type 0 where
  pub answer : ListAnswered k w h M f (places_of out) work work' refusal count
  pub levels : out'.levels ≡ out_after refusal (column k w f level_of) out.levels
  pub parents : out'.parents ≡ out_after refusal (column k w f parent) out.parents
  pub areas : out'.areas ≡ out_after refusal (column k w f area_of) out.areas
  pub anchors : out'.anchors ≡ out_after refusal (column k w f anchor_of) out.anchors

-- ---- writing the four columns of the nodes in the work space w

pub record Lent (n count : ℕ) (w : List ℕ) (out : Columns) : Type 0 where
  pub room : Room w n
  pub few : count ≤ n
  pub places : count ≤ places_of out

pub record ColumnsWritten (n count : ℕ) (w : List ℕ) (out out' : Columns) : Type 0 where
  pub levels : out'.levels ≡ over (table count (col LEVEL n w)) out.levels
  pub parents : out'.parents ≡ over (table count (col PARENT n w)) out.parents
  pub areas : out'.areas ≡ over (table count (col AREA n w)) out.areas
  pub anchors : out'.anchors ≡ over (table count (col ANCHOR n w)) out.anchors
