-- What the answers of this crate's functions say, and what they leave in the work space. n: the pixels; M: the greatest grey;
-- w, w': the work space before and after.
use Rattle.std.specs.Prelude.{◌≡◌, Bool, List, ℕ, suc, ◌-◌, ◌*◌, ◌≤◌, ◌<◌, Result, Ok, Err, OnOk}
use Rattle.record_parse.specs.declared.RecordHead.{RecordHead}
use Rattle.record_parse.specs.declared.Unread.{Unread}
use Rattle.record_parse.specs.declared.Unread.TheVariants.{Early, Late}
use Rattle.refusals.specs.Numbers.{number_of}
use Rattle.refusals.specs.declared.Refusal.{Refusal}
use Rattle.record_varint.specs.Field.{Refuses}
use Rattle.record_varint.specs.declared.Fault.{Fault}
use Rattle.meaning.specs.Sets.{table}
use Rattle.work_columns.specs.Columns.{Frame, Room, col}
use Rattle.work_columns.specs.Layout.{LEVEL, greys_in}
use Rattle.record_parse.specs.Parse.{Parsed, Values, bad, early, from_root, good, greys_from, late, levels_from, plate}

-- ---- the record

-- an answer in the specification's terms: the number of the refusal, with the pixels where work had begun; else the plate of that width, height,
-- greatest grey and connectivity whose greys stand in the work space w
abbrev pub parsed_by : Result RecordHead Unread → List ℕ → Parsed
parsed_by (Ok r) w = plate r.new r.plate.connectivity r.plate.width r.plate.height r.plate.greatest (greys_in (r.plate.width * r.plate.height) w)
parsed_by (Err (Early refusal)) w = early (number_of refusal)
parsed_by (Err (Late refusal pixels)) w = late (number_of refusal) pixels

-- what it leaves in the work space: all as it was where no work had begun, else changes in the eight columns only
abbrev pub ParsedWork : Result RecordHead Unread → List ℕ → List ℕ → Type 0
ParsedWork (Ok r) w w' = Room w (r.plate.width * r.plate.height) × Frame (r.plate.width * r.plate.height) w w'
ParsedWork (Err (Early refusal)) w w' = w' ≡ w
ParsedWork (Err (Late refusal pixels)) w w' = Room w pixels × Frame pixels w w'

-- the answer of reading bytes that spell P
abbrev pub Spells : Parsed → List ℕ → List ℕ → Result RecordHead Unread → Type 0
Spells P w w' r = (parsed_by r w' ≡ P) × ParsedWork r w w'

-- a fault of a field ahead of 6 is an early refusal with the fault's number
abbrev pub RefusesEarly : Fault → Unread → Type 0
RefusesEarly fault (Early refusal) = Refuses fault refusal
RefusesEarly fault (Late refusal pixels) = ⊥

-- ---- fields

-- a step: it goes on from the position after it, or refuses with the specification's number
abbrev pub on_step : Result ℕ Refusal → (ℕ → Values) → Values
on_step (Ok next) go = go next
on_step (Err refusal) go = bad (number_of refusal)

-- the levels of the first `count` nodes, as they stand in the work space
abbrev pub levels_in : ℕ → List ℕ → ℕ → List ℕ
levels_in n w count = table count (col LEVEL n w)

-- the levels of the first `count` nodes are stored
pub record Known (n M : ℕ) (w : List ℕ) (count : ℕ) : Type 0 where
  pub room : Room w n
  pub some : 1 ≤ count
  pub most : count ≤ n
  pub levels : (j : ℕ) → j < count → col LEVEL n w j ≤ M

-- node i is read at the position `at`: the rest goes on with its level
pub record NodeRead (M : ℕ) (s : List ℕ) (at n : ℕ) (w w' : List ℕ) (i : ℕ) (r : Result ℕ Refusal) : Type 0 where
  pub frame : Frame n w w'
  pub known : OnOk r (Known n M w' (suc i))
  pub rest : (left : ℕ) → levels_from M s n (suc left) (levels_in n w i) at ≡ on_step r (levels_from M s n left (levels_in n w' (suc i)))

-- all nodes after the root are read
pub record NodesRead (M : ℕ) (s : List ℕ) (at n : ℕ) (w w' : List ℕ) (count : ℕ) (r : Result ℕ Refusal) : Type 0 where
  pub frame : Frame n w w'
  pub known : OnOk r (Known n M w' count)
  pub rest : levels_from M s n (count - 1) (levels_in n w 1) at ≡ on_step r (good (levels_in n w' count))

-- the own nodes are read
pub record GreysRead (s : List ℕ) (at n : ℕ) (w w' : List ℕ) (count : ℕ) (r : Result ℕ Refusal) : Type 0 where
  pub frame : Frame n w w'
  pub rest : greys_from s n (levels_in n w count) n at ≡ on_step r (good (greys_in n w'))

-- the tree is read: what follows the node count, for a plate of n pixels
abbrev pub tree_parsed : Result (Unit {0}) Refusal → (new : Bool) (k w h M : ℕ) → List ℕ → Parsed
tree_parsed (Ok u) new k w h M f = plate new k w h M f
tree_parsed (Err refusal) new k w h M f = late (number_of refusal) (w * h)

pub record TreeRead (M : ℕ) (s : List ℕ) (at n : ℕ) (w w' : List ℕ) (count : ℕ) (r : Result (Unit {0}) Refusal) : Type 0 where
  pub frame : Frame n w w'
  pub rest : (new : Bool) (k wd ht : ℕ) → wd * ht ≡ n → from_root new M s k wd ht count at ≡ tree_parsed r new k wd ht M (greys_in n w')
