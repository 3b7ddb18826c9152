-- Node entries, and what the node list leaves in a lent list of them.
use Rattle.std.specs.Prelude.{◌≡◌, Bool, List, ◌++◌, ℕ, ◌≤◌, ◌<◌, eqb, length, drop}
use Rattle.meaning.specs.Nodes.{area_of, level_of, nodes_of, parent}
use Rattle.meaning.specs.Plate.{grey, touch}
use Rattle.meaning.specs.Sets.{nth, pick, table}
use Rattle.work_columns.specs.Columns.{Room, col}
use Rattle.work_columns.specs.Layout.{ANCHOR, AREA, LEVEL, PARENT}
use Rattle.plate_tree.specs.Listing.{ListAnswered}
use Rattle.plate_entries.specs.declared.Node.{Node}

abbrev pub entry : ℕ → ℕ → ℕ → ℕ → Node
entry level parent area anchor = record { level = level; parent = parent; area = area; anchor = anchor }

-- what stands beyond the end of a list
abbrev pub none : Node
none = entry 0 0 0 0

-- a list after entries were written at its start: the entries, and then the excess untouched
abbrev pub over_nodes : List Node → List Node → List Node
over_nodes entries list = entries ++ drop (length entries) list

-- ---- the node list of the plate f, of connectivity k and width w

-- node i: n is the number of pixels, xs are the anchors
abbrev pub node_entry : (n : ℕ) (near : ℕ → ℕ → Bool) (f : ℕ → ℕ) (xs : List ℕ) → ℕ → Node
node_entry n near f xs i = entry (level_of n near f xs i) (parent n near f xs i) (area_of n near f xs i) (nth xs i)

-- all nodes
unfoldable pub entries : ℕ → ℕ → List ℕ → List Node
entries k w f = table (length (nodes_of k w f)) (node_entry (length f) (touch k w) (grey f) (nodes_of k w f))

-- h: the height, M: the greatest grey; list and work as they were lent, list' and work' as they are left
pub record EntriesListed (k w h M : ℕ) (f : List ℕ) (list list' : List Node) (work work' : List ℕ) (refusal count : ℕ) : Type 0 where
  pub answer : ListAnswered k w h M f (length list) work work' refusal count
  pub nodes : list' ≡ pick (eqb refusal 0) (over_nodes (entries k w f) list) list

-- ---- filling a list from the columns of n entries in the work space w

-- the entry of node i
unfoldable pub standing : ℕ → List ℕ → ℕ → Node
standing n w i = entry (col LEVEL n w i) (col PARENT n w i) (col AREA n w i) (col ANCHOR n w i)

pub record Fillable (n count : ℕ) (w : List ℕ) (list : List Node) : Type 0 where
  pub room : 0 < count → Room w n
  pub few : count ≤ n
  pub places : count ≤ length list
