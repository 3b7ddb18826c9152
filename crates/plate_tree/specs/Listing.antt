-- What a node list answers, and what it is started from. k: connectivity, w: width, h: height, M: greatest grey, f: the plate;
-- places: as many as its nodes may take.
use Rattle.std.specs.Prelude.{◌≡◌, false, List, ℕ, ◌*◌, ◌≤◌, eqb, length, Result, Ok, Err}
use Rattle.meaning.specs.Answers.{began, tree_refusal, work_after}
use Rattle.meaning.specs.Nodes.{nodes_of}
use Rattle.meaning.specs.Plate.{Plate}
use Rattle.meaning.specs.Sets.{pick}
use Rattle.work_columns.specs.Layout.{shape_of}
use Rattle.refusals.specs.declared.Refusal.{Refusal}
use Rattle.refusals.specs.Numbers.{refusal_of}
use Rattle.plate_tree.specs.declared.NodeList.{NodeList}
use Rattle.plate_tree.specs.PlateTree.{PlateTree}

-- 1, 2, 29, 3, 28, 6, then 5 where there are fewer places than nodes
unfoldable pub node_list_refusal : ℕ → ℕ → ℕ → ℕ → List ℕ → ℕ → ℕ → ℕ
node_list_refusal k w h M f places work = tree_refusal k w h M f (length (nodes_of k w f)) places work

-- the number of nodes; 0 on a refusal
abbrev pub node_count : ℕ → ℕ → List ℕ → ℕ → ℕ
node_count k w f refusal = pick (eqb refusal 0) (length (nodes_of k w f)) 0

-- a node list but for its entries: the refusal, the count, the work space; and what is not refused is an accepted plate
pub record ListAnswered (k w h M : ℕ) (f : List ℕ) (places : ℕ) (work work' : List ℕ) (refusal count : ℕ) : Type 0 where
  pub number : refusal ≡ node_list_refusal k w h M f places (length work)
  pub counted : count ≡ node_count k w f refusal
  pub space : work' ≡ work_after (began refusal) (w * h) work
  pub accepted : refusal ≡ 0 → Plate k w h M f

-- the list is started: the tree of the plate stands in the work space, or the list is refused and the work space left as SPECIFICATION 9 says
pub record Started (k w h M : ℕ) (f : List ℕ) (places : ℕ) (work work' : List ℕ) (refusal count : ℕ) : Type 0 where
  pub number : refusal ≡ node_list_refusal k w h M f places (length work)
  pub counted : count ≡ node_count k w f refusal
  pub fits : count ≤ places
  pub stopped : (refusal ≡ 0 → ⊥) → work' ≡ work_after (began refusal) (w * h) work
  pub tree_stands : refusal ≡ 0 → PlateTree false (shape_of (length f) w h M k) f work work' count

-- ---- the answer of an operation that lists nodes

-- the number of nodes in it; 0 in a refusal
abbrev pub count_of : Result ℕ Refusal → ℕ
count_of (Ok count) = count
count_of (Err refusal) = 0

-- the same for C: its refusal's number, and the number of nodes
abbrev pub Answers : Result ℕ Refusal → NodeList → Type 0
Answers answer list = (list.refusal ≡ refusal_of answer) × (list.count ≡ count_of answer)
