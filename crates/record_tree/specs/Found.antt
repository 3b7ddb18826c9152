-- What reading a record finds, up to 24, and what it leaves in the work space. P: what reading the record finds by the specification; w, w': the work
-- space before and after.
use Rattle.std.specs.Prelude.{◌≡◌, true, List, ℕ, ◌*◌, ◌≤◌, length, Result, Ok, Err}
use Rattle.meaning.specs.Plate.{max_greatest}
use Rattle.meaning.specs.Answers.{work_after}
use Rattle.work_columns.specs.Columns.{Frame, Room}
use Rattle.work_columns.specs.Layout.{Greys, greys_in, shape_of}
use Rattle.maxtree_columns.specs.Tree.{TreeStands}
use Rattle.refusals.specs.declared.Refusal.{Refusal}
use Rattle.refusals.specs.Numbers.{number_of}
use Rattle.record_parse.specs.Parse.{Parsed, early, late, plate}
use Rattle.record_parse.specs.declared.Unread.{Unread}
use Rattle.record_parse.specs.declared.Unread.TheVariants.{Early, Late}
use Rattle.record_tree.specs.declared.FoundTree.{FoundTree}

-- P is the plate of that width, height, greatest grey and connectivity whose greys stand in the work space, with its tree; only the eight columns changed
pub record TreeFound (P : Parsed) (w w' : List ℕ) (t : FoundTree) : Type 0 where
  pub is : P
      ≡ plate t.new t.plate.connectivity t.plate.width t.plate.height t.plate.greatest (greys_in (t.plate.width * t.plate.height) w')
  pub frame : Frame (t.plate.width * t.plate.height) w w'
  pub shape : t.tree.shape ≡ shape_of (t.plate.width * t.plate.height) t.plate.width t.plate.height t.plate.greatest t.plate.connectivity
  pub tree : TreeStands t.tree.shape w' t.tree.count

-- such a plate, or a refusal with its number: all is as it was where no work had begun, else, with the pixels, only the eight columns changed
abbrev pub Finds : Parsed → List ℕ → List ℕ → Result FoundTree Unread → Type 0
Finds P w w' (Ok t) = TreeFound P w w' t
Finds P w w' (Err (Early refusal)) = (P ≡ early (number_of refusal)) × (w' ≡ w)
Finds P w w' (Err (Late refusal pixels)) = (P ≡ late (number_of refusal) pixels) × (Room w pixels × Frame pixels w w')

-- P is a refusal by that number: all is as it was where no work had begun, else there was room for the eight columns, which are zeroed
abbrev pub Refuses : Parsed → ℕ → List ℕ → List ℕ → Type 0
Refuses (early number) r w w' = (r ≡ number) × (w' ≡ w)
Refuses (late number pixels) r w w' = (r ≡ number) × (Room w pixels × (w' ≡ work_after true pixels w))
Refuses (plate new k wd ht M f) r w w' = ⊥

-- such a plate, or such a refusal
abbrev pub Reads : Parsed → List ℕ → List ℕ → Result FoundTree Refusal → Type 0
Reads P w w' (Ok t) = TreeFound P w w' t
Reads P w w' (Err refusal) = Refuses P (number_of refusal) w w'

-- greys that fit an output of 16-bit numbers
pub record GreysStand (n : ℕ) (w out : List ℕ) : Type 0 where
  pub room : Room w n
  pub greys : Greys n max_greatest w
  pub places : n ≤ length out
