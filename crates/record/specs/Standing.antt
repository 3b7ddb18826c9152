-- What is written out of a work space w where a tree stands, and what a refusal leaves. g: the plate's shape; t: the tree with its plate; w': the work
-- space afterwards; r: the answer.
use Rattle.std.specs.Prelude.{◌≡◌, List, ℕ, Result, MatchResult, length}
use Rattle.meaning.specs.Answers.{limit_refusal, out_refusal, over, tables_refusal}
use Rattle.meaning.specs.Cut.{counts, cut, darkest, held, losses}
use Rattle.meaning.specs.Record.{record_of}
use Rattle.work_columns.specs.Columns.{Frame}
use Rattle.work_columns.specs.Layout.{greys_in}
use Rattle.work_columns.specs.declared.Shape.{Shape}
use Rattle.refusals.specs.declared.Refusal.{Refusal}
use Rattle.refusals.specs.Numbers.{refusal_of}
use Rattle.plate_refusals.specs.declared.PlateHead.{PlateHead}
use Rattle.record_tree.specs.declared.FoundTree.{FoundTree}
use Rattle.record.specs.declared.SizeList.{SizeList}

-- the plate whose greys stand there, and its record
abbrev pub plate_in : Shape → List ℕ → List ℕ
plate_in g w = greys_in g.pixels w

abbrev pub record_in : Shape → List ℕ → List ℕ
record_in g w = record_of g.connectivity g.width g.height g.greatest (plate_in g w)

-- the record, or 5
pub record TreeWritten (g : Shape) (w out out' : List ℕ) (r : Result ℕ Refusal) : Type 0 where
  pub refusal : refusal_of r ≡ out_refusal (length (record_in g w)) (length out) 0
  pub output : MatchResult r (λ size. (size ≡ length (record_in g w)) × (out' ≡ over (record_in g w) out)) (λ e. out' ≡ out)

-- the plate, or 5
pub record PlateWritten (t : FoundTree) (w out out' : List ℕ) (r : Result PlateHead Refusal) : Type 0 where
  pub refusal : refusal_of r ≡ out_refusal t.tree.shape.pixels (length out) 0
  pub output : MatchResult r (λ plate. (plate ≡ t.plate) × (out' ≡ over (plate_in t.tree.shape w) out)) (λ e. out' ≡ out)

-- its cut, or 4 or 5
pub record CutWritten (t : FoundTree) (limit : ℕ) (w w' out out' : List ℕ) (r : Result PlateHead Refusal) : Type 0 where
  pub refusal : refusal_of r ≡ limit_refusal t.tree.shape.pixels limit (out_refusal t.tree.shape.pixels (length out) 0)
  pub output : let g = t.tree.shape in
      MatchResult r (λ plate. (plate ≡ t.plate) × (out' ≡ over (cut g.connectivity g.width g.height limit (plate_in g w)) out)) (λ e. out' ≡ out)
  pub frame : Frame t.tree.shape.pixels w w'

-- its size list, or 5
pub record TreeListed (t : FoundTree) (w w' counted counted' lost lost' : List ℕ) (r : Result SizeList Refusal) : Type 0 where
  pub refusal : refusal_of r ≡ tables_refusal t.tree.shape.pixels (length counted) (length lost) 0
  pub output : let g = t.tree.shape in
      MatchResult r
      (λ list.
      (list
      ≡ record { plate = t.plate; nodes = t.tree.count; darkest = darkest (plate_in g w); held = held g.connectivity g.width g.height (plate_in g w) })
      × ((counted' ≡ over (counts g.connectivity g.width g.height (plate_in g w)) counted)
      × (lost' ≡ over (losses g.connectivity g.width g.height (plate_in g w)) lost)))
      (λ e. (counted' ≡ counted) × (lost' ≡ lost))
  pub frame : Frame t.tree.shape.pixels w w'
