-- What writing a record leaves: on a refusal ahead of any work, and after the tree was built. k: connectivity, w: width, h: height, M: greatest grey, f: the
-- plate.
use mathlib.Core.Path.{◌≡◌, sym, ap, ◌∙◌}
use mathlib.Core.Bool.{true, false}
use mathlib.Core.List.{List, ◌++◌}
use Prim.Native.Nat.{ℕ, ◌*◌}
use lib.Dec.{eqb}
use lib.ListN.{length, drop, replicate}
use borrow.Author.Tests.{ne_eqb}
use Rattle.std.specs.Prelude.{Result, Ok, Err}
use Rattle.meaning.specs.Answers.{out_refusal, over, plate_refusal, work_after, work_refusal}
use Rattle.meaning.specs.Record.{record_of}
use Rattle.refusals.specs.declared.Refusal.{Refusal}
use Rattle.refusals.specs.Numbers.{number_of}
use Rattle.refusals.proofs.Numbers.{number_nonzero}
use Rattle.plate_refusals.proofs.Refusals.{Listable, out_met, tree_early, tree_first, tree_later}
use Rattle.work_columns.specs.Layout.{shape_of}
use Rattle.work_columns.specs.declared.Shape.{Shape}
use Rattle.work_columns.proofs.Columns.{cleared}
use Rattle.maxtree_columns.proofs.Tree.{tree_plate}
use Rattle.plate_tree.specs.PlateTree.{PlateReady, PlateTree}
use Rattle.plate_tree.proofs.Building.{plate_ready}
use Rattle.record.specs.Answers.{written_answer}
use Rattle.record.specs.Standing.{TreeWritten, record_in}
use Rattle.record.specs.Writing.{WrittenRecord, write_answer, write_out, write_refusal, write_work}

-- a refusal by 1, 2, 29, 3, 28 or 6
pub wrote_refused : (k w h M : ℕ) (f out work : List ℕ) (e : Refusal) → number_of e ≡ plate_refusal k w h M f (work_refusal (w * h) (length work) 0)
    → WrittenRecord k w h M f out out work work (written_answer (Err e))
unfolding write_refusal write_answer write_out write_work
wrote_refused k w h M f out work e is =
    let x : number_of e ≡ 0 → ⊥ = number_nonzero e in
    let z : eqb (number_of e) 0 ≡ false = ne_eqb (number_of e) 0 x in
    let y : eqb (number_of e) 5 ≡ false = ne_eqb (number_of e) 5 (tree_early k w h M f (length work) is) in
    let by : write_refusal k w h M f out work ≡ number_of e =
    sym (tree_first k w h M f (length work) is x (length (record_of k w h M f)) (length out)) in
    record { answer = rw (by, z); output = rw (by, z); space = rw (by, z, y); accepted = λ none. absurd (x (sym by ∙ none)) }

-- nothing but 5 is left to refuse; g: the plate's shape
module _ {g : Shape} {k w h M : ℕ} (f work : List ℕ) (listable : Listable k w h M f (length work))
    (shape : g ≡ shape_of (length f) w h M k) where
  -- the tree can be made
  pub wrote_ready : PlateReady g f work
  wrote_ready = plate_ready shape listable.taken listable.space

  refusal_is : (out : List ℕ) → write_refusal k w h M f out work ≡ out_refusal (length (record_of k w h M f)) (length out) 0
  unfolding write_refusal
  refusal_is out = tree_later listable (length (record_of k w h M f)) (length out)

  module _ {w₁ : List ℕ} {count : ℕ} (stood : PlateTree false g f work w₁ count) {w₂ : List ℕ}
      (c : w₂ ≡ replicate (8 * length f) 0 ++ drop (8 * length f) w₁) where
    p : PlateTree false (shape_of (length f) w h M k) f work w₁ count
    p = rw shape at stood

    record_is : record_in g w₁ ≡ record_of k w h M f
    record_is = rw (tree_plate stood.tree, shape)

    size_is : length (record_in g w₁) ≡ length (record_of k w h M f)
    size_is = ap length record_is

    decided_by : (out : List ℕ) → write_refusal k w h M f out work ≡ out_refusal (length (record_in g w₁)) (length out) 0
    decided_by out = refusal_is out ∙ ap (λ (l : ℕ). out_refusal l (length out) 0) (sym size_is)

    zeroed : w₂ ≡ work_after true (w * h) work
    zeroed = rw (← listable.taken.long) (cleared p.frame c)

    -- 5, or the record
    pub wrote : {out out' : List ℕ} (r : Result ℕ Refusal) → TreeWritten g w₁ out out' r → WrittenRecord k w h M f out out' work w₂ (written_answer r)
    unfolding write_answer write_out write_work
    wrote {out} (Err e) d =
        let by : write_refusal k w h M f out work ≡ number_of e = decided_by out ∙ sym d.refusal in
        let five : number_of e ≡ 5 = d.refusal ∙ out_met (length (record_in g w₁)) (length out) (λ u. number_nonzero e (d.refusal ∙ u)) in
        record { answer = rw (by, five); output = rw (by, five) d.output; space = rw (by, five) zeroed; accepted = λ none. p.plate }
    wrote {out} (Ok size) d =
        let by : write_refusal k w h M f out work ≡ 0 = decided_by out ∙ sym d.refusal in
        record {
          answer = rw (by, d.output.0 ∙ size_is);
          output = rw by (d.output.1 ∙ ap (λ (l : List ℕ). over l out) record_is);
          space = rw by zeroed;
          accepted = λ none. p.plate;
        }
