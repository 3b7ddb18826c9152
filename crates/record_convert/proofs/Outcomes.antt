-- What converting leaves: on a refusal, and with the record written. P: what reading finds up to 24.
use mathlib.Core.Path.{◌≡◌, refl, sym, ap, ◌∙◌}
use mathlib.Core.Bool.{Bool, true, false, beq, not}
use mathlib.Core.List.{List, ◌++◌}
use Prim.Native.Nat.{ℕ, ◌*◌, ◌≤◌, ◌<◌}
use lib.Dec.{ltb, ltb→lt}
use borrow.Author.Tests.{le-ltb, lt-ltb}
use lib.ListN.{length, drop, replicate}
use Rattle.std.specs.Prelude.{Err, Ok}
use Rattle.meaning.specs.Answers.{out_refusal, over}
use Rattle.meaning.specs.Record.{record_in}
use Rattle.theory_lists.proofs.Tests.{passes}
use Rattle.refusals.specs.declared.Refusal.{Refusal}
use Rattle.refusals.specs.Numbers.{number_of}
use Rattle.refusals.proofs.Numbers.{number_nonzero}
use Rattle.plate_refusals.proofs.Refusals.{out_met, refuse_met}
use Rattle.work_columns.specs.Layout.{greys_in}
use Rattle.work_columns.specs.declared.Shape.{Shape}
use Rattle.work_columns.proofs.Columns.{cleared}
use Rattle.record_parse.specs.Parse.{Parsed}
use Rattle.record_tree.specs.Found.{TreeFound}
use Rattle.record_tree.specs.declared.FoundTree.{FoundTree}
use Rattle.record.specs.declared.Written.{Written}
use Rattle.record.specs.Answers.{written_answer}
use Rattle.record_convert.specs.Converting.{Converted, PassedOn, form_fits}

-- ---- bytes that are passed on

-- an output was found to be short
pub short : (e : Refusal) (needed out : ℕ) → number_of e ≡ out_refusal needed out 0 → (out < needed) × (number_of e ≡ 5)
short e needed out is =
    let x : out_refusal needed out 0 ≡ 0 → ⊥ = λ z. number_nonzero e (is ∙ z) in
    (ltb→lt out needed (passes (refuse_met (ltb out needed) 5 x)), is ∙ out_met needed out x)

pub passed_short : (e : Refusal) (bytes out : List ℕ) → (length out < length bytes) × (number_of e ≡ 5)
    → PassedOn bytes out out (written_answer (Err e))
passed_short e bytes out (l, five) = let z = lt-ltb (length out) (length bytes) l in record { answer = rw (z, five); output = rw z }

pub passed_done : (bytes out : List ℕ) (size : ℕ) {out' : List ℕ} → length bytes ≤ length out → size ≡ length bytes → out' ≡ over bytes out
    → PassedOn bytes out out' (written_answer (Ok size))
passed_done bytes out size l e d = let z = le-ltb (length out) (length bytes) l in record { answer = rw (z, e); output = rw z d }

-- ---- the record of a plate that was found

-- 5, or the record in the form that was asked for
pub converted_passed : {new : Bool} {P : Parsed} {work w₁ w₂ : List ℕ} {t : FoundTree} (found : TreeFound P work w₁ t)
    → w₂ ≡ replicate (8 * t.tree.shape.pixels) 0 ++ drop (8 * t.tree.shape.pixels) w₁ → {bytes out out' : List ℕ} {r : Written}
    → form_fits new t.plate.greatest ≡ true
    → bytes ≡ record_in new t.plate.connectivity t.plate.width t.plate.height t.plate.greatest (greys_in (t.plate.width * t.plate.height) w₁)
    → PassedOn bytes out out' r → Converted new P out out' work w₂ r
converted_passed {new} {work = work} {w₁} {w₂} {t} found c {bytes} {out} {out'} {r} e same p =
    let pixels : t.tree.shape.pixels ≡ t.plate.width * t.plate.height = ap (λ (s : Shape). s.pixels) found.shape in
    let q : PassedOn (record_in new t.plate.connectivity t.plate.width t.plate.height t.plate.greatest (greys_in (t.plate.width * t.plate.height) w₁))
    out out' r = rw same at p in
    rw found.is (record { answer = rw e q.answer; output = rw e q.output; space = cleared found.frame (rw pixels at c) })

-- the form of the record is the one that was asked for, or the other one
pub form_same : (was new : Bool) → beq was new ≡ true → was ≡ new
form_same true true e = refl
form_same true false e = sym e
form_same false true e = e
form_same false false e = refl

pub form_other : (was new : Bool) → beq was new ≡ false → was ≡ not new
form_other true true e = e
form_other true false e = refl
form_other false true e = refl
form_other false false e = sym e
