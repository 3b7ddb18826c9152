-- `record_varint::put_field` meets its contract. The loop's invariant: what is left to be stored, stored on the list as it is, gives the whole.
-- Assumes nothing.
use mathlib.Core.Path.{◌∙◌}
use borrow.Author.Rules.{rules}
use lib.ListN.{length-set}
use lib.Seq.{sets-eq}
use Rattle.meaning.specs.Record.{varint}
use Rattle.record_varint.proofs.Writing.{left-first, left-more, left_ends, left_last}
use Rattle.record_varint.proofs.put_field.Goals as goal

pub loop-x-init : goal.loop-x-init
loop-x-init c = let a = c.args in left-first a.out.now a.at a.v (search rules)

pub loop-x-preserved : goal.loop-x-preserved
loop-x-preserved c = left-more _ _ _ _ _ _ c.loop-x.invariant c.loop-x-test.true

pub shape_of-out : goal.shape_of-out
shape_of-out c = simp length-set c.loop-x.invariant.same

pub returns : goal.returns
returns c =
    let a = c.args in
    let l = c.loop-x.invariant in
    let x = c.loop-x-test.false in
    record { value = left_ends _ _ _ _ _ _ l x; out_after = left_last _ _ _ _ _ _ l x ∙ sets-eq (varint a.v) a.out.now a.at c.requires }
