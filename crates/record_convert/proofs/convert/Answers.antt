-- `record_convert::convert` meets its contract: what is passed on is the record in the form that was asked for.
use mathlib.Core.Path.{sym, ap, ◌∙◌}
use mathlib.Core.Bool.{not}
use lib.ListN.{length}
use Rattle.record_convert.proofs.Forms.{form_kept, front_added, front_dropped, front_fits, spelt}
use Rattle.record_convert.proofs.Outcomes.{converted_passed, form_other, form_same}
use Rattle.record_convert.proofs.convert.Goals as goal

pub returns-then-found-new : goal.returns-then-found-new
returns-then-found-new c =
    let t = c.in_ok-found.ensures in
    converted_passed t c.clear.ensures (sym c.if-not-form_fits.ensures)
    (form_kept c.args.new (spelt c.args.bytes.now (length c.args.work.now) t.is) (form_same _ _ c.if-found-new.true)) c.pass_on.ensures

pub returns-then-new : goal.returns-then-new
returns-then-new c =
    let t = c.in_ok-found.ensures in
    converted_passed t c.clear.ensures (sym c.if-not-form_fits.ensures)
    (front_added c.args.new (spelt c.args.bytes.now (length c.args.work.now) t.is)
    (form_other _ _ c.if-found-new.false ∙ ap not c.if-new.true) c.if-new.true) c.add_front.ensures

pub drop_front-requires : goal.drop_front-requires
drop_front-requires c =
    let t = c.in_ok-found.ensures in
    front_fits c.args.new (spelt c.args.bytes.now (length c.args.work.now) t.is)
    (form_other _ _ c.if-found-new.false ∙ ap not c.if-new.false) c.if-new.false (sym c.if-not-form_fits.ensures)

pub returns : goal.returns
returns c =
    let t = c.in_ok-found.ensures in
    converted_passed t c.clear.ensures (sym c.if-not-form_fits.ensures)
    (front_dropped c.args.new (spelt c.args.bytes.now (length c.args.work.now) t.is)
    (form_other _ _ c.if-found-new.false ∙ ap not c.if-new.false) c.if-new.false (sym c.if-not-form_fits.ensures)) c.drop_front.ensures
