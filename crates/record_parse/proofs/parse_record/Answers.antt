-- `record_parse::parse_record` meets its contract: at each return the fields read so far say what `parse` has come to.
use Rattle.std.proofs.Common.{◌≡◌, sym, ◌∙◌, length}
use Rattle.record_parse.specs.Parse.{from_greatest, from_width, parse}
use Rattle.record_parse.proofs.Fields.{took, unread, stopped_early}
use Rattle.record_parse.proofs.Record.{after_greatest, after_version, after_width, early_field, form_stops, greatest_stops, new_form, old_form}
use Rattle.record_parse.proofs.Record.{version_stops, width_stops}
use Rattle.record_parse.proofs.parse_record.Goals as goal
use Rattle.record_parse.proofs.parse_record.Goals.{In_ok-at2, In_ok-greatest}

-- the new form, after its version; after its greatest grey
version : (c : In_ok-at2) → parse c.args.s.now (length c.args.work.now) ≡ from_greatest c.args.s.now (length c.args.work.now) c.in_ok-at2.at2
version c =
    new_form _ _ (took _ _ _ _ c.in-Ok.ensures) c.if-first-ne0.false
    ∙ after_version _ _ c.in-Ok.at1 (took _ _ _ _ c.in_ok-at2.ensures)

greatest : (c : In_ok-greatest)
    → parse c.args.s.now (length c.args.work.now) ≡ from_width c.args.s.now (length c.args.work.now) c.in_ok-greatest.greatest c.in_ok-greatest.at3
greatest c = version (goal.at.In_ok-greatest c).In_ok-at2 ∙ after_greatest _ _ c.in_ok-at2.at2 (took _ _ _ _ c.in_ok-greatest.ensures)

pub returns-in_default : goal.returns-in_default
returns-in_default c =
    let e = unread c.read_field-f1.ensures c.unwrap_err.ensures c.from.ensures in
    early_field _ c.args.work.now e (form_stops c.args.s.now (length c.args.work.now) e.read)

pub parse_plate-requires : goal.parse_plate-requires
parse_plate-requires c = (took c.args.s.now 0 0 32768 c.in-Ok.ensures).high

pub returns-then-first-ne0 : goal.returns-then-first-ne0
returns-then-first-ne0 c =
    let form = old_form c.args.s.now (length c.args.work.now) (took _ _ _ _ c.in-Ok.ensures) c.if-first-ne0.true in
    (c.parse_plate.ensures.0 ∙ sym form, c.parse_plate.ensures.1)

pub returns-in_err-at2 : goal.returns-in_err-at2
returns-in_err-at2 c =
    let s = c.args.s.now in
    let work = length c.args.work.now in
    let e = stopped_early _ _ _ c.in_err-at2.ensures c.from_residual.ensures.1 in
    early_field _ c.args.work.now e (new_form s work (took _ _ _ _ c.in-Ok.ensures) c.if-first-ne0.false ∙ version_stops s work c.in-Ok.at1 e.read)

pub returns-in_err-greatest : goal.returns-in_err-greatest
returns-in_err-greatest c =
    let e = stopped_early _ _ _ c.in_err-greatest.ensures c.from_residual-in_err-greatest.ensures.1 in
    early_field _ c.args.work.now e
    (version (goal.at.returns-in_err-greatest c).In_ok-at2 ∙ greatest_stops c.args.s.now (length c.args.work.now) c.in_ok-at2.at2 e.read)

pub returns-in_default-f4 : goal.returns-in_default-f4
returns-in_default-f4 c =
    let e = unread c.read_field-f4.ensures c.unwrap_err-in_default-f4.ensures c.from-in_default-f4.ensures in
    early_field _ c.args.work.now e
    (greatest (goal.at.returns-in_default-f4 c).In_ok-greatest
    ∙ width_stops c.args.s.now (length c.args.work.now) c.in_ok-greatest.at3 c.in_ok-greatest.greatest e.read)

pub parse_plate-requires-2 : goal.parse_plate-requires-2
parse_plate-requires-2 c = (took c.args.s.now c.in_ok-greatest.at3 1 32768 c.in-Ok-f4.ensures).high

pub returns : goal.returns
returns c =
    let form =
    greatest (goal.at.returns c).In_ok-greatest
    ∙ after_width c.args.s.now (length c.args.work.now) c.in_ok-greatest.at3 c.in_ok-greatest.greatest (took _ _ _ _ c.in-Ok-f4.ensures) in
    (c.parse_plate-2.ensures.0 ∙ sym form, c.parse_plate-2.ensures.1)
