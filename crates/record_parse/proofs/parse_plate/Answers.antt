-- `record_parse::parse_plate` meets its contract: at each return the fields read so far say what `from_height` has come to.
use Rattle.std.proofs.Common.{sym, ap, ◌∙◌, ◌*◌, ◌≤◌, length}
use Rattle.refusals.specs.Numbers.{refusal_of}
use Rattle.refusals.specs.declared.Refusal.TheVariants.{FieldRange}
use Rattle.std.proofs.lemmas.Result.{err_from_is_err_and}
use Rattle.work_columns.specs.Columns.{Room}
use Rattle.plate_refusals.proofs.Refusals.{work_none}
use Rattle.record_parse.specs.Parse.{from_height}
use Rattle.record_parse.specs.declared.RecordHead.{RecordHead}
use Rattle.record_parse.proofs.Fields.{took, unread, early_of, passed}
use Rattle.record_parse.proofs.Record.{AfterHeight, AfterConnectivity, AfterCount, after_connectivity, after_count, after_height, begun}
use Rattle.record_parse.proofs.Record.{connectivity_stops, count_stops, early_answer, early_field, height_stops, late_answer, no_connectivity, plate_answer}
use Rattle.record_parse.proofs.Record.{too_large, too_short}
use Rattle.record_parse.proofs.parse_plate.Goals as goal
use Rattle.record_parse.proofs.parse_plate.Goals.{In-Ok, In-Ok-f2, In-Ok-f3, In_ok-map_err}

-- what is known after each field
height : (c : In-Ok)
    → let a = c.args in
    AfterHeight (from_height a.new a.greatest a.s.now (length a.work.now) a.width a.at) a.new a.greatest a.s.now (length a.work.now) a.width
    c.in-Ok.height c.in-Ok.at1
height c = let a = c.args in after_height a.new a.greatest a.s.now (length a.work.now) a.width a.at c.requires (took _ _ _ _ c.in-Ok.ensures)

connectivity : (c : In-Ok-f2)
    → let a = c.args in
    AfterConnectivity (from_height a.new a.greatest a.s.now (length a.work.now) a.width a.at) a.new a.greatest a.s.now (length a.work.now) a.width
    c.in-Ok.height c.in-Ok-f2.connectivity c.in-Ok-f2.at2
connectivity c = after_connectivity (height (goal.at.In-Ok-f2 c).In-Ok) c.if-pixels-gt16777216.false (took _ _ _ _ c.in-Ok-f2.ensures)

count : (c : In-Ok-f3)
    → let a = c.args in
    AfterCount (from_height a.new a.greatest a.s.now (length a.work.now) a.width a.at) a.new a.greatest a.s.now (length a.work.now) a.width
    c.in-Ok.height c.in-Ok-f2.connectivity c.in-Ok-f3.count c.in-Ok-f3.at3
count c =
    after_count (connectivity (goal.at.In-Ok-f3 c).In-Ok-f2) (sym c.connectivity_fits.ensures ∙ c.if-not-connectivity_fits.false)
    (took _ _ _ _ c.in-Ok-f3.ensures)

-- the work space is not too short
space : (c : In_ok-map_err) → 8 * (c.args.width * c.in-Ok.height) ≤ length c.args.work.now
space c =
    (work_none (c.args.width * c.in-Ok.height) (length c.args.work.now) 0
    (sym c.check_work.ensures ∙ passed c.check_work.result c.in_ok-map_err.ensures.variant)).0

room : (c : In_ok-map_err) → Room c.args.work.now (c.args.width * c.in-Ok.height)
room c = record { small = (count (goal.at.In_ok-map_err c).In-Ok-f3).pixels; room = space c }

-- what the record says
abbrev head : In-Ok-f2 → RecordHead
head c = record {
  new = c.args.new;
  plate = record { width = c.args.width; height = c.in-Ok.height; greatest = c.args.greatest; connectivity = c.in-Ok-f2.connectivity };
}

pub returns-in_default : goal.returns-in_default
returns-in_default c =
    let a = c.args in
    let e = unread c.read_field-f1.ensures c.unwrap_err.ensures c.from.ensures in
    early_field _ a.work.now e (height_stops a.new a.greatest a.s.now (length a.work.now) a.width a.at e.read)

pub overflow_mul-pixels : goal.overflow_mul-pixels
overflow_mul-pixels c = record { fits = (height (goal.at.overflow_mul-pixels c).In-Ok).fits }

pub returns-then-pixels-gt16777216 : goal.returns-then-pixels-gt16777216
returns-then-pixels-gt16777216 c =
    early_answer _ c.args.work.now FieldRange (too_large (height (goal.at.returns-then-pixels-gt16777216 c).In-Ok) c.if-pixels-gt16777216.true)

pub returns-in_default-f2 : goal.returns-in_default-f2
returns-in_default-f2 c =
    let e = unread c.read_field-f2.ensures c.unwrap_err-in_default-f2.ensures c.from-in_default-f2.ensures in
    early_field _ c.args.work.now e (connectivity_stops (height (goal.at.returns-in_default-f2 c).In-Ok) c.if-pixels-gt16777216.false e.read)

pub returns-then-not-connectivity_fits : goal.returns-then-not-connectivity_fits
returns-then-not-connectivity_fits c =
    early_answer _ c.args.work.now FieldRange
    (no_connectivity (connectivity (goal.at.returns-then-not-connectivity_fits c).In-Ok-f2) (sym c.connectivity_fits.ensures ∙ c.if-not-connectivity_fits.true))

pub returns-in_default-f3 : goal.returns-in_default-f3
returns-in_default-f3 c =
    let e = unread c.read_field-f3.ensures c.unwrap_err-in_default-f3.ensures c.from-in_default-f3.ensures in
    early_field _ c.args.work.now e
    (count_stops (connectivity (goal.at.returns-in_default-f3 c).In-Ok-f2) (sym c.connectivity_fits.ensures ∙ c.if-not-connectivity_fits.false) e.read)

pub returns-in_err-map_err : goal.returns-in_err-map_err
returns-in_err-map_err c =
    let e = early_of c.check_work.result c.in_err-map_err.field-0.0 c.in_err-map_err.ensures.cases in
    let r = err_from_is_err_and c.from_residual.result c.from_residual.ensures.1 in
    rw (r.1, r.2, e.2)
    (early_answer _ c.args.work.now e.0
    (too_short (count (goal.at.returns-in_err-map_err c).In-Ok-f3) e.0 (sym (ap refusal_of e.1) ∙ c.check_work.ensures)))

pub read_tree_fields-requires : goal.read_tree_fields-requires
read_tree_fields-requires c =
    let m = count (goal.at.read_tree_fields-requires c).In-Ok-f3 in
    (room (goal.at.read_tree_fields-requires c).In_ok-map_err, (m.some, m.most))

pub returns-in-Err : goal.returns-in-Err
returns-in-Err c =
    let at = goal.at.returns-in-Err c in
    late_answer _ (head at.In-Ok-f2) (room at.In_ok-map_err) (begun (count at.In-Ok-f3) (space at.In_ok-map_err)) c.in-Err.ensures

pub returns : goal.returns
returns c =
    let at = goal.at.returns c in
    plate_answer _ (head at.In-Ok-f2) (room at.In_ok-map_err) (begun (count at.In-Ok-f3) (space at.In_ok-map_err)) c.in_default-read_tree_fields.ensures
