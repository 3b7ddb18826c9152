-- `text_plate::put_size` meets its contract: nothing, or the line field by field.
use Rattle.std.proofs.Common.{arith, refl}
use Rattle.text_lines.proofs.Texts.{begin_line, next_field, puts_nothing, whole_line}
use Rattle.text_plate.proofs.Plates.{area_none, area_some}
use Rattle.text_plate.proofs.put_size.Goals as goal

pub returns-then-count-eq0-clause-puts : goal.returns-then-count-eq0-clause-puts
returns-then-count-eq0-clause-puts c =
    let a = c.args in
    rw (area_none a.area a.count a.lost c.if-count-eq0.true) (puts_nothing a.text.now (omega (arith, c.requires)))

pub returns-clause-puts : goal.returns-clause-puts
returns-clause-puts c =
    let a = c.args in
    let b = next_field (begin_line c.put_decimal.ensures.puts) c.from.ensures c.put_field.ensures.puts in
    rw (area_some a.area a.count a.lost c.if-count-eq0.false) (whole_line (next_field b refl c.put_field-2.ensures.puts) c.put_end.ensures)
