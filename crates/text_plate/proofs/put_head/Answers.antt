-- `text_plate::put_head` meets its contract: the line is put field by field.
use Rattle.pgm.specs.Text.{bytes}
use Rattle.text_lines.proofs.Texts.{begin_line, next_field, whole_line}
use Rattle.text_plate.specs.Text.{head_line}
use Rattle.text_plate.proofs.put_head.Goals as goal

pub returns-clause-puts : goal.returns-clause-puts
unfolding head_line bytes
returns-clause-puts c =
    let b1 = next_field (begin_line c.put_word.ensures) c.from.ensures c.put_field.ensures.puts in
    let b2 = next_field b1 c.from-2.ensures c.put_field-2.ensures.puts in
    let b3 = next_field b2 c.from-3.ensures c.put_field-3.ensures.puts in
    let b4 = next_field b3 c.from-4.ensures c.put_field-4.ensures.puts in
    whole_line b4 c.put_end.ensures
