-- `text_plate::put_rest` meets its contract: the grey is not above the greatest, so its ink is not refused, and the line is put field by field.
use Rattle.std.proofs.Common.{arith, ◌∙◌}
use Rattle.theory_connectivity.proofs.Sizes.{greatest_range}
use Rattle.pgm.specs.Text.{bytes}
use Rattle.text_lines.proofs.Texts.{begin_line, next_field, whole_line}
use Rattle.text_plate.specs.Text.{rest_line}
use Rattle.text_plate.proofs.Plates.{ink_ok, ink_taken}
use Rattle.text_plate.proofs.put_rest.Goals as goal

pub overflow_cast-darkest : goal.overflow_cast-darkest
overflow_cast-darkest c = omega (arith, c.requires.greatest_value.1, (greatest_range c.args.greatest c.requires.greatest_value.0).most)

pub unwrap-percentage-requires : goal.unwrap-percentage-requires
unwrap-percentage-requires c = ink_ok c.requires.greatest_value.0 c.requires.greatest_value.1 c.ink_percentage.result c.ink_percentage.ensures

pub returns-clause-puts : goal.returns-clause-puts
unfolding rest_line bytes
returns-clause-puts c =
    let value = ink_taken c.requires.greatest_value.0 c.requires.greatest_value.1 (rw c.unwrap-percentage.ensures at c.ink_percentage.ensures) in
    let b = next_field (begin_line c.put_word.ensures) c.from.ensures c.put_field.ensures.puts in
    whole_line (next_field b (c.from-2.ensures ∙ value) c.put_field-2.ensures.puts) c.put_end.ensures
