-- `text_plate::put_refused` meets its contract: the line is put field by field.
use Rattle.std.proofs.Common.{◌∙◌}
use Rattle.pgm.specs.Text.{bytes}
use Rattle.text_lines.proofs.Texts.{begin_line, next_field, whole_line}
use Rattle.text_plate.specs.Text.{refused_text}
use Rattle.text_plate.proofs.put_refused.Goals as goal

pub returns : goal.returns
unfolding refused_text bytes
returns c =
    whole_line (next_field (begin_line c.put_word.ensures) (c.from.ensures ∙ c.number.ensures) c.put_field.ensures.puts) c.put_end.ensures
