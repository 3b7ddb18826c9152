-- `text_plate::put_held` meets its contract: the line is put field by field.
use Rattle.std.proofs.Common.{refl}
use Rattle.pgm.specs.Text.{bytes}
use Rattle.text_lines.proofs.Texts.{begin_line, next_field, whole_line}
use Rattle.text_plate.specs.Text.{held_line}
use Rattle.text_plate.proofs.put_held.Goals as goal

pub returns-clause-puts : goal.returns-clause-puts
unfolding held_line bytes
returns-clause-puts c =
    whole_line (next_field (begin_line c.put_word.ensures) {v = c.args.held} refl c.put_field.ensures.puts) c.put_end.ensures
