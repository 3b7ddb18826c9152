-- `pgm_write::put_header` meets its contract: the three lines are put one after the other.
use native.Mathlib.Omega.{arith}
use Rattle.text_lines.proofs.Pieces.{and-field, begin, end_line, put_put}
use Rattle.pgm.specs.Text.{bytes}
use Rattle.pgm_write.specs.Writing.{header_lines}
use Rattle.pgm_write.proofs.put_header.Goals as goal

pub returns : goal.returns
unfolding bytes header_lines
returns c =
    let a = c.args in
    let first = end_line (begin c.put_word-letters.ensures) c.put_end-first.ensures in
    let width = rw c.from.ensures at c.put_decimal-extent.ensures.put_text in
    let height = rw c.from-2.ensures at c.put_field-extents.ensures.put_text in
    let greatest = rw c.from-3.ensures at c.put_decimal-third.ensures.put_text in
    let second = end_line (and-field (begin width) a.head.height height)
    c.put_end-second.ensures in
    let third = end_line (begin greatest) c.put_end.ensures in record {
      put_text = put_put first (put_put second third);
      upper_bound = omega (
        arith,
        c.put_word-letters.ensures.after,
        c.put_end-first.ensures.after,
        c.put_decimal-extent.ensures.upper_bound,
        c.put_field-extents.ensures.upper_bound,
        c.put_end-second.ensures.after,
        c.put_decimal-third.ensures.upper_bound,
        c.put_end.ensures.after,
      );
    }
