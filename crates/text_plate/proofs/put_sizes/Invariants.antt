-- `text_plate::put_sizes` meets its contract. The invariant: the lines of the first i areas are put.
use Rattle.std.proofs.Common.{◌+◌, ◌*◌, ◌≤◌}
use Rattle.meaning.specs.Sets.{gather}
use Rattle.text_lines.specs.Pieces.{Puts}
use Rattle.text_plate.specs.Text.{size_line}
use Rattle.text_plate.proofs.put_sizes.Given as goal

abbrev pub invariant-loop-i : goal.invariant-loop-i
invariant-loop-i l = record {
  puts : Puts l.initial.text (gather l.i (size_line l.counts l.losses)) l.text;
  upper_bound : l.text.length ≤ l.initial.text.length + 63 * l.i;
}
