-- The loop goes on where `skip_blanks` used up its turns. The measure is the number of bytes left.
use Rattle.std.proofs.Common.{◌≡◌, ◌≤◌, ◌-◌, length, drop}
use Rattle.pgm_header.specs.Grammar.{mix}
use Rattle.pgm_header.proofs.Cursor.mix.Given as goal

abbrev pub invariant-loop-end : goal.invariant-loop-end
invariant-loop-end l = record {
  within : l.from.at ≤ length l.file;
  same : mix (drop l.from.at l.file) ≡ mix (drop l.initial.from.at l.file);
}

abbrev pub decreases-loop-end : goal.decreases-loop-end
decreases-loop-end l = length l.file - l.from.at
