-- The bytes from `at` to i pass. The measure is the number of bytes left.
use Rattle.std.proofs.Common.{◌≡◌, ℕ, Bool, ◌+◌, ◌-◌, ◌≤◌, length, drop}
use Rattle.pgm_header.specs.Grammar.{front}
use Rattle.pgm_header.specs.Steps.{Computes}
use Rattle.pgm_header.proofs.front_end.Given as goal

abbrev pub invariant-loop-i : goal.invariant-loop-i
invariant-loop-i g l = record {
  from : l.at ≤ l.i;
  within : l.i ≤ length l.file;
  counted : (p : ℕ → Bool) → Computes (goal.F-post g l.test) p → l.at + front p (drop l.at l.file) ≡ l.i + front p (drop l.i l.file);
}

abbrev pub decreases-loop-i : goal.decreases-loop-i
decreases-loop-i g l = length l.file - l.i
