-- After i turns the first i entries stand in the list, and the rest is as it was lent.
use Rattle.std.proofs.Common.{◌≡◌}
use Rattle.plate_entries.specs.Entries.{standing}
use Rattle.plate_entries.proofs.Lists.{filled}
use Rattle.plate_entries.proofs.fill.Given as goal

abbrev pub invariant-loop-i : goal.invariant-loop-i
invariant-loop-i l = l.list ≡ filled (standing l.n l.work) l.initial.list l.i
