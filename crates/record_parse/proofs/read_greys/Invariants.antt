-- `record_parse::read_greys` meets its contract. The invariant: the greys so far, ahead of what is left, are what the whole gives (`GreysLeft`).
use mathlib.Core.Path.{◌≡◌}
use Prim.Native.Nat.{◌-◌}
use Rattle.record_parse.proofs.Greys.{GreysLeft}
use Rattle.record_parse.proofs.read_greys.Given as goal

abbrev pub invariant-loop-p : goal.invariant-loop-p
invariant-loop-p l = GreysLeft l.s l.start l.n l.initial.work l.work l.count l.p l.at × (l.last ≡ l.count - 1)
