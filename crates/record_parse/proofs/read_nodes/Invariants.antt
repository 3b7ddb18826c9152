-- `record_parse::read_nodes` meets its contract. The invariant: what is left gives what the whole gives (`NodesLeft`).
use Rattle.record_parse.proofs.Nodes.{NodesLeft}
use Rattle.record_parse.proofs.read_nodes.Given as goal

abbrev pub invariant-loop-i : goal.invariant-loop-i
invariant-loop-i l = NodesLeft l.greatest l.s l.start l.n l.initial.work l.work l.count l.i l.at
