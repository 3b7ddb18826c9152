-- `record_parse::read_nodes` meets its contract. The invariant: what is left gives what the whole gives (`NodesLeft`).
use Rattle.record_parse.proofs.Nodes.{nodes-stop, nodes-done}
use Rattle.record_parse.proofs.read_nodes.Goals as goal

pub returns-in_err-at : goal.returns-in_err-at
returns-in_err-at c = nodes-stop c.loop-i.invariant c.loop-i-test.true c.in_err-at.ensures c.from_residual.ensures.1

pub returns : goal.returns
returns c = nodes-done c.loop-i.invariant c.loop-i-test.false
