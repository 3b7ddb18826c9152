-- `record_parse::read_node` meets its contract: at each return the fields read so far say which case of `levels_from` holds.
use Rattle.std.proofs.Common.{◌-◌, arith}
use Rattle.record_parse.proofs.Fields.{Took, took, stopped}
use Rattle.record_parse.proofs.Nodes.{level_fits, rise_fits, node_stops₁, node_stops₂, node_stops₃, node_stores}
use Rattle.record_parse.proofs.read_node.Goals as goal
use Rattle.record_parse.proofs.read_node.Goals.{In_ok-back, In_ok-rise}

-- the first two fields
back : (c : In_ok-back) → Took c.args.s.now c.args.at 1 c.args.i c.in_ok-back.back c.in_ok-back.at1
back c = took _ _ _ _ c.in_ok-back.ensures

rise : (c : In_ok-rise) → Took c.args.s.now c.in_ok-back.at1 1 (c.args.greatest - c.get-level.result) c.in_ok-rise.rise c.in_ok-rise.at2
rise c = took _ _ _ _ c.in_ok-rise.ensures

pub returns-in_err-back : goal.returns-in_err-back
returns-in_err-back c = node_stops₁ (stopped _ _ _ c.in_err-back.ensures c.from_residual.ensures.1)

pub overflow_sub-i : goal.overflow_sub-i
overflow_sub-i c = (back c).high

pub overflow_sub-greatest : goal.overflow_sub-greatest
overflow_sub-greatest c = level_fits c.requires.0 (back (goal.at.overflow_sub-greatest c).In_ok-back) c.get-level.ensures.0

pub returns-in_err-rise : goal.returns-in_err-rise
returns-in_err-rise c =
    node_stops₂ c.requires.0 (back (goal.at.returns-in_err-rise c).In_ok-back) c.get-level.ensures.0
    (stopped _ _ _ c.in_err-rise.ensures c.from_residual-in_err-rise.ensures.1)

pub returns-in_err-at3 : goal.returns-in_err-at3
returns-in_err-at3 c =
    node_stops₃ c.requires.0 (back (goal.at.returns-in_err-at3 c).In_ok-back) c.get-level.ensures.0 (rise (goal.at.returns-in_err-at3 c).In_ok-rise)
    (stopped _ _ _ c.in_err-at3.ensures c.from_residual-in_err-at3.ensures.1)

pub put-requires-clause-c_bound : goal.put-requires-clause-c_bound
put-requires-clause-c_bound c =
    let at = goal.at.put-requires-clause-c_bound c in
    let l = rise_fits c.requires.0 (back at.In_ok-back) c.get-level.ensures.0 (rise at.In_ok-rise) in
    (omega arith, (c.requires.1, omega (arith, l, c.ranges.greatest)))

pub returns : goal.returns
returns c =
    let at = goal.at.returns c in
    node_stores c.requires.0 (back at.In_ok-back) c.get-level.ensures.0 (rise at.In_ok-rise) (took _ _ _ _ c.in_ok-at3.ensures) c.requires.1 c.put.ensures
