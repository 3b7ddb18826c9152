-- `record_parse::read_greys` meets its contract. The invariant: the greys so far, ahead of what is left, are what the whole gives (`GreysLeft`).
use Rattle.std.proofs.Common.{refl, ◌-◌, arith}
use Rattle.record_parse.proofs.Fields.{took, stopped}
use Rattle.record_parse.proofs.Greys.{greys_first, greys_more, greys_stop, greys_done}
use Rattle.record_parse.proofs.read_greys.Goals as goal

pub loop-p-init : goal.loop-p-init
loop-p-init c = (greys_first, refl)

pub returns-in_err-own : goal.returns-in_err-own
returns-in_err-own c =
    greys_stop c.loop-p.invariant.0 c.loop-p-test.true (stopped _ _ _ (rw c.loop-p.invariant.1 at c.in_err-own.ensures) c.from_residual.ensures.1)

pub get-level-requires-clause-c_bound : goal.get-level-requires-clause-c_bound
get-level-requires-clause-c_bound c =
    let a = took c.args.s.now c.loop-p.at 0 (c.args.count - 1) (rw c.loop-p.invariant.1 at c.in_ok-own.ensures) in
    (omega arith, omega (arith, a.high, c.requires.1.0, c.requires.1.1))

pub loop-p-preserved : goal.loop-p-preserved
loop-p-preserved c =
    let a = took c.args.s.now c.loop-p.at 0 (c.args.count - 1) (rw c.loop-p.invariant.1 at c.in_ok-own.ensures) in
    (greys_more c.loop-p.invariant.0 c.loop-p-test.true c.requires.1.0 a c.get-level.ensures.0 c.put.ensures, c.loop-p.invariant.1)

pub returns : goal.returns
returns c = greys_done c.loop-p.invariant.0 c.loop-p-test.false
