-- `maxtree_values::write_column` meets its contract. The invariant: the first i entries are written.
use Rattle.maxtree_values.proofs.Values.{values_over}
use Rattle.maxtree_values.proofs.write_column.Goals as goal

pub returns : goal.returns
returns c = values_over _ c.loop-i.place-items c.args.out.now c.requires.long c.loop-i.auto.place-items c.loop-i-test.false c.loop-i.invariant
