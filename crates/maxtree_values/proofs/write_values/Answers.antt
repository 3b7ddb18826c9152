-- `maxtree_values::write_values` meets its contract. The invariant: the first p values are written.
use Rattle.plate_greys.proofs.Sides.{side_plate_table}
use Rattle.maxtree_values.specs.Values.{value_at}
use Rattle.maxtree_values.proofs.Values.{values_over}
use Rattle.maxtree_values.proofs.write_values.Goals as goal

pub returns : goal.returns
returns c =
    let a = c.args in
    rw (side_plate_table a.negated a.greatest a.n (value_at a.n a.w.now))
    (values_over _ c.loop-p.place-items a.out.now c.requires.n_in_bounds c.loop-p.auto.place-items c.loop-p-test.false c.loop-p.invariant)
