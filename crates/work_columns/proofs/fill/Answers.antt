-- `work_columns::fill` meets its contract.
use native.Mathlib.Omega.{arith}
use Rattle.work_columns.proofs.Filled.{part_filled}
use Rattle.work_columns.proofs.fill.Goals as goal

pub returns : goal.returns
returns c =
    let a = c.args in
    let q = c.requires in
    part_filled a.c a.count a.v _ q.room q.c_bound.0 q.c_bound.1.0 (omega arith) (c.fill.ensures.after (λ y h. h))
