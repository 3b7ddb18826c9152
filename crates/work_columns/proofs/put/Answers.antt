-- `work_columns::put` meets its contract.
use native.Mathlib.Omega.{arith}
use Rattle.work_columns.proofs.Columns.{stored}
use Rattle.work_columns.proofs.put.Goals as goal

pub returns : goal.returns
returns c = stored c.requires.room c.args.c c.args.i c.args.v (omega arith) (omega arith)
