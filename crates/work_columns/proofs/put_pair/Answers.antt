-- `work_columns::put_pair` meets its contract.
use native.Mathlib.Omega.{arith}
use Rattle.work_columns.proofs.Columns.{pair_stored}
use Rattle.work_columns.proofs.put_pair.Goals as goal

pub returns : goal.returns
returns c = pair_stored c.requires.room c.args.i c.args.v (omega arith) c.args.c (omega arith) (omega arith)
