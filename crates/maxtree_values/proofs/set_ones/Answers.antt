-- `maxtree_values::set_ones` meets its contract.
use native.Mathlib.Omega.{arith}
use Rattle.maxtree_columns.proofs.Tree.{few_nodes}
use Rattle.maxtree_values.proofs.set_ones.Goals as goal

pub fill-requires-clause-c_bound : goal.fill-requires-clause-c_bound
fill-requires-clause-c_bound c = (omega arith, (few_nodes c.requires, omega arith))
