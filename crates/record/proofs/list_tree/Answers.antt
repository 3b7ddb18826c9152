-- `record::list_tree` meets its contract.
use native.Mathlib.Omega.{arith}
use Rattle.record.proofs.Standing.{nodes_few}
use Rattle.record.proofs.list_tree.Goals as goal

pub overflow_cast-result : goal.overflow_cast-result
overflow_cast-result c = omega (arith, nodes_few c.requires)
