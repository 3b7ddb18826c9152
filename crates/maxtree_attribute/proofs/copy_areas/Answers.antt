-- `maxtree_attribute::copy_areas` meets its contract. The invariant: the first i nodes have their areas.
use native.Mathlib.Omega.{arith}
use Rattle.maxtree_columns.proofs.Tree.{few_nodes}
use Rattle.maxtree_attribute.proofs.Marks.{copied_more}
use Rattle.maxtree_attribute.proofs.copy_areas.Goals as goal

pub get-area-requires-clause-c_bound : goal.get-area-requires-clause-c_bound
get-area-requires-clause-c_bound c = (omega arith, omega (arith, few_nodes c.requires))

pub put-requires-clause-c_bound : goal.put-requires-clause-c_bound
put-requires-clause-c_bound c = (omega arith, (omega (arith, few_nodes c.requires), c.get-area.ensures.1))

pub loop-i-preserved : goal.loop-i-preserved
loop-i-preserved c = copied_more c.loop-i.invariant (omega (arith, few_nodes c.requires)) c.get-area.ensures.0 c.put.ensures
