-- `maxtree_values::cut_values` meets its contract. The invariant: the first i nodes have their values in the cut.
use native.Mathlib.Omega.{arith}
use Rattle.maxtree_columns.proofs.Tree.{few_nodes}
use Rattle.maxtree_values.proofs.Cuts.{cut-done, cutting_climbable, cutting_more}
use Rattle.maxtree_values.proofs.cut_values.Goals as goal

pub cut_value-v-requires : goal.cut_value-v-requires
cut_value-v-requires c = cutting_climbable c.loop-i.invariant c.loop-i-test.true

pub put-requires-clause-c_bound : goal.put-requires-clause-c_bound
put-requires-clause-c_bound c =
    (omega arith, (omega (arith, few_nodes c.loop-i.invariant.attributed.tree), c.cut_value-v.ensures.fits))

pub loop-i-preserved : goal.loop-i-preserved
loop-i-preserved c = cutting_more c.loop-i.invariant c.loop-i-test.true c.cut_value-v.ensures c.put.ensures

pub returns : goal.returns
returns c = cut-done c.set_attributes.ensures c.loop-i.invariant c.loop-i-test.false
