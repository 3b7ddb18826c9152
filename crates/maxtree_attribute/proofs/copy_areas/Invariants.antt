-- `maxtree_attribute::copy_areas` meets its contract. The invariant: the first i nodes have their areas.
use Rattle.maxtree_attribute.specs.Attributes.{AreasCopied}
use Rattle.maxtree_attribute.proofs.copy_areas.Given as goal

abbrev pub invariant-loop-i : goal.invariant-loop-i
invariant-loop-i l = AreasCopied l.n l.i l.initial.w l.w
