-- `maxtree_attribute::mark_line` meets its contract. The invariant: the own nodes of the first i pixels of the line are marked.
use Rattle.maxtree_attribute.specs.Attributes.{Marked, OnLine}
use Rattle.maxtree_attribute.proofs.mark_line.Given as goal

abbrev pub invariant-loop-i : goal.invariant-loop-i
invariant-loop-i l = Marked l.n (OnLine l.first l.step l.i) l.initial.w l.w
