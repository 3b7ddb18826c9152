-- The measure of `maxtree_values::climb` is the node's number, which falls.
use Rattle.maxtree_values.proofs.+climb.Given as goal

abbrev pub decreases-climb : goal.decreases-climb
decreases-climb l = l.i
