-- `maxtree_values::climb` meets its contract.
use mathlib.Core.Path.{sym, ◌∙◌}
use Rattle.maxtree_values.proofs.Cuts.{climbed_parent}
use Rattle.maxtree_values.proofs.+climb.Goals as goal

pub returns : goal.returns
returns t c = climbed_parent c.requires (sym c.qualifies.ensures ∙ c.if-qualifies.false) c.get-parent.ensures.0 c.climb.ensures
