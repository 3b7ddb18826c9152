-- `maxtree_attribute::set_attributes` meets its contract.
use Rattle.maxtree_attribute.proofs.Raising.{raised_first, raised_here}
use Rattle.maxtree_attribute.proofs.set_attributes.Goals as goal

pub hand_marks-requires : goal.hand_marks-requires
hand_marks-requires c = raised_here (raised_first c.requires c.copy_areas.ensures c.mark_edge.ensures)
