-- `plate_filter::regional_maxima` meets its contract.
use Rattle.std.proofs.Common.{arith, sym}
use Rattle.plate_refusals.proofs.Refusals.{maxima_none}
use Rattle.plate_tree.proofs.Building.{plate_ready}
use Rattle.plate_filter.proofs.Results.{answered, marks_are, stands}
use Rattle.plate_filter.proofs.regional_maxima.Goals as goal

pub plate_tree-tree-requires : goal.plate_tree-tree-requires
plate_tree-tree-requires c =
    let z = maxima_none _ _ _ _ _ _ _ (sym c.in_ok-check_maxima.ensures) in plate_ready c.shape.ensures z.taken z.space

pub mark_leaves-requires : goal.mark_leaves-requires
mark_leaves-requires c =
    stands c.args.plate c.args.image.now c.shape.ensures c.plate_tree-tree.ensures.shape c.plate_tree-tree.ensures.tree

pub deliver-requires-clause-n_in_bounds : goal.deliver-requires-clause-n_in_bounds
deliver-requires-clause-n_in_bounds c =
    let z = maxima_none _ _ _ _ _ _ _ (sym c.in_ok-check_maxima.ensures) in omega (arith, z.room, z.taken.long)

pub returns : goal.returns
returns c =
    let s = c.args in
    let t = c.plate_tree-tree.ensures in
    rw (← marks_are s.plate s.image.now c.shape.ensures t.shape t.tree)
    (answered s.plate s.image.now c.shape.ensures t.shape t.tree c.mark_leaves.ensures c.in_ok-check_maxima.ensures c.deliver.ensures)
