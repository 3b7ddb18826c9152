-- `record_sizes::loss_of` meets its contract.
-- Assumes nothing.
use Rattle.std.proofs.Common.{arith}
use Rattle.maxtree_columns.proofs.Tree.{few_nodes, level_rises, parent_earlier}
use Rattle.record_sizes.proofs.Listing.{below_low, loss_is, loss_low}
use Rattle.record_sizes.proofs.loss_of.Goals as goal

pub get-below-requires-clause-c_bound : goal.get-below-requires-clause-c_bound
get-below-requires-clause-c_bound c =
    let t = c.requires.tree_stands in
    let p = parent_earlier t c.args.j c.requires.j_nonzero.0 c.requires.j_nonzero.1 in
    (omega arith, omega (arith, few_nodes t, c.requires.j_nonzero, c.get-parent.ensures.0))

pub overflow_sub-result : goal.overflow_sub-result
overflow_sub-result c =
    let low =
    below_low c.args.t.shape.pixels c.args.w.now c.args.j c.get-parent.ensures.0 c.get-area.ensures.0 c.get-level.ensures.0
    c.get-below.ensures.0 (level_rises c.requires.tree_stands c.args.j c.requires.j_nonzero.0 c.requires.j_nonzero.1) in
    omega (arith, low)

pub overflow_mul-result : goal.overflow_mul-result
overflow_mul-result c =
    omega (
      arith,
      loss_is c.args.t.shape.pixels c.args.w.now c.args.j c.get-parent.ensures.0 c.get-area.ensures.0 c.get-level.ensures.0
          c.get-below.ensures.0,
      loss_low c.requires.tree_stands c.args.j c.requires.j_nonzero.0 c.requires.j_nonzero.1,
    )

pub returns : goal.returns
returns c =
    let e =
    loss_is c.args.t.shape.pixels c.args.w.now c.args.j c.get-parent.ensures.0 c.get-area.ensures.0 c.get-level.ensures.0
    c.get-below.ensures.0 in
    (e, omega (arith, e, loss_low c.requires.tree_stands c.args.j c.requires.j_nonzero.0 c.requires.j_nonzero.1))
