-- `record_sizes::list_node` meets its contract.
-- Assumes nothing.
use Rattle.std.proofs.Common.{ℕ, ◌+◌, ◌-◌, ◌≤◌, ◌<◌, length, ap, refl, get_or, arith}
use Rattle.maxtree_columns.proofs.Tree.{few_nodes}
use Rattle.record_sizes.specs.Sizes.{loss_of, most_lost, ones}
use Rattle.record_sizes.proofs.Listing.{added, added_low, added_past, added_place, inner, loss_low}
use Rattle.record_sizes.proofs.list_node.Goals as goal
use Rattle.record_sizes.proofs.list_node.Goals.{Else-t-size}

-- the node's place in the tables
counts_place : (c : Else-t-size) → (1 ≤ c.get-size.result) × (c.get-size.result - 1 < length c.args.counts.now)
counts_place c =
    let a = c.requires.attributed_stands in
    added_place a.0 ones c.requires.counts_of a.1 c.get-size.ensures.0 c.if-t-size.false

losses_place : (c : Else-t-size) → (1 ≤ c.get-size.result) × (c.get-size.result - 1 < length c.args.losses.now)
losses_place c =
    let a = c.requires.attributed_stands in
    added_place a.0 (loss_of c.args.t.shape.pixels c.args.w.now) c.requires.losses_of a.1 c.get-size.ensures.0 c.if-t-size.false

pub returns-then-t-size-clause-counted : goal.returns-then-t-size-clause-counted
returns-then-t-size-clause-counted c =
    let a = c.requires.attributed_stands in
    added_past a.0 ones c.requires.counts_of a.1 c.get-size.ensures.0 c.if-t-size.true

pub returns-then-t-size-clause-lost : goal.returns-then-t-size-clause-lost
returns-then-t-size-clause-lost c =
    let a = c.requires.attributed_stands in
    added_past a.0 (loss_of c.args.t.shape.pixels c.args.w.now) c.requires.losses_of a.1 c.get-size.ensures.0 c.if-t-size.true

pub loss_of-loss-requires-clause-j_nonzero : goal.loss_of-loss-requires-clause-j_nonzero
loss_of-loss-requires-clause-j_nonzero c =
    let a = c.requires.attributed_stands in
    (inner a.0 c.args.j a.1 (omega (arith, c.if-t-size.false, c.get-size.ensures.0)), a.1)

pub overflow_sub-place : goal.overflow_sub-place
overflow_sub-place c = omega (arith, counts_place (goal.at.overflow_sub-place c).Else-t-size)

pub bounds-counts-place : goal.bounds-counts-place
bounds-counts-place c = omega (arith, counts_place (goal.at.bounds-counts-place c).Else-t-size)

pub bounds-losses-place : goal.bounds-losses-place
bounds-losses-place c = omega (arith, losses_place (goal.at.bounds-losses-place c).Else-t-size)

pub bounds-counts-place-2 : goal.bounds-counts-place-2
bounds-counts-place-2 c = omega (arith, counts_place (goal.at.bounds-counts-place-2 c).Else-t-size)

pub bounds-losses-place-2 : goal.bounds-losses-place-2
bounds-losses-place-2 c = omega (arith, losses_place (goal.at.bounds-losses-place-2 c).Else-t-size)

pub overflow_add-counts : goal.overflow_add-counts
overflow_add-counts c =
    let a = c.requires.attributed_stands in
    omega (
      arith,
      added_low a.0 ones c.requires.counts_of a.1 c.get-size.ensures.0 c.if-t-size.false 1 (λ i h m. omega arith),
      few_nodes a.0.tree,
      a.1,
      a.0.tree.room.small,
    )

pub overflow_add-losses : goal.overflow_add-losses
overflow_add-losses c =
    let a = c.requires.attributed_stands in
    omega (
      arith,
      added_low a.0 (loss_of c.args.t.shape.pixels c.args.w.now) c.requires.losses_of a.1 c.get-size.ensures.0 c.if-t-size.false most_lost (loss_low a.0.tree),
      c.loss_of-loss.ensures.1,
      few_nodes a.0.tree,
      a.1,
      a.0.tree.room.small,
    )

pub returns-clause-counted : goal.returns-clause-counted
returns-clause-counted c =
    let a = c.requires.attributed_stands in
    added a.0 ones c.requires.counts_of a.1 c.get-size.ensures.0 c.if-t-size.false _ refl

pub returns-clause-lost : goal.returns-clause-lost
returns-clause-lost c =
    let a = c.requires.attributed_stands in
    let size : ℕ = c.get-size.result in
    added a.0 (loss_of c.args.t.shape.pixels c.args.w.now) c.requires.losses_of a.1 c.get-size.ensures.0 c.if-t-size.false _
    (ap (λ (x : ℕ). get_or c.args.losses.now (size - 1) 0 + x) c.loss_of-loss.ensures.0)
