-- `record_sizes::clear_tables` meets its contract.
-- Assumes nothing.
use Rattle.record_sizes.proofs.Listing.{zeros_over}
use Rattle.record_sizes.proofs.clear_tables.Goals as goal

pub returns-clause-counts_after : goal.returns-clause-counts_after
returns-clause-counts_after c = zeros_over c.args.m c.args.counts.now c.requires.0 (c.fill.ensures.after (λ y e. e))

pub returns-clause-losses_after : goal.returns-clause-losses_after
returns-clause-losses_after c = zeros_over c.args.m c.args.losses.now c.requires.1 (c.fill-2.ensures.after (λ y e. e))
