-- `record_sizes::list_attributed` meets its contract.
-- Assumes nothing.
use Rattle.std.proofs.Common.{arith}
use Rattle.record_sizes.specs.Sizes.{loss_of, ones}
use Rattle.record_sizes.proofs.Listing.{listed_counts, listed_losses, listing_over, tallying_zero}
use Rattle.record_sizes.proofs.list_attributed.Goals as goal

pub list_nodes-requires-clause-counts_of : goal.list_nodes-requires-clause-counts_of
list_nodes-requires-clause-counts_of c =
    tallying_zero c.requires.attributed_stands ones c.args.counts.now c.clear_tables.ensures.counts_after
    (omega (arith, c.requires.tables_fit.counts_fit, c.clear_tables.auto.counts))

pub list_nodes-requires-clause-losses_of : goal.list_nodes-requires-clause-losses_of
list_nodes-requires-clause-losses_of c =
    tallying_zero c.requires.attributed_stands (loss_of c.args.t.shape.pixels c.args.w.now) c.args.losses.now c.clear_tables.ensures.losses_after
    (omega (arith, c.requires.tables_fit.losses_fit, c.clear_tables.auto.losses))

pub returns : goal.returns
returns c =
    let n = c.args.t.shape.pixels in
    let w = c.args.w.now in
    record {
      counted_is =
          listing_over n w ones c.args.t.count c.args.counts.now c.clear_tables.ensures.counts_after c.list_nodes.ensures.counted
          (listed_counts c.requires.attributed_stands);
      lost_is =
          listing_over n w (loss_of n w) c.args.t.count c.args.losses.now c.clear_tables.ensures.losses_after c.list_nodes.ensures.lost
          (listed_losses c.requires.attributed_stands);
      held-is = c.sum_held.ensures;
    }
