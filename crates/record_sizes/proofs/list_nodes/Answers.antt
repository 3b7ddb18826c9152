-- `record_sizes::list_nodes` meets its contract. The loop's invariant: both tables list the first j nodes.
-- Assumes nothing.
use Rattle.record_sizes.specs.Sizes.{loss_of, ones}
use Rattle.record_sizes.proofs.Listing.{listing_more}
use Rattle.record_sizes.proofs.list_nodes.Goals as goal

pub loop-j-preserved : goal.loop-j-preserved
loop-j-preserved c =
    let l = c.loop-j.invariant in (
      listing_more ones l.0 c.loop-j-test.true c.list_node.auto.counts c.list_node.ensures.counted,
      listing_more (loss_of c.args.t.shape.pixels c.args.w.now) l.1 c.loop-j-test.true c.list_node.auto.losses c.list_node.ensures.lost,
    )
