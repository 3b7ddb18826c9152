-- `record_sizes::list_nodes` meets its contract. The loop's invariant: both tables list the first j nodes.
-- Assumes nothing.
use Rattle.record_sizes.specs.Sizes.{loss_of, ones}
use Rattle.record_sizes.proofs.Listing.{Listing}
use Rattle.record_sizes.proofs.list_nodes.Given as goal

abbrev pub invariant-loop-j : goal.invariant-loop-j
invariant-loop-j l =
    Listing l.t.shape l.w l.t.count ones l.initial.counts l.counts l.j
    × Listing l.t.shape l.w l.t.count (loss_of l.t.shape.pixels l.w) l.initial.losses l.losses l.j
