-- `plate_entries::node_entries` meets its contract.
use Rattle.plate_entries.proofs.Results.{entries_listed, fillable}
use Rattle.plate_entries.proofs.node_entries.Goals as goal

pub fill-requires : goal.fill-requires
fill-requires c = fillable c.args.list.now c.in_ok-count.ensures

pub returns : goal.returns
returns c = entries_listed c.args.list.now c.in_ok-count.ensures c.fill.ensures c.clear.ensures
