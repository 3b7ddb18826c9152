-- `plate_filter::node_list` meets its contract.
use Rattle.std.proofs.Common.{◌≡◌, arith}
use Rattle.std.proofs.lemmas.Result.{err_from_is_err_and}
use Rattle.plate_filter.specs.Operations.{Columns, columns, places_of}
use Rattle.plate_filter.proofs.NodeLists.{listed_done, listed_lent, listed_refused}
use Rattle.plate_filter.proofs.node_list.Goals as goal
use Rattle.plate_filter.proofs.node_list.Goals.{Start}

-- the columns that were lent
abbrev lent : (c : Start) → Columns
lent c = let s = c.args in columns s.levels.now s.parents.now s.areas.now s.anchors.now

pub returns-in_err-count : goal.returns-in_err-count
returns-in_err-count c =
    let out = lent (goal.at.returns-in_err-count c).Start in
    let few : c.min-places.result ≡ places_of out = omega (arith, c.min.ensures, c.min-2.ensures, c.min-places.ensures) in
    let p = err_from_is_err_and c.from_residual.result c.from_residual.ensures.1 in
    rw (p.1, p.2) (listed_refused out _ (rw few at c.in_err-count.ensures))

pub write_nodes-requires : goal.write_nodes-requires
write_nodes-requires c =
    let out = lent (goal.at.write_nodes-requires c).Start in
    let few : c.min-places.result ≡ places_of out = omega (arith, c.min.ensures, c.min-2.ensures, c.min-places.ensures) in
    listed_lent out (rw few at c.in_ok-count.ensures)

pub returns : goal.returns
returns c =
    let out = lent (goal.at.returns c).Start in
    let few : c.min-places.result ≡ places_of out = omega (arith, c.min.ensures, c.min-2.ensures, c.min-places.ensures) in
    listed_done out (rw few at c.in_ok-count.ensures) c.write_nodes.ensures c.clear.ensures
