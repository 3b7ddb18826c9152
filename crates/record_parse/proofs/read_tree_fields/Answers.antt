-- `record_parse::read_tree_fields` meets its contract: what was read so far says which case of `from_root` holds.
use Rattle.std.proofs.Common.{arith}
use Rattle.record_parse.proofs.Fields.{took}
use Rattle.record_parse.proofs.Tree.{Rooted, rooted, root_known, tree_stops₃, tree_stops₄, tree_left, tree_done}
use Rattle.record_parse.proofs.read_tree_fields.Goals as goal
use Rattle.record_parse.proofs.read_tree_fields.Goals.{In_ok-at2}

-- the root's fields
root : (c : In_ok-at2) → Rooted c.args.greatest c.args.s.now c.args.at c.args.n c.args.count c.in_ok-level.level c.in_ok-at2.at2
root c = rooted (took _ _ _ _ c.in_ok-level.ensures) (took _ _ _ _ c.in_ok-at2.ensures)

pub read_nodes-requires : goal.read_nodes-requires
read_nodes-requires c =
    (root_known (root (goal.at.read_nodes-requires c).In_ok-at2) c.put.ensures c.requires.0 (omega (arith, c.requires.1.0, c.requires.1.1)), c.requires.1)

pub returns-in_err-at3 : goal.returns-in_err-at3
returns-in_err-at3 c =
    tree_stops₃ (root (goal.at.returns-in_err-at3 c).In_ok-at2) c.put.ensures c.in_err-at3.ensures c.from_residual-in_err-at3.ensures.1

pub returns-in_err-at4 : goal.returns-in_err-at4
returns-in_err-at4 c =
    tree_stops₄ (root (goal.at.returns-in_err-at4 c).In_ok-at2) c.put.ensures c.in_ok-at3.ensures c.in_err-at4.ensures
    c.from_residual-in_err-at4.ensures.1

pub returns-then-at4-s : goal.returns-then-at4-s
returns-then-at4-s c =
    tree_left (root (goal.at.returns-then-at4-s c).In_ok-at2) c.put.ensures c.in_ok-at3.ensures c.in_ok-at4.ensures c.if-at4-s.true

pub returns : goal.returns
returns c = tree_done (root (goal.at.returns c).In_ok-at2) c.put.ensures c.in_ok-at3.ensures c.in_ok-at4.ensures c.if-at4-s.false
