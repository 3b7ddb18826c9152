-- `flood_open_levels::open_level` meets its contract.
use Rattle.flood_open_levels.proofs.Opening.{asked, opened, asked₂, opened₂, asked₃, opened₃}
use Rattle.flood_open_levels.proofs.open_level.Goals as goal
use Rattle.flood_open_levels.proofs.open_level.Goals.{else-add-via-then-add+else-add-2, else-add-via-else-add}

pub add-requires : goal.add-requires
add-requires c = asked c.requires

pub add-requires-then-add : goal.add-requires-then-add
add-requires-then-add c = asked₂ c.requires c.add.ensures c.if-add.true

pub add-requires-then-add-2 : goal.add-requires-then-add-2
add-requires-then-add-2 c = asked₃ c.requires c.add.ensures c.if-add.true c.add-then-add.ensures c.if-add-2.true

pub returns-then-add-2 : goal.returns-then-add-2
returns-then-add-2 c = opened₃ c.requires c.add.ensures c.if-add.true c.add-then-add.ensures c.if-add-2.true c.add-then-add-2.ensures

pub returns-else-add : goal.returns-else-add
returns-else-add c = elim c.else-add.branch [
  | else-add-via-then-add+else-add-2 w ↦ rw w.s-is (opened₂ c.requires c.add.ensures w.if-add.true w.add-then-add.ensures w.if-add-2.false)
  | else-add-via-else-add w ↦ rw w.s-is (opened c.requires c.add.ensures w.if-add.false)
]
