-- `flood_neighbours::rise` meets its contract.
use Rattle.flood_laws.proofs.Looks.{back_ok, look_high, look_low, look_pushable}
use Rattle.flood_neighbours.proofs.rise.Goals as goal

pub open_node-requires-clause-pushable : goal.open_node-requires-clause-pushable
open_node-requires-clause-pushable c =
    rw (c.place.ensures, c.entry.ensures)
    (look_pushable c.requires.looking.0 c.requires.looking.1 c.requires.new_level.level c.requires.new_level.unseen)

pub returns-then-m-h-clause-looked : goal.returns-then-m-h-clause-looked
returns-then-m-h-clause-looked c =
    let pushed = rw (c.place.ensures, c.entry.ensures) at c.open_node.ensures in
    look_low c.requires.looking.0 c.requires.looking.1 c.requires.new_level.level c.requires.new_level.unseen pushed c.if-m-h.true

pub place-requires-2 : goal.place-requires-2
place-requires-2 c =
    let pushed = rw (c.place.ensures, c.entry.ensures) at c.open_node.ensures in
    rw c.entry-2.ensures
    (back_ok c.requires.looking.0 c.requires.looking.1 c.requires.new_level.level c.requires.new_level.unseen pushed c.if-m-h.false)

pub returns-clause-looked : goal.returns-clause-looked
returns-clause-looked c =
    let pushed = rw (c.place.ensures, c.entry.ensures) at c.open_node.ensures in
    let placed = rw c.entry-2.ensures at c.place-2.ensures in
    look_high c.requires.looking.0 c.requires.looking.1 c.requires.new_level.level c.requires.new_level.unseen pushed c.if-m-h.false placed
