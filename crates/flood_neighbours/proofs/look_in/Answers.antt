-- `flood_neighbours::look_in` meets its contract.
use native.Mathlib.Omega.{arith}
use Rattle.theory_connectivity.proofs.Connectivity.{kind_most}
use Rattle.flood_laws.proofs.Looks.{look_in, look_none, toward}
use Rattle.flood_neighbours.proofs.look_in.Goals as goal

pub neighbour-requires-clause-direction : goal.neighbour-requires-clause-direction
neighbour-requires-clause-direction g c = omega (arith, kind_most c.args.g.connectivity c.requires.looking.machine.sizes.kind)

pub returns-in_err-to-clause-looked : goal.returns-in_err-to-clause-looked
returns-in_err-to-clause-looked g c =
    let none = rw c.in_err-to.was at c.neighbour.ensures in
    rw c.from_residual.ensures (look_none c.requires.looking g.row.D none)

pub look-requires-clause-toward : goal.look-requires-clause-toward
look-requires-clause-toward g c =
    toward c.requires.looking g.row.D (rw c.in_ok-to.was at c.neighbour.ensures) (omega arith)

pub returns-clause-looked : goal.returns-clause-looked
returns-clause-looked g c =
    look_in c.requires.looking g.row.D (rw c.in_ok-to.was at c.neighbour.ensures) c.look.ensures.looked
