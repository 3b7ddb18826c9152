-- `flood_neighbours::look_around` meets its contract.
use Prim.Native.Nat.{◌+◌, ◌*◌}
use Rattle.flood_laws.proofs.Looks.{all_directions, then, visited}
use Rattle.flood_neighbours.proofs.look_around.Goals as goal

pub returns : goal.returns
returns g c =
    let args = c.args in
    let looked2 = then c.look_in.ensures.looked (rw c.in_default.is) c.look_in-2.ensures.looked in
    let looked3 = then looked2 (rw c.in_default-look_in.is) c.look_in-3.ensures.looked in
    let looked4 = then looked3 (rw c.in_default-look_in-2.is) c.look_in-4.ensures.looked in
    let looked5 = then looked4 (rw c.in_default-look_in-3.is) c.look_in-5.ensures.looked in
    let looked6 = then looked5 (rw c.in_default-look_in-4.is) c.look_in-6.ensures.looked in
    let looked7 = then looked6 (rw c.in_default-look_in-5.is) c.look_in-7.ensures.looked in
    let looked8 = then looked7 (rw c.in_default-look_in-6.is) c.look_in-8.ensures.looked in
    visited looked8 (λ q l t. all_directions args.g (args.at.y * args.g.width + args.at.x) q c.requires.looking.machine.sizes.kind t)
