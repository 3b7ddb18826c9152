-- `flood_neighbours::look` meets its contract.
use native.Mathlib.Omega.{arith}
use Rattle.flood_laws.proofs.Effects.{joinable}
use Rattle.flood_laws.proofs.Looks.{look_inside, look_level, look_low, look_new, look_pushable, open_low}
use Rattle.flood_neighbours.proofs.look.Goals as goal

pub get_pair-a-requires-clause-lt_c : goal.get_pair-a-requires-clause-lt_c
get_pair-a-requires-clause-lt_c c =
    let own = rw c.place-q.ensures at c.get-o.ensures.0 in
    let level = look_level c.requires.looking c.requires.toward own c.if-o-n.false in
    let new = look_new c.requires.looking c.requires.toward own c.if-o-n.false in
    (omega arith, (omega arith, look_inside c.requires.looking c.requires.toward level new))

pub rise-requires-clause-new_level : goal.rise-requires-clause-new_level
rise-requires-clause-new_level c =
    let own = rw c.place-q.ensures at c.get-o.ensures.0 in
    record {
      level = look_level c.requires.looking c.requires.toward own c.if-o-n.false;
      unseen = look_new c.requires.looking c.requires.toward own c.if-o-n.false;
      shut = omega (arith, c.get_pair-a.ensures.0, c.if-a-eq0.true);
    }

pub join-requires : goal.join-requires
join-requires c =
    let own = rw c.place-q.ensures at c.get-o.ensures.0 in
    let level = look_level c.requires.looking c.requires.toward own c.if-o-n.false in
    let new = look_new c.requires.looking c.requires.toward own c.if-o-n.false in
    let push = look_pushable c.requires.looking c.requires.toward level new in
    rw (c.place-q.ensures, c.entry.ensures) (joinable push.nameable push.pixel push.placeable c.get_pair-a.ensures.0 c.if-a-eq0.false)

pub returns-clause-looked : goal.returns-clause-looked
returns-clause-looked c =
    let own = rw c.place-q.ensures at c.get-o.ensures.0 in
    let level = look_level c.requires.looking c.requires.toward own c.if-o-n.false in
    let new = look_new c.requires.looking c.requires.toward own c.if-o-n.false in
    let low = open_low c.requires.looking c.requires.toward level new (omega (arith, c.get_pair-a.ensures.0, c.if-a-eq0.false)) in
    let joined = rw (c.place-q.ensures, c.entry.ensures) at c.join.ensures in
    look_low c.requires.looking c.requires.toward level new (joined.pushed _) low
