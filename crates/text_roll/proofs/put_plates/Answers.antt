-- `text_roll::put_plates` meets its contract. The invariant: the texts of some plates are put, and those that are left begin at a place.
use Rattle.std.proofs.Common.{arith}
use Rattle.pgm_roll.proofs.Places.{begins_far, begins_stands}
use Rattle.text_roll.proofs.Texts.{begun, put_here, putting_done, putting_first, putting_more, sound_here}
use Rattle.text_roll.proofs.put_plates.Goals as goal

pub loop-at-init : goal.loop-at-init
loop-at-init c = putting_first _ _ c.requires

pub unwrap-plate-requires : goal.unwrap-plate-requires
unwrap-plate-requires c = sound_here c.loop-at.invariant c.loop-at-test.true c.plate_at.result c.plate_at.ensures

pub put_plate-requires : goal.put_plate-requires
put_plate-requires c = put_here c.loop-at.invariant c.loop-at-test.true (rw c.unwrap-plate.ensures at c.plate_at.ensures)

pub loop-at-smaller : goal.loop-at-smaller
loop-at-smaller c =
    let b = begun c.loop-at.invariant c.loop-at-test.true (rw c.unwrap-plate.ensures at c.plate_at.ensures) in
    omega (arith, begins_far b, (begins_stands b).till, c.loop-at-test.true)

pub loop-at-preserved : goal.loop-at-preserved
loop-at-preserved c =
    let there = rw c.unwrap-plate.ensures at c.plate_at.ensures in
    putting_more c.loop-at.invariant c.loop-at-test.true there c.put_plate.ensures.puts c.put_plate.ensures.upper_bound

pub returns : goal.returns
returns c = putting_done c.loop-at.invariant c.loop-at-test.false
