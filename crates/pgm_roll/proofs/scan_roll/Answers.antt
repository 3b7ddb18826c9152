-- `pgm_roll::scan_roll` meets its contract. The invariant: the plates up to a place are known, and the roll goes on there.
use mathlib.Core.Path.{refl, ap, ◌∙◌}
use Prim.Native.Nat.{ℕ, max}
use native.Mathlib.Omega.{arith}
use Rattle.pgm_roll.specs.Roll.{place_answer}
use Rattle.pgm_roll.proofs.Places.{Begins, begins_far, begins_stands, place-begins, place_faulty, stands_sizes}
use Rattle.pgm_roll.proofs.Scanning.{found_here, found_other, scanned_all, scanned_refused, scanning_first, scanning_more}
use Rattle.refusals.proofs.Numbers.{number_nonzero}
use Rattle.std.proofs.Common.{Ok}
use Rattle.pgm_roll.proofs.scan_roll.Goals as goal
use Rattle.pgm_roll.proofs.scan_roll.Goals.{In_ok-plate, then-count-number, else-count-number}

-- the plate begins there
begun : (c : In_ok-plate) → Begins c.args.file.now c.loop-at.at (place_answer (Ok c.in_ok-plate.plate))
begun c = place-begins c.args.file.now c.loop-at.at c.in_ok-plate.ensures refl

pub loop-at-init : goal.loop-at-init
loop-at-init c = scanning_first _ _

pub returns-in_err-plate : goal.returns-in_err-plate
returns-in_err-plate c =
    scanned_refused c.loop-at.invariant _ _ c.from_residual.ensures.1 c.loop-at-test.true
    (place_faulty c.args.file.now c.loop-at.at c.in_err-plate.ensures (number_nonzero _))

pub pixels-requires : goal.pixels-requires
pixels-requires c = stands_sizes (begins_stands (begun (goal.at.pixels-requires c).In_ok-plate))

pub loop-at-smaller : goal.loop-at-smaller
loop-at-smaller c =
    let b = begun (goal.at.loop-at-smaller c).In_ok-plate in
    omega (arith, begins_far b, (begins_stands b).till, c.loop-at-test.true)

pub loop-at-preserved : goal.loop-at-preserved
loop-at-preserved c =
    let b = begun (goal.at.loop-at-preserved c).In_ok-plate in
    let k = c.loop-at.invariant in
    scanning_more k b (c.max-largest.ensures ∙ ap (λ (n : ℕ). max n c.loop-at.largest) c.pixels.ensures)
    (elim c.if-count-number.branch [
      | then-count-number w ↦ rw w.chosen-is (found_here k b w.if-count-number.true)
      | else-count-number w ↦ rw w.chosen-is (found_other k b w.if-count-number.false _ k.found)
    ])

pub returns : goal.returns
returns c = scanned_all c.loop-at.invariant c.loop-at-test.false
