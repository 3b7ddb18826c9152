-- So many greys are written, and as many steps are taken.
use lib.Seq.{length-take-le}
use Rattle.seeded_plates.proofs.Sequence.{greys_long}
use Rattle.seeded_plates.proofs.Generating.{generating_done, generating_first, generating_more}
use Rattle.seeded_plates.proofs.write_greys.Goals as goal

pub loop-place-init : goal.loop-place-init
loop-place-init c = generating_first _ _ _ (length-take-le c.args.pixels c.args.out.now c.requires)

pub loop-place-preserved : goal.loop-place-preserved
loop-place-preserved c = generating_more c.loop-place.invariant c.loop-place-test.true c.next_state-state.ensures c.top_eight.ensures

pub returns : goal.returns
returns c = rw (generating_done c.loop-place.invariant c.loop-place-test.false, greys_long c.args.pixels c.args.seed)
