-- So many greys are written, and as many steps are taken.
use Rattle.seeded_plates.proofs.Generating.{Generating}
use Rattle.seeded_plates.proofs.write_greys.Given as goal

abbrev pub invariant-loop-place : goal.invariant-loop-place
invariant-loop-place l = Generating l.seed l.pixels l.initial.place-items l.place-index l.state l.place-items
