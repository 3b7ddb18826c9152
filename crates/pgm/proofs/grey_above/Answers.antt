-- `pgm::grey_above` meets its contract.
use Prim.Native.Nat.{◌≤◌, ◌<◌}
use Rattle.std.proofs.Common.{rules, tests}
use Rattle.std.proofs.lemmas.Iterator.{cases_from_any, YieldsList-from_range}
use Rattle.meaning.specs.Plate.{grey}
use Rattle.pgm.specs.File.{greys_of}
use Rattle.pgm.proofs.Raster.{above_is}
use Rattle.pgm.proofs.grey_above.Goals as goal

pub returns : goal.returns
returns c =
    let M = c.args.greatest in
    let f = greys_of M c.args.raster.now in
    above_is M f _ c.pixel_count.ensures _
    (cases_from_any _ _ _ (λ p. M < grey f p) (λ p. grey f p ≤ M) c.any.ensures.ran (YieldsList-from_range 0 c.pixel_count.result _ (search rules) (search rules))
    (λ x q k. search (rules, tests)) (λ x q k. search (rules, tests)))
