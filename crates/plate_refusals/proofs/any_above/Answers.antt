-- `plate_refusals::any_above` meets its contract.
use Rattle.std.proofs.Common.{rules, ◌≡◌, ◌<◌, ◌↔◌}
use Rattle.std.specs.Bool.{IsTrue}
use Rattle.std.specs.List.{Any}
use Rattle.plate_refusals.proofs.Refusals.{above_is}
use Rattle.plate_refusals.proofs.any_above.Goals as goal

pub returns : goal.returns
returns c =
    let e : IsTrue c.any.result ↔ Any (λ x. c.args.greatest < x) c.args.image.now = search rules in
    above_is c.args.greatest c.args.image.now c.any.result e
