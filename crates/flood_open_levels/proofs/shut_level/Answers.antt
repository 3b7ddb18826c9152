-- `flood_open_levels::shut_level` meets its contract.
use Rattle.flood_open_levels.proofs.Shutting.{asked, asked₂, asked₃, word_nonempty, middle_nonempty, root_nonempty, middle_nonempty₃}
use Rattle.flood_open_levels.proofs.Shutting.{shut₁, shut₂, shut₀, shut₃}
use Rattle.flood_open_levels.proofs.shut_level.Goals as goal

pub remove-requires : goal.remove-requires
remove-requires c = asked c.requires

pub greatest-requires : goal.greatest-requires
greatest-requires c = word_nonempty c.requires c.remove.ensures c.if-not-remove.true

pub returns-then-not-remove : goal.returns-then-not-remove
returns-then-not-remove c = shut₁ c.requires c.remove.ensures c.if-not-remove.true c.greatest.ensures

pub remove-requires-2 : goal.remove-requires-2
remove-requires-2 c = asked₂ c.requires c.remove.ensures

pub lightest-requires : goal.lightest-requires
lightest-requires c = middle_nonempty c.requires c.remove.ensures c.if-not-remove.false c.remove-2.ensures c.if-not-remove-2.true

pub returns-then-not-remove-2 : goal.returns-then-not-remove-2
returns-then-not-remove-2 c =
    shut₂ c.requires c.remove.ensures c.if-not-remove.false c.remove-2.ensures c.if-not-remove-2.true c.lightest.ensures

pub remove-requires-3 : goal.remove-requires-3
remove-requires-3 c = asked₃ c.requires c.remove.ensures c.if-not-remove.false c.remove-2.ensures

pub returns-then-remove : goal.returns-then-remove
returns-then-remove c =
    shut₀ c.requires c.remove.ensures c.if-not-remove.false c.remove-2.ensures
    c.if-not-remove-2.false c.remove-3.ensures c.if-remove.true

pub greatest-d-requires : goal.greatest-d-requires
greatest-d-requires c =
    root_nonempty c.requires c.remove.ensures c.if-not-remove.false c.remove-2.ensures
    c.if-not-remove-2.false c.remove-3.ensures c.if-remove.false

pub lightest-requires-2 : goal.lightest-requires-2
lightest-requires-2 c =
    middle_nonempty₃ c.requires c.remove.ensures c.if-not-remove.false c.remove-2.ensures
    c.if-not-remove-2.false c.remove-3.ensures c.greatest-d.ensures

pub returns : goal.returns
returns c =
    shut₃ c.requires c.remove.ensures c.if-not-remove.false c.remove-2.ensures
    c.if-not-remove-2.false c.remove-3.ensures c.greatest-d.ensures c.lightest-2.ensures
