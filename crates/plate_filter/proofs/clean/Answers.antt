-- `plate_filter::clean` meets its contract.
use Rattle.std.proofs.Common.{◌≡◌, ◌∙◌, ℕ, arith, refl, sym}
use denote.Enum.Bare.{sameb}
use lib.Dec.{eqb}
use Rattle.meaning.specs.Opening.{dark_side}
use Rattle.plate_refusals.specs.Sides.{side_number}
use Rattle.plate_refusals.specs.contracts.Side.{the_type}
use Rattle.plate_refusals.specs.declared.Side.{Side}
use Rattle.plate_refusals.specs.declared.Side.TheVariants.{Dark, Light}
use Rattle.plate_refusals.proofs.Refusals.{clean_none}
use Rattle.plate_tree.proofs.Building.{plate_ready}
use Rattle.plate_filter.proofs.Results.{answered, cleaned-is, pixels_are, stands}
use Rattle.plate_filter.proofs.clean.Goals as goal

pub plate_tree-tree-requires : goal.plate_tree-tree-requires
plate_tree-tree-requires c =
    let z = (clean_none _ _ _ _ _ _ _ _ _ (sym c.in_ok-chosen.ensures.number)).sizes in plate_ready c.shape.ensures z.taken z.space

pub cut_values-requires-clause-tree_stands : goal.cut_values-requires-clause-tree_stands
cut_values-requires-clause-tree_stands c =
    stands c.args.plate c.args.image.now c.shape.ensures c.plate_tree-tree.ensures.shape c.plate_tree-tree.ensures.tree

pub cut_values-requires-clause-limit_le_pixels : goal.cut_values-requires-clause-limit_le_pixels
cut_values-requires-clause-limit_le_pixels c =
    let z = (clean_none _ _ _ _ _ _ _ _ _ (sym c.in_ok-chosen.ensures.number)).sizes in
    omega (arith, z.limit_high, z.taken.long, pixels_are c.args.plate c.args.image.now c.shape.ensures c.plate_tree-tree.ensures.shape)

pub deliver-requires-clause-n_in_bounds : goal.deliver-requires-clause-n_in_bounds
deliver-requires-clause-n_in_bounds c =
    let z = (clean_none _ _ _ _ _ _ _ _ _ (sym c.in_ok-chosen.ensures.number)).sizes in omega (arith, z.room, z.taken.long)

-- the dark side by its number
dark : (s : Side) {side : ℕ} → side_number s ≡ side → sameb the_type s Dark ≡ eqb side dark_side
dark Light is = rw (sym is) refl
dark Dark is = rw (sym is) refl

pub returns : goal.returns
returns c =
    let s = c.args in
    let z = (clean_none _ _ _ _ _ _ _ _ _ (sym c.in_ok-chosen.ensures.number)).sizes in
    let t = c.plate_tree-tree.ensures in
    let negated = c.eq-negated.ensures ∙ dark c.in_ok-chosen.chosen c.in_ok-chosen.ensures.chosen in
    rw (← cleaned-is s.plate s.image.now c.shape.ensures t.shape t.tree s.side s.limit negated (omega (arith, z.limit_high, z.taken.long)))
    (answered s.plate s.image.now c.shape.ensures t.shape t.tree c.cut_values.ensures c.in_ok-chosen.ensures.number c.deliver.ensures)
