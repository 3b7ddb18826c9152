-- "P5" and the gap after it.
use mathlib.Core.Path.{sym, ◌∙◌}
use native.Mathlib.Omega.{arith}
use Prim.Native.Nat.{◌<◌}
use lib.ListN.{length}
use Rattle.pgm_header.specs.declared.HeaderFault.TheVariants.{Letters}
use Rattle.theory_lists.proofs.Lists.{take_rest}
use Rattle.pgm_header.proofs.Places.{faulted, letters_absent, letters_other, letters_here}
use Rattle.pgm_header.proofs.Cursor.opening.Goals as goal

pub returns-in-Some : goal.returns-in-Some
returns-in-Some c =
    let e = rw (c.in-Some.ensures.lookup.0.2, take_rest c.args.file.now c.args.self.at) at c.starts_with.ensures.value in
    rw (letters_here c.args.file.now c.args.self.at (sym e ∙ c.if-starts_with.true)) c.gap.ensures

pub returns-in_default : goal.returns-in_default
returns-in_default c =
    let e = rw (c.in-Some.ensures.lookup.0.2, take_rest c.args.file.now c.args.self.at) at c.starts_with.ensures.value in
    faulted Letters (letters_other c.args.file.now c.args.self.at (sym e ∙ c.if-starts_with.false))

pub returns-in_default-2 : goal.returns-in_default-2
returns-in_default-2 c =
    let beyond : length c.args.file.now < c.args.self.at = let h = (rw c.in_default.is at c.get.ensures.lookup).0 in omega arith in
    faulted Letters (letters_absent _ _ beyond)
