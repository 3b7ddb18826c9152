-- One blank.
use mathlib.Core.Path.{sym, ◌∙◌}
use native.Mathlib.Omega.{arith}
use Rattle.pgm_header.specs.declared.HeaderFault.TheVariants.{GapOrNumber}
use Rattle.pgm_header.proofs.Places.{faulted, blank_absent, blank_missing, blank_here}
use Rattle.pgm_header.proofs.Cursor.blank.Goals as goal

pub returns-in-Some : goal.returns-in-Some
returns-in-Some c =
    let at = c.in-Some.ensures.lookup.3 in
    record {
      same = sym (blank_here _ _ at.0 (rw (at.1 0) at (sym c.is_blank.ensures ∙ c.if-is_blank.true)));
      within = omega arith;
    }

pub returns-in_default : goal.returns-in_default
returns-in_default c =
    let at = c.in-Some.ensures.lookup.3 in
    faulted GapOrNumber (blank_missing _ _ at.0 (rw (at.1 0) at (sym c.is_blank.ensures ∙ c.if-is_blank.false)))

pub returns-in_default-2 : goal.returns-in_default-2
returns-in_default-2 c = faulted GapOrNumber (blank_absent _ _ (rw c.in_default.is at c.get.ensures.lookup.3))
