-- A blank, and then any mix of blanks and comments.
use Rattle.std.proofs.lemmas.Result.{err_from_is_err_and}
use Rattle.pgm_header.proofs.Parsing.{blank_stopped, blank_went}
use Rattle.pgm_header.proofs.Cursor.gap.Goals as goal

pub returns-in_err-blank : goal.returns-in_err-blank
returns-in_err-blank c =
    let p = err_from_is_err_and c.from_residual.result c.from_residual.ensures.1 in
    rw (p.1, p.2) (blank_stopped _ c.in_err-blank.ensures)

pub returns : goal.returns
returns c = blank_went _ c.in_ok-blank.ensures c.mix.ensures
