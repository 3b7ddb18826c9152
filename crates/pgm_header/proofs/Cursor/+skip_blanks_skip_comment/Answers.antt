-- The cycle of calls {skip_blanks, skip_comment} meets its contracts.
use Rattle.std.proofs.Common.{rules}
use Rattle.pgm_header.specs.Grammar.{blank, in_comment}
use Rattle.pgm_header.proofs.Skipping.{blanks_at_end, blanks_at_other, blanks_paused, blanks_comment, comment_unended, comment_blanks}
use Rattle.pgm_header.proofs.Cursor.+skip_blanks_skip_comment.Goals as goal
use Rattle.pgm_header.proofs.Cursor.+skip_blanks_skip_comment.Goals.{
  skip_blanks-then-at-file-via-then-at-file,
  skip_blanks-then-at-file-via-else-at-file+then-file-at-ne35,
}

pub skip_blanks-returns-then-at-file : goal.skip_blanks-returns-then-at-file
skip_blanks-returns-then-at-file t c =
    let count = c.front_end-at.ensures.counted blank (λ b r k. search rules) in
    elim c.then-at-file.branch [
      | skip_blanks-then-at-file-via-then-at-file w ↦ blanks_at_end _ _ _ count c.requires w.if-at-file.true
      | skip_blanks-then-at-file-via-else-at-file+then-file-at-ne35 w ↦
          blanks_at_other _ _ _ count c.requires w.if-at-file.false w.if-file-at-ne35.true
    ]

pub skip_blanks-returns-then-turns-eq0 : goal.skip_blanks-returns-then-turns-eq0
skip_blanks-returns-then-turns-eq0 t c =
    blanks_paused _ _ _ (c.front_end-at.ensures.counted blank (λ b r k. search rules)) c.requires c.if-turns-eq0.true

pub skip_blanks-returns : goal.skip_blanks-returns
skip_blanks-returns t c =
    blanks_comment _ _ _ (c.front_end-at.ensures.counted blank (λ b r k. search rules)) c.requires _ c.if-at-file.false c.if-file-at-ne35.false
    c.if-turns-eq0.false _ c.skip_comment.ensures

pub skip_comment-returns-then-at-file : goal.skip_comment-returns-then-at-file
skip_comment-returns-then-at-file t c =
    comment_unended _ _ _ (c.front_end-at.ensures.counted in_comment (λ b r k. search rules)) c.requires c.if-at-file.true

pub skip_comment-returns : goal.skip_comment-returns
skip_comment-returns t c =
    comment_blanks _ _ _ (c.front_end-at.ensures.counted in_comment (λ b r k. search rules)) c.requires _ c.if-at-file.false _ c.skip_blanks.ensures
