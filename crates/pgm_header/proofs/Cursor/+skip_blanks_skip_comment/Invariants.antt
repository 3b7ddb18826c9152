-- The cycle of calls {skip_blanks, skip_comment}. Each one's measure is the number of bytes left, which falls: the one passes a #, the other
-- a CR or LF.
use Prim.Native.Nat.{◌-◌}
use lib.ListN.{length}
use Rattle.pgm_header.proofs.Cursor.+skip_blanks_skip_comment.Given as goal

abbrev pub decreases-skip_blanks : goal.decreases-skip_blanks
decreases-skip_blanks l = length l.file.now - l.self.at

abbrev pub decreases-skip_comment : goal.decreases-skip_comment
decreases-skip_comment l = length l.file.now - l.self.at
