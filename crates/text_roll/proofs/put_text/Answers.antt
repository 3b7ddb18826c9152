-- `text_roll::put_text` meets its contract: too long, refused, too large, or the texts of the plates.
use Rattle.text_roll.proofs.Texts.{text_large, text_long, text_plates, text_refused}
use Rattle.text_roll.proofs.put_text.Goals as goal

pub returns-then-file-gt-INPUT_BYTES : goal.returns-then-file-gt-INPUT_BYTES
returns-then-file-gt-INPUT_BYTES c = rw (text_long c.args.file.now c.if-file-gt-INPUT_BYTES.true) at c.put_refused.ensures

pub returns-in-Err : goal.returns-in-Err
returns-in-Err c = rw (text_refused c.args.file.now c.if-file-gt-INPUT_BYTES.false c.in-Err.ensures) at c.put_refused-in-Err.ensures

pub returns-in-Ok : goal.returns-in-Ok
returns-in-Ok c =
    rw (text_large c.args.file.now c.if-file-gt-INPUT_BYTES.false c.in-Ok.ensures c.if-scan-gt-MOST_PIXELS.true) at c.put_refused-in-Ok.ensures

pub returns-in-Ok-2 : goal.returns-in-Ok-2
returns-in-Ok-2 c =
    rw (text_plates c.args.file.now c.if-file-gt-INPUT_BYTES.false c.in-Ok.ensures c.if-scan-gt-MOST_PIXELS.false) at c.put_plates.ensures
