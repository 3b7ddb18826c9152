-- `text_roll::size_text` meets its contract: the text is put from the first place on.
use Rattle.text_roll.proofs.Texts.{made}
use Rattle.text_roll.proofs.size_text.Goals as goal

pub returns : goal.returns
returns c = made (rw (c.new-lines.ensures.bytes, c.new-lines.ensures.length) at c.put_text.ensures.put)
