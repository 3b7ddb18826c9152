-- `text_sizelist::size_text` meets its contract: the text is put from the first place on.
use Rattle.text_sizelist.proofs.Files.{made}
use Rattle.text_sizelist.proofs.size_text.Goals as goal

pub returns : goal.returns
returns c = made (rw (c.new-lines.ensures.bytes, c.new-lines.ensures.length) at c.put_text.ensures.put)
