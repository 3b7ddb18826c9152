-- `Text::put_word` meets its contract: what is copied is what the stores would be.
use Rattle.std.proofs.Common.{refl}
use Rattle.text_lines.proofs.Pieces.{put_copied, put_length}
use Rattle.text_lines.proofs.Text.put_word.Goals as goal

pub returns : goal.returns
returns c =
    let a = c.args in
    let p = put_copied a.self.now.bytes.now a.self.now.length a.word.now c.copy_from_slice.ensures.after c.requires in
    record { same_reference = refl; same_length = put_length p; put = p }
