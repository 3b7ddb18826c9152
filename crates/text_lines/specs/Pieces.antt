-- A text that is being put together: the room that it has, and what putting one piece more leaves.
use Rattle.std.specs.Prelude.{◌≡◌, List, ℕ, ◌+◌, ◌≤◌, length}
use Rattle.text_lines.specs.Lines.{PutText}
use Rattle.text_lines.specs.declared.Text.{Text}

-- n bytes more fit
abbrev pub HasRoom : Text → ℕ → Type 0
HasRoom t n = t.length + n ≤ length t.bytes.now

-- the bytes were put after those that stood there, and the text still goes into the same slice, as long as it was
pub record Puts (t : Text) (bytes : List ℕ) (t' : Text) : Type 0 where
  pub same_reference : t'.bytes.ghost_name ≡ t.bytes.ghost_name
  pub same_length : length t'.bytes.now ≡ length t.bytes.now
  pub put : PutText t.bytes.now t.length bytes t'.bytes.now t'.length
