-- A text that is put together piece by piece.
use mathlib.Core.Path.{◌≡◌, refl, ap, ◌∙◌}
use mathlib.Core.List.{List, [], ◌∷◌, ◌++◌, append_assoc, append-nil}
use Prim.Native.Nat.{ℕ, ◌≤◌}
use lib.ListN.{length}
use Rattle.text_lines.specs.Lines.{field, further, line}
use Rattle.text_lines.specs.Pieces.{Puts}
use Rattle.text_lines.specs.declared.Text.{Text}
use Rattle.text_lines.proofs.Pieces.{further-more, put_nothing, put_put}

-- nothing is put
pub puts_nothing : (t : Text) → t.length ≤ length t.bytes.now → Puts t [] t
puts_nothing t l = record { same_reference = refl; same_length = refl; put = put_nothing t.bytes.now t.length l }

-- one piece after another is one piece
pub puts_puts : {t t' t'' : Text} {a b : List ℕ} → Puts t a t' → Puts t' b t'' → Puts t (a ++ b) t''
puts_puts p q = record {
  same_reference = q.same_reference ∙ p.same_reference;
  same_length = q.same_length ∙ p.same_length;
  put = put_put p.put q.put;
}

-- the first field of a line and some numbers after it are put
pub record BegunLine (t : Text) (first numbers : List ℕ) (t' : Text) : Type 0 where
  pub puts : Puts t (first ++ further numbers) t'

pub begin_line : {t t' : Text} {first : List ℕ} → Puts t first t' → BegunLine t first [] t'
unfolding further
begin_line {first = first} p = record { puts = rw (append-nil first) p }

module _ {t t' t'' : Text} {first numbers : List ℕ} (b : BegunLine t first numbers t') where
  pub next_field : {v w : ℕ} → w ≡ v → Puts t' (field w) t'' → BegunLine t first (numbers ++ (v ∷ [])) t''
  next_field {v} same p =
      let e : (first ++ further numbers) ++ field v ≡ first ++ further (numbers ++ (v ∷ [])) =
      append_assoc first (further numbers) (field v) ∙ ap (λ (l : List ℕ). first ++ l) (further-more numbers v) in
      record { puts = rw e at (puts_puts b.puts (rw same at p)) }

  pub whole_line : Puts t' (10 ∷ []) t'' → Puts t (line first numbers) t''
  unfolding line
  whole_line p = puts_puts b.puts p
