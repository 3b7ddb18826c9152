-- Text put piece by piece.
use mathlib.Core.Path.{◌≡◌, refl, sym, ap, ◌∙◌}
use mathlib.Core.List.{List, [], ◌∷◌, ◌++◌, append_assoc, append-nil}
use Prim.Native.Nat.{ℕ, suc, ◌+◌, ◌-◌, ◌≤◌, ◌<◌}
use native.Mathlib.Nat.{add-zero, add-suc, suc-add, zero-add}
use native.Mathlib.Omega.{arith}
use native.Mathlib.Numerals.{add-one}
use lib.ListN.{drop, get_or, length, length-append, length-set, set, take}
use lib.Seq.{length-sets, length-take-le, sets, sets-eq, drop-drop, take_all, take_at, take-suc}
use borrow.Rule.Slice.PartMut.{put_mid}
use Rattle.text_lines.specs.Lines.{PutText, field, further, line}

-- two runs of stores are one
pub sets-sets : (l : List ℕ) (i : ℕ) (a b : List ℕ) → sets (sets l i a) (i + length a) b ≡ sets l i (a ++ b)
sets-sets l i [] b = ap (λ (k : ℕ). sets l k b) (add-zero i)
sets-sets l i (x ∷ a) b =
    ap (λ (k : ℕ). sets (sets (set l i x) (suc i) a) k b) (add-suc i (length a) ∙ sym (suc-add i (length a))) ∙ sets-sets (set l i x) (suc i) a b

-- those from the first place on
pub sets-front : (bytes l : List ℕ) → length bytes ≤ length l → sets l 0 bytes ≡ bytes ++ drop (length bytes) l
sets-front bytes l h = sets-eq bytes l 0 (omega arith) ∙ ap (λ (k : ℕ). bytes ++ drop k l) (zero-add (length bytes))

pub put_length : {text text' bytes : List ℕ} {at next : ℕ} → PutText text at bytes text' next → length text' ≡ length text
put_length {text} {bytes = bytes} {at = at} p = ap length p.stored ∙ length-sets text at bytes

-- one piece after another is one piece
pub put_put : {text text' text'' a b : List ℕ} {at mid next : ℕ} → PutText text at a text' mid → PutText text' mid b text'' next
    → PutText text at (a ++ b) text'' next
put_put {text} {a = a} {b = b} {at = at} p q = record {
  after = omega (arith, p.after, q.after, length-append a b);
  room = omega (arith, q.room, put_length p);
  stored = q.stored ∙ rw (p.stored, p.after) (sets-sets text at a b);
}

-- what is put from the first place on stands up to the place after it
pub put_front : {text bytes text' : List ℕ} {next : ℕ} → PutText text 0 bytes text' next → take next text' ≡ bytes
put_front {text} {bytes} p =
    rw (p.stored, p.after, zero-add (length bytes), sets-front bytes text (omega (arith, p.after, p.room)))
    (take_at bytes (drop (length bytes) text) (length bytes) refl)

-- nothing is put
pub put_nothing : (text : List ℕ) (at : ℕ) → at ≤ length text → PutText text at [] text at
put_nothing text at l = record { after = sym (add-zero at); room = l; stored = refl }

-- a word is copied into the part of the text behind the place `at`
pub put_copied : (text : List ℕ) (at : ℕ) (word : List ℕ) {copied : List ℕ} → copied ≡ word → at + length word ≤ length text
    → PutText text at word (put_mid at ((at + length word) - at) text copied) (at + length word)
put_copied text at word e l =
    let k : (at + length word) - at ≡ length word = omega arith in
    record {
      after = refl;
      room = l;
      stored = rw (k, e, drop-drop (length word) at text) (sym (sets-eq word text at l ∙ append_assoc (take at text) word _));
    }

-- ---- a word, byte by byte, as a loop puts it

-- i bytes are put
pub record Putting (text : List ℕ) (at : ℕ) (word text' : List ℕ) (i : ℕ) : Type 0 where
  pub within : i ≤ length word
  pub room : at + length word ≤ length text
  pub long : length text' ≡ length text
  pub stored : text' ≡ sets text at (take i word)

module _ {text text' word : List ℕ} {at i : ℕ} (p : Putting text at word text' i) where
  pub putting_more : i < length word → Putting text at word (set text' (at + i) (get_or word i 0)) (i + 1)
  putting_more l = record {
    within = omega arith;
    room = p.room;
    long = length-set text' (at + i) (get_or word i 0) ∙ p.long;
    stored =
        rw (add-one i, p.stored, take-suc word i 0)
        (ap (λ (k : ℕ). set (sets text at (take i word)) (at + k) (get_or word i 0)) (sym (length-take-le i word p.within))
        ∙ sets-sets text at (take i word) (get_or word i 0 ∷ []));
  }

  pub putting_done : length word ≤ i → PutText text at word text' (at + i)
  putting_done l = record { after = omega (arith, p.within); room = omega (arith, p.room, p.within); stored = p.stored ∙ rw (take_all i word l) }

-- ---- a line, field by field

pub further-more : (vs : List ℕ) (v : ℕ) → further vs ++ field v ≡ further (vs ++ (v ∷ []))
unfolding further
further-more [] v = sym (append-nil (field v))
further-more (u ∷ vs) v = append_assoc (field u) (further vs) (field v) ∙ ap (λ (l : List ℕ). field u ++ l) (further-more vs v)

-- the first field of a line and some numbers after it are put
pub record Begun (text : List ℕ) (at : ℕ) (first numbers text' : List ℕ) (next : ℕ) : Type 0 where
  pub put : PutText text at (first ++ further numbers) text' next

pub begin : {text first text' : List ℕ} {at next : ℕ} → PutText text at first text' next → Begun text at first [] text' next
unfolding further
begin {first = first} p = record { put = rw (append-nil first) p }

module _ {text first numbers text' text'' : List ℕ} {at mid next : ℕ} (b : Begun text at first numbers text' mid) where
  pub and-field : (v : ℕ) → PutText text' mid (field v) text'' next → Begun text at first (numbers ++ (v ∷ [])) text'' next
  and-field v p =
      let e : (first ++ further numbers) ++ field v ≡ first ++ further (numbers ++ (v ∷ [])) =
      append_assoc first (further numbers) (field v) ∙ ap (λ (l : List ℕ). first ++ l) (further-more numbers v) in
      record { put = rw e at (put_put b.put p) }

  pub end_line : PutText text' mid (10 ∷ []) text'' next → PutText text at (line first numbers) text'' next
  unfolding line
  end_line p = put_put b.put p
