-- The text of a plate: its lines, the length of its record, the values that the record's size list gives, and that none of these is refused.
use mathlib.Core.Path.{◌≡◌, refl, sym, ap, ◌∙◌}
use mathlib.Core.Bool.{true}
use mathlib.Core.List.{List, [], ◌∷◌, ◌++◌}
use Prim.Native.Nat.{ℕ, suc, ◌+◌, ◌-◌, ◌*◌, ◌≤◌, ◌<◌}
use native.Mathlib.Nat.{le_trans}
use native.Mathlib.Omega.{arith}
use borrow.Author.Tests.{le-ltb, lt-ltb}
use lib.ListN.{drop, length, length-append, take, get_or-append}
use lib.Seq.{take_at}
use Rattle.meaning.specs.Answers.{ink_refusal, over}
use Rattle.meaning.specs.Cut.{count_at, counts, darkest, held, losses, lost_at}
use Rattle.meaning.specs.Ink.{ink_of}
use Rattle.meaning.specs.Nodes.{nodes_of, own}
use Rattle.meaning.specs.Opening.{attribute}
use Rattle.meaning.specs.Plate.{Plate, greatest_fits, grey, touch}
use Rattle.meaning.specs.Record.{fields, node_fields, record_of, tree_fields}
use Rattle.meaning.specs.Sets.{elem, gather, nth, table}
use Rattle.theory_lists.proofs.Lists.{distinct_area, length-table}
use Rattle.theory_lists.proofs.Sets.{area_le}
use Rattle.theory_tree.proofs.Nodes.{nodes_distinct, nth_inside, some-node}
use Rattle.theorems.proofs.Plates.{darkest-root, plate_grid, plate_nodes, plate_some}
use Rattle.std.specs.Prelude.{Result, Ok, Err, IsOk}
use Rattle.refusals.specs.declared.Refusal.{Refusal}
use Rattle.refusals.proofs.Numbers.{number_nonzero}
use Rattle.plate_refusals.proofs.Refusals.{tree_later}
use Rattle.record_varint.proofs.Encode.{encode-most}
use Rattle.record_parse.specs.Parse.{plate, read_of}
use Rattle.record_roundtrip.proofs.There.{read_new}
use Rattle.record_fields.proofs.Fields.{gather-length, gather-same}
use Rattle.record.specs.declared.SizeHead.{SizeHead}
use Rattle.record.specs.declared.SizeList.{SizeList}
use Rattle.record.specs.declared.Written.{Written}
use Rattle.record.specs.Answers.{sizes_answer, written_answer}
use Rattle.record.specs.Reading.{ListedSizes, size_refusal}
use Rattle.record.specs.Writing.{WrittenRecord, write_answer, write_out, write_refusal}
use Rattle.ink.specs.Percentage.{Percentage, ink_answer}
use Rattle.ink.specs.declared.Ink.{Ink}
use Rattle.text_lines.specs.Lines.{decimal, line}
use Rattle.text_plate.specs.Text.{area_line, head_line, held_line, most_pixels, plate_text, rest_line, four, size_line}

-- ---- answers that refuse nothing

pub written_ok : (answer : Result ℕ Refusal) → (written_answer answer).refusal ≡ 0 → IsOk answer
written_ok (Ok size) e = refl
written_ok (Err refusal) e = absurd (number_nonzero refusal e)

pub sizes_ok : (answer : Result SizeList Refusal) → (sizes_answer answer).refusal ≡ 0 → IsOk answer
sizes_ok (Ok list) e = refl
sizes_ok (Err refusal) e = absurd (number_nonzero refusal e)

ink-answered : (answer : Result ℕ Refusal) → (ink_answer answer).refusal ≡ 0 → IsOk answer
ink-answered (Ok percentage) e = refl
ink-answered (Err refusal) e = absurd (number_nonzero refusal e)

-- ---- the ink of a grey that is not above the greatest

module _ {M g : ℕ} (range : greatest_fits M ≡ true) (low : g ≤ M) where
  ink_free : ink_refusal M g ≡ 0
  unfolding ink_refusal
  ink_free = rw (range, le-ltb M g low)

  pub ink_ok : (answer : Result ℕ Refusal) → Percentage M g (ink_answer answer) → IsOk answer
  ink_ok answer p = ink-answered answer (p.number ∙ ink_free)

  pub ink_taken : {r : Ink} → Percentage M g r → r.percentage ≡ ink_of M g
  ink_taken p = p.value ∙ rw ink_free

-- ---- the lines of areas

-- an area without nodes has no line
pub area_none : (area count lost : ℕ) → count ≡ 0 → area_line area count lost ≡ []
unfolding area_line
area_none area count lost e = rw (le-ltb 0 count (omega arith))

-- any other has one
pub area_some : (area count lost : ℕ) → (count ≡ 0 → ⊥) → area_line area count lost ≡ line (decimal area) (count ∷ lost ∷ [])
unfolding area_line
area_some area count lost e = rw (lt-ltb 0 count (omega arith))

-- what stands after a table's answer has no line
sizes_over : (n : ℕ) (counted lost out out' : List ℕ) → length counted ≡ n → length lost ≡ n
    → gather n (size_line (over counted out) (over lost out')) ≡ gather n (size_line counted lost)
sizes_over n counted lost out out' a b =
    gather-same n (size_line (over counted out) (over lost out')) (size_line counted lost)
    (λ i l.
    rw (
      get_or-append counted (drop (length counted) out) 0 i (omega arith),
      get_or-append lost (drop (length lost) out') 0 i (omega arith),
    ))

-- ---- a plate of at most 1,024 pixels

-- the text of an answer, with the lines of its tables
abbrev pub answer_text : SizeHead → List ℕ → List ℕ
answer_text s sizes = ((head_line s.width s.height s.connectivity s.nodes ++ sizes) ++ held_line s.held) ++ rest_line s.greatest s.darkest

module _ {w h M : ℕ} {f : List ℕ} (pl : Plate four w h M f) where
  abbrev xs : List ℕ
  xs = nodes_of four w f

  abbrev bytes : List ℕ
  bytes = record_of four w h M f

  few_nodes : length xs ≤ length f
  few_nodes = le_trans (distinct_area (length f) xs (nodes_distinct (plate_grid pl) (plate_nodes pl)) (plate_nodes pl).inside) (area_le (length f) (elem xs))

  some-nodes : 0 < length xs
  some-nodes = some-node (plate_grid pl) (plate_nodes pl) 0 (plate_some pl)

  node-three : (i : ℕ) → length (node_fields (length f) (touch four w) (grey f) xs i) ≡ 3
  unfolding node_fields
  node-three i = refl

  fields-length : length (fields four w h f) ≡ 3 * length xs + 3 + length f
  unfolding fields tree_fields
  fields-length =
      let g : ℕ → List ℕ = λ (i : ℕ). node_fields (length f) (touch four w) (grey f) xs (suc i) in
      let o : ℕ → ℕ = own (length f) (touch four w) (grey f) xs in
      omega (
        arith,
        length-append (gather (length xs - 1) g) (table (length f) o),
        gather-length (length xs - 1) g (λ i. node-three (suc i)),
        length-table (length f) o,
        some-nodes,
      )

  -- at most 4,102 fields of at most five bytes
  pub record_short_lem : length f ≤ most_pixels → length bytes ≤ 20510
  unfolding record_of
  record_short_lem small = omega (arith, encode-most (0 ∷ 2 ∷ M ∷ fields four w h f), fields-length, few_nodes)

  -- the darkest grey is a grey
  pub darkest_low : darkest f ≤ M
  darkest_low = omega (arith, darkest-root pl, pl.greys (nth xs 0) (nth_inside (plate_grid pl) (plate_nodes pl) 0 some-nodes))

  plate_text_is : plate_text w h M f
      ≡ ((head_line w h four (length xs) ++ gather (length f - 1) (size_line (counts four w h f) (losses four w h f))) ++ held_line (held four w h f))
      ++ rest_line M (darkest f)
  unfolding plate_text
  plate_text_is = refl

  -- ---- its record, as writing returns it

  module _ {out out' work work' : List ℕ} {r : Written} (few : length f ≤ most_pixels) (a : 20510 ≤ length out) (b : 8192 ≤ length work)
      (x : WrittenRecord four w h M f out out' work work' r) where
    not_refused : write_refusal four w h M f out work ≡ 0
    unfolding write_refusal
    not_refused =
        let space : 8 * (w * h) ≤ length work = omega (arith, pl.long, few, b) in
        tree_later (record { taken = pl; space = space }) (length bytes) (length out)
        ∙ rw (le-ltb (length out) (length bytes) (omega (arith, record_short_lem few, a)))

    pub written-taken : r.refusal ≡ 0
    unfolding write_answer
    written-taken = ap (λ (s : Written). s.refusal) x.answer ∙ not_refused

    pub written-length : r.length ≡ length bytes
    unfolding write_answer
    written-length = ap (λ (s : Written). s.length) x.answer ∙ rw not_refused

    pub written-within : r.length ≤ length out'
    unfolding write_out
    written-within = rw (x.output, not_refused, written-length) (omega (arith, length-append bytes (drop (length bytes) out)))

    pub written-bytes : take r.length out' ≡ bytes
    unfolding write_out
    written-bytes = rw (x.output, not_refused, written-length) (take_at bytes (drop (length bytes) out) (length bytes) refl)

  -- ---- its sizes, as listing them returns them

  module _ {given counted counted' lost lost' work work' : List ℕ} {r : SizeHead} (few : length f ≤ most_pixels) (same : given ≡ bytes)
      (a : 1023 ≤ length counted) (b : 1023 ≤ length lost) (c : 8192 ≤ length work)
      (x : ListedSizes (read_of given (length work)) counted counted' lost lost' work work' r)
    where
      listed : ListedSizes (plate true four w h M f) counted counted' lost lost' work work' r
      listed = rw (same, read_new pl (length work) (omega (arith, pl.long, few, c))) at x

      none : size_refusal (plate true four w h M f) (length counted) (length lost) ≡ 0
      none =
          rw (
            le-ltb (length counted) (w * h - 1) (omega (arith, pl.long, few, a)),
            le-ltb (length lost) (w * h - 1) (omega (arith, pl.long, few, b)),
          )

      head_is : r
          ≡ record {
            refusal = 0;
            width = w;
            height = h;
            greatest = M;
            connectivity = four;
            nodes = length xs;
            darkest = darkest f;
            held = held four w h f;
          }
      head_is = listed.answer ∙ rw none

      pub listed-taken : r.refusal ≡ 0
      listed-taken = ap (λ (s : SizeHead). s.refusal) head_is

      pub listed_low : (greatest_fits r.greatest ≡ true) × (r.darkest ≤ r.greatest)
      listed_low = rw head_is (pl.range, darkest_low)

      counts-length : length (counts four w h f) ≡ length f - 1
      unfolding counts
      counts-length = length-table (length f - 1) (λ (i : ℕ). count_at (length f) (touch four w) (grey f) xs (attribute w h) (suc i))

      losses-length : length (losses four w h f) ≡ length f - 1
      unfolding losses
      losses-length = length-table (length f - 1) (λ (i : ℕ). lost_at (length f) (touch four w) (grey f) xs (attribute w h) (suc i))

      sizes_are : gather (length f - 1) (size_line counted' lost') ≡ gather (length f - 1) (size_line (counts four w h f) (losses four w h f))
      sizes_are =
          rw (listed.count_table, listed.loss_table, none)
          (sizes_over (length f - 1) (counts four w h f) (losses four w h f) counted lost counts-length losses-length)

      pub listed_text : answer_text r (gather (length f - 1) (size_line counted' lost')) ≡ plate_text w h M f
      listed_text =
          ap (λ (s : SizeHead). answer_text s (gather (length f - 1) (size_line counted' lost'))) head_is
          ∙ ap (λ (l : List ℕ). ((head_line w h four (length xs) ++ l) ++ held_line (held four w h f)) ++ rest_line M (darkest f)) sizes_are
          ∙ sym plate_text_is
