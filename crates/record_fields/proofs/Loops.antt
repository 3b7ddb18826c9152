-- The loops over the fields that the columns spell: one field more, and what the loop gives.
use mathlib.Core.Path.{◌≡◌, sym, ap, ◌∙◌}
use mathlib.Core.Bool.{Bool, false}
use mathlib.Core.List.{List, ◌++◌}
use Prim.Native.Nat.{ℕ, ◌+◌, ◌-◌, ◌*◌, ◌≤◌, ◌<◌}
use native.Mathlib.Omega.{arith}
use lib.Dec.{eqb}
use lib.ListN.{length, length-drop, take, drop}
use lib.Seq.{get_or-drop}
use Rattle.meaning.specs.Answers.{over}
use Rattle.meaning.specs.Record.{encode, record_in, record_of, varint}
use Rattle.meaning.specs.Sets.{nth}
use Rattle.work_columns.specs.Layout.{greys_in}
use Rattle.work_columns.specs.declared.Shape.{Shape}
use Rattle.maxtree_columns.specs.Tree.{TreeStands}
use Rattle.record_varint.specs.Field.{accepted, refused, same_at}
use Rattle.record_varint.proofs.Loops.{Matched, Measured, Wrote, matched_differs, matched_done, matched_more, measured_done, measured_more}
use Rattle.record_varint.proofs.Loops.{wrote_done, wrote_more, wrote_room}
use Rattle.record_parse.specs.Parse.{same_bytes}
use Rattle.record_fields.specs.Fields.{column_fields, first_field}
use Rattle.record_fields.proofs.Bytes.{starts_differ, starts-same}
use Rattle.record_fields.proofs.Fields.{column_end, column_inside, column-length}
use Rattle.record_fields.proofs.Standing.{tree_record, tree_record_in}

module _ {g : Shape} {w : List ℕ} {count : ℕ} (t : TreeStands g w count) where
  abbrev fs : List ℕ
  fs = column_fields g w count

  abbrev end : ℕ
  end = 3 * count + 6 + g.pixels

  abbrev bytes : List ℕ
  bytes = record_of g.connectivity g.width g.height g.greatest (greys_in g.pixels w)

  module _ {i size : ℕ} (m : Measured fs i size) where
    pub measuring_more : {v b : ℕ} → i < end → v ≡ nth fs i → b ≡ length (varint v) → Measured fs (i + 1) (size + b)
    measuring_more {b = b} l is long =
        measured_more fs i size m b (column_inside t i l) (long ∙ ap (λ (x : ℕ). length (varint x)) is)

    pub measuring_done : end ≤ i → size ≡ length bytes
    measuring_done l = measured_done fs i size m (column_end t i l) ∙ sym (ap length (tree_record t))

  -- writing into d, which is o by now
  module _ {d o : List ℕ} {i at : ℕ} (m : Wrote fs d o i at) (room : length bytes ≤ length d) where
    enough : length (encode fs) ≤ length d
    enough = rw (tree_record t) at room

    pub writing_room : {v : ℕ} → i < end → v ≡ nth fs i → at + length (varint v) ≤ length o
    writing_room l is = rw is (wrote_room fs d o i at m enough (column_inside t i l))

    pub writing_more : {o' : List ℕ} {v next : ℕ} → i < end → v ≡ nth fs i → next ≡ at + length (varint v)
        → o' ≡ take at o ++ varint v ++ drop (at + length (varint v)) o → Wrote fs d o' (i + 1) next
    writing_more {o'} {v} {next} l is after e = wrote_more fs d o i at m enough o' v next (column_inside t i l) is after e

    pub writing_done : end ≤ i → o ≡ over bytes d
    writing_done l = rw (tree_record t) (wrote_done fs d o i at m enough (column_end t i l))

  -- comparing the bytes s with the fields of a form, which begin with the field `first`
  module _ (new : Bool) where
    abbrev part : List ℕ
    part = drop (first_field new) fs

    abbrev bytes_in : List ℕ
    bytes_in = record_in new g.connectivity g.width g.height g.greatest (greys_in g.pixels w)

    part_length : length part ≡ end - first_field new
    part_length = length-drop (first_field new) fs ∙ ap (λ (m : ℕ). m - first_field new) (column-length t)

    module _ {i : ℕ} (from : first_field new ≤ i) where
      inside : i < end → i - first_field new < length part
      inside l = omega (arith, part_length)

      part_at : {v : ℕ} → v ≡ nth fs i → v ≡ nth part (i - first_field new)
      part_at is =
          let e : first_field new + (i - first_field new) ≡ i = omega arith in
          is ∙ sym (rw e at (get_or-drop (first_field new) fs (i - first_field new) 0))

      module _ {s : List ℕ} {at : ℕ} (m : Matched part s (i - first_field new) at) where
        module _ {v : ℕ} (l : i < end) (is : v ≡ nth fs i) where
          pub comparing_more : {next : ℕ} → accepted v next ≡ same_at s at v → Matched part s (i + 1 - first_field new) next
          comparing_more {next} found =
              let e : i + 1 - first_field new ≡ i - first_field new + 1 = omega arith in
              rw e (matched_more part s (i - first_field new) at m v (inside l) (part_at is) next found)

          pub comparing_differs : refused 24 ≡ same_at s at v → false ≡ same_bytes s bytes_in
          comparing_differs found =
              rw (tree_record_in t new)
              (sym (starts_differ (encode part) s (matched_differs part s (i - first_field new) at m v (inside l) (part_at is) found)))

        pub comparing_done : end ≤ i → eqb at (length s) ≡ same_bytes s bytes_in
        comparing_done l =
            let done = matched_done part s (i - first_field new) at m (omega (arith, part_length)) in
            rw (tree_record_in t new, done.0) (sym (starts-same (encode part) s done.1))
