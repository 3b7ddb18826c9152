-- What follows the node count: root level, root area, the other nodes, the own nodes, and the end.
use mathlib.Core.Path.{◌≡◌, ◌∙◌}
use mathlib.Core.Bool.{Bool}
use mathlib.Core.List.{List, [], ◌∷◌}
use Prim.Native.Nat.{ℕ, ◌-◌, ◌*◌, ◌≤◌, ◌<◌}
use native.Mathlib.Omega.{arith}
use borrow.Author.Tests.{lt-ltb, le-ltb}
use lib.ListN.{length}
use Rattle.std.specs.Prelude.{Result, Ok, Err, IsErrAnd}
use Rattle.std.proofs.lemmas.Result.{err_from_is_err_and}
use Rattle.refusals.specs.declared.Refusal.{Refusal}
use Rattle.refusals.specs.declared.Refusal.TheVariants.{RecordLong}
use Rattle.meaning.specs.Sets.{span, table}
use Rattle.work_columns.specs.Columns.{Frame, Room, Stored}
use Rattle.work_columns.specs.Layout.{LEVEL}
use Rattle.work_columns.proofs.Columns.{frame-refl, frame_room, frame_trans}
use Rattle.record_varint.specs.Field.{field_at}
use Rattle.record_parse.specs.Parse.{from_nodes, from_root, good, levels_from}
use Rattle.record_parse.specs.Steps.{GreysRead, Known, NodesRead, TreeRead, levels_in, on_step}
use Rattle.record_parse.proofs.Fields.{Took, Stopped}

module _ {M : ℕ} {s : List ℕ} {at n : ℕ} {w : List ℕ} {count : ℕ} {r : Result (Unit {0}) Refusal} where
  pub tree_stops₁ : Stopped (field_at s at 0 M) r → TreeRead M s at n w w count r
  tree_stops₁ e = rw e.is record { frame = frame-refl n w; rest = λ new k wd ht pixels. rw e.read }

  pub tree_stops₂ : {level at₁ : ℕ} → Took s at 0 M level at₁ → Stopped (field_at s at₁ 1 n) r → TreeRead M s at n w w count r
  tree_stops₂ a e = rw e.is record { frame = frame-refl n w; rest = λ new k wd ht pixels. rw (a.read, pixels, e.read) }

-- the root's fields are read: its level, and the position after its area
pub record Rooted (M : ℕ) (s : List ℕ) (at n count level next : ℕ) : Type 0 where
  pub low : level ≤ M
  pub parsed : (new : Bool) (k wd ht : ℕ) → wd * ht ≡ n → from_root new M s k wd ht count at ≡ from_nodes new M s k wd ht count level next

pub rooted : {M : ℕ} {s : List ℕ} {at n count level at₁ area next : ℕ} → Took s at 0 M level at₁ → Took s at₁ 1 n area next
    → Rooted M s at n count level next
rooted a b = record { low = a.high; parsed = λ new k wd ht pixels. rw (a.read, pixels, b.read) }

module _ {M : ℕ} {s : List ℕ} {at n count level next : ℕ} (t : Rooted M s at n count level next) {w w₁ : List ℕ} (st : Stored w w₁ n LEVEL 0 level) where
  -- the root's level is stored
  pub root_known : Room w n → 1 ≤ n → Known n M w₁ 1
  root_known r some = record {
    room = frame_room r st.frame;
    some = omega arith;
    most = some;
    levels = λ j l.
        let z : j ≡ 0 = omega arith in
        rw z (omega (arith, st.put.here, t.low));
  }

  module _ {w₂ : List ℕ} where
    levels_are : {r : Result ℕ Refusal} → NodesRead M s next n w₁ w₂ count r
        → levels_from M s n (count - 1) (level ∷ []) next ≡ on_step r (good (levels_in n w₂ count))
    unfolding table span
    levels_are nodes = rw st.put.here at nodes.rest

    pub tree_stops₃ : {refusal : Refusal} {q : Result (Unit {0}) Refusal} → NodesRead M s next n w₁ w₂ count (Err refusal) → IsErrAnd q (λ e. e ≡ refusal)
        → TreeRead M s at n w w₂ count q
    tree_stops₃ {q = q} nodes same =
        let e = err_from_is_err_and q same in
        rw (e.1, e.2) record {
          frame = frame_trans st.frame nodes.frame;
          rest = λ new k wd ht pixels. t.parsed new k wd ht pixels ∙ rw (pixels, levels_are nodes);
        }

    module _ {at₃ : ℕ} (nodes : NodesRead M s next n w₁ w₂ count (Ok at₃)) {w₃ : List ℕ} where
      kept : {q : Result ℕ Refusal} → GreysRead s at₃ n w₂ w₃ count q → Frame n w w₃
      kept greys = frame_trans (frame_trans st.frame nodes.frame) greys.frame

      pub tree_stops₄ : {refusal : Refusal} {q : Result (Unit {0}) Refusal} → GreysRead s at₃ n w₂ w₃ count (Err refusal) → IsErrAnd q (λ e. e ≡ refusal)
          → TreeRead M s at n w w₃ count q
      tree_stops₄ {q = q} greys same =
          let e = err_from_is_err_and q same in
          rw (e.1, e.2) record {
            frame = kept greys;
            rest = λ new k wd ht pixels. t.parsed new k wd ht pixels ∙ rw (pixels, levels_are nodes, pixels, greys.rest);
          }

      module _ {at₄ : ℕ} (greys : GreysRead s at₃ n w₂ w₃ count (Ok at₄)) where
        pub tree_left : at₄ < length s → TreeRead M s at n w w₃ count (Err RecordLong)
        tree_left l = record {
          frame = kept greys;
          rest = λ new k wd ht pixels. t.parsed new k wd ht pixels ∙ rw (pixels, levels_are nodes, pixels, greys.rest, lt-ltb at₄ (length s) l);
        }

        pub tree_done : length s ≤ at₄ → TreeRead M s at n w w₃ count (Ok tt)
        tree_done l = record {
          frame = kept greys;
          rest = λ new k wd ht pixels. t.parsed new k wd ht pixels ∙ rw (pixels, levels_are nodes, pixels, greys.rest, le-ltb at₄ (length s) l);
        }
