-- Reading the nodes after the root: one node, and the loop over them.
use mathlib.Core.Path.{◌≡◌, refl, sym, ap, ◌∙◌}
use mathlib.Core.List.{List, [], ◌∷◌, ◌++◌}
use Prim.Native.Nat.{ℕ, suc, ◌+◌, ◌-◌, ◌≤◌, ◌<◌}
use native.Mathlib.Omega.{arith}
use native.Mathlib.Numerals.{add-one}
use Rattle.std.specs.Prelude.{Result, Ok, Err, IsErrAnd}
use Rattle.std.proofs.lemmas.Result.{err_from_is_err_and}
use Rattle.refusals.specs.Numbers.{number_of}
use Rattle.refusals.specs.declared.Refusal.{Refusal}
use Rattle.meaning.specs.Sets.{nth}
use Rattle.theory_lists.proofs.Lists.{get_d_table, length-table}
use Rattle.theory_lists.proofs.Sets.{below_suc}
use Rattle.work_columns.specs.Columns.{Frame, Stored, col}
use Rattle.work_columns.specs.Layout.{LEVEL}
use Rattle.work_columns.proofs.Columns.{frame-refl, frame_room, frame_trans}
use Rattle.record_varint.specs.Field.{Reading, field_at}
use Rattle.record_parse.specs.Parse.{bad, levels_from}
use Rattle.record_parse.specs.Steps.{Known, NodeRead, NodesRead, levels_in, on_step}
use Rattle.record_parse.proofs.Fields.{Took, Stopped, table_more}

-- ---- one node

module _ {M : ℕ} {s : List ℕ} {at n : ℕ} {w : List ℕ} {i : ℕ} {g : Reading} {r : Result ℕ Refusal} (e : Stopped g r) where
  stops : ((left : ℕ) → levels_from M s n (suc left) (levels_in n w i) at ≡ bad (number_of e.refusal)) → NodeRead M s at n w w i r
  stops rest = rw e.is record { frame = frame-refl n w; known = tt; rest = rest }

pub node_stops₁ : {M : ℕ} {s : List ℕ} {at n : ℕ} {w : List ℕ} {i : ℕ} {r : Result ℕ Refusal} → Stopped (field_at s at 1 i) r → NodeRead M s at n w w i r
unfolding levels_from
node_stops₁ {n = n} {w} {i} e = stops e (λ left. rw (length-table i (col LEVEL n w), e.read))

module _ {M : ℕ} {s : List ℕ} {at n : ℕ} {w : List ℕ} {i : ℕ} (k : Known n M w i) {back at₁ level : ℕ} (a : Took s at 1 i back at₁)
    (is : level ≡ col LEVEL n w (i - back)) where
  -- the parent's level, and its place in the list
  pub level_fits : level ≤ M
  level_fits = omega (arith, is, k.levels (i - back) (omega (arith, a.low, a.high)))

  up : nth (levels_in n w i) (i - back) ≡ level
  up = get_d_table i (col LEVEL n w) (i - back) 0 (omega (arith, a.low, a.high)) ∙ sym is

  pub node_stops₂ : {r : Result ℕ Refusal} → Stopped (field_at s at₁ 1 (M - level)) r → NodeRead M s at n w w i r
  unfolding levels_from
  node_stops₂ e = stops e (λ left. rw (length-table i (col LEVEL n w), a.read, up, e.read))

  module _ {rise at₂ : ℕ} (b : Took s at₁ 1 (M - level) rise at₂) where
    pub node_stops₃ : {r : Result ℕ Refusal} → Stopped (field_at s at₂ 1 n) r → NodeRead M s at n w w i r
    unfolding levels_from
    node_stops₃ e = stops e (λ left. rw (length-table i (col LEVEL n w), a.read, up, b.read, e.read))

    pub rise_fits : level + rise ≤ M
    rise_fits = omega (arith, level_fits, b.high)

    pub node_stores : {w' : List ℕ} {area at₃ : ℕ} → Took s at₂ 1 n area at₃ → i < n → Stored w w' n LEVEL i (level + rise)
        → NodeRead M s at n w w' i (Ok at₃)
    unfolding levels_from
    node_stores {w'} {area} {at₃} d l t = record {
      frame = t.frame;
      known = record {
        room = frame_room k.room t.frame;
        some = omega arith;
        most = omega arith;
        levels =
            below_suc (λ (j : ℕ). col LEVEL n w' j ≤ M) (λ j b. omega (arith, t.put.other j (omega arith) (omega arith), k.levels j b))
            (omega (arith, t.put.here, rise_fits));
      };
      rest = λ left.
          go left
          ∙ ap (λ (levels : List ℕ). levels_from M s n left levels at₃)
          (sym (table_more i (col LEVEL n w) (col LEVEL n w') (level + rise) (λ j b. t.put.other j (omega arith) (omega arith)) t.put.here));
    }
      where
        go : (left : ℕ) → levels_from M s n (suc left) (levels_in n w i) at ≡ levels_from M s n left (levels_in n w i ++ ((level + rise) ∷ [])) at₃
        go left = rw (length-table i (col LEVEL n w), a.read, up, b.read, d.read)

-- ---- the loop: i nodes are read, and what is left at the position `at` gives what the whole gives
pub record NodesLeft (M : ℕ) (s : List ℕ) (start n : ℕ) (w₀ w : List ℕ) (count i at : ℕ) : Type 0 where
  pub frame : Frame n w₀ w
  pub known : Known n M w i
  pub upto : i ≤ count
  pub rest : levels_from M s n (count - 1) (levels_in n w₀ 1) start ≡ levels_from M s n (count - i) (levels_in n w i) at

pub nodes-first : {M : ℕ} {s : List ℕ} {start n : ℕ} {w : List ℕ} {count : ℕ} → Known n M w 1 → 1 ≤ count → NodesLeft M s start n w w count 1 start
nodes-first {n = n} {w} k l = record { frame = frame-refl n w; known = k; upto = l; rest = refl }

module _ {M : ℕ} {s : List ℕ} {start n : ℕ} {w₀ w : List ℕ} {count i at : ℕ} (l : NodesLeft M s start n w₀ w count i at) where
  module _ (h : i < count) {w' : List ℕ} where
    turn : {r : Result ℕ Refusal} → NodeRead M s at n w w' i r
        → levels_from M s n (count - 1) (levels_in n w₀ 1) start ≡ on_step r (levels_from M s n (count - suc i) (levels_in n w' (suc i)))
    turn t =
        let k : count - i ≡ suc (count - suc i) = omega arith in
        l.rest ∙ ap (λ (m : ℕ). levels_from M s n m (levels_in n w i) at) k ∙ t.rest (count - suc i)

    pub nodes-more : {next : ℕ} → NodeRead M s at n w w' i (Ok next) → NodesLeft M s start n w₀ w' count (i + 1) next
    nodes-more t = rw add-one record {
      frame = frame_trans l.frame t.frame;
      known = t.known;
      upto = omega arith;
      rest = turn t;
    }

    pub nodes-stop : {refusal : Refusal} {r : Result ℕ Refusal} → NodeRead M s at n w w' i (Err refusal) → IsErrAnd r (λ e. e ≡ refusal)
        → NodesRead M s start n w₀ w' count r
    nodes-stop {r = r} t same =
        let e = err_from_is_err_and r same in
        rw (e.1, e.2) record { frame = frame_trans l.frame t.frame; known = tt; rest = turn t }

  pub nodes-done : count ≤ i → NodesRead M s start n w₀ w count (Ok at)
  unfolding levels_from
  nodes-done h =
      let e : i ≡ count = omega (arith, l.upto) in
      let z : count - count ≡ 0 = omega arith in
      record {
        frame = l.frame;
        known = rw e at l.known;
        rest = rw (e, z) at l.rest;
      }
