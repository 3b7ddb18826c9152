-- Reading the pixels' own nodes: the loop over the pixels.
use mathlib.Core.Path.{◌≡◌, refl, sym, ap, ◌∙◌}
use mathlib.Core.List.{List, [], ◌∷◌, ◌++◌, append-nil}
use Prim.Native.Nat.{ℕ, suc, ◌+◌, ◌-◌, ◌≤◌, ◌<◌}
use native.Mathlib.Omega.{arith}
use native.Mathlib.Numerals.{add-one}
use lib.Seq.{append_snoc}
use Rattle.std.specs.Prelude.{Result, Ok}
use Rattle.refusals.specs.declared.Refusal.{Refusal}
use Rattle.meaning.specs.Sets.{nth, span, table}
use Rattle.theory_lists.proofs.Lists.{get_d_table, length-table}
use Rattle.work_columns.specs.Columns.{Frame, Stored, col}
use Rattle.work_columns.specs.Layout.{GREY, LEVEL}
use Rattle.work_columns.proofs.Columns.{frame-refl, frame_trans}
use Rattle.record_varint.specs.Field.{field_at}
use Rattle.record_parse.specs.Parse.{Values, bad, good, greys_from, more}
use Rattle.record_parse.specs.Steps.{GreysRead, levels_in}
use Rattle.record_parse.proofs.Fields.{Took, Stopped, table_more}

-- values ahead of those that are left
abbrev pub prepend : List ℕ → Values → Values
prepend xs (good vs next) = good (xs ++ vs) next
prepend xs (bad number) = bad number

prepend_none : (vs : Values) → prepend [] vs ≡ vs
prepend_none (good vs next) = refl
prepend_none (bad number) = refl

prepend_more : (xs : List ℕ) (v : ℕ) (vs : Values) → prepend xs (more v vs) ≡ prepend (xs ++ (v ∷ [])) vs
prepend_more xs v (good vs next) = rw append_snoc
prepend_more xs v (bad number) = refl

-- p pixels are read: their greys, ahead of what is left at the position `at`, are what the whole gives
pub record GreysLeft (s : List ℕ) (start n : ℕ) (w₀ w : List ℕ) (count p at : ℕ) : Type 0 where
  pub frame : Frame n w₀ w
  pub same : col LEVEL n w ≡ col LEVEL n w₀
  pub upto : p ≤ n
  pub rest : greys_from s n (levels_in n w₀ count) n start
      ≡ prepend (table p (col GREY n w)) (greys_from s n (levels_in n w₀ count) (n - p) at)

pub greys_first : {s : List ℕ} {start n : ℕ} {w : List ℕ} {count : ℕ} → GreysLeft s start n w w count 0 start
unfolding table span
greys_first {s} {start} {n} {w} {count} =
    let z : n - 0 ≡ n = omega arith in
    record {
      frame = frame-refl n w;
      same = refl;
      upto = omega arith;
      rest = rw z (sym (prepend_none (greys_from s n (levels_in n w count) n start)));
    }

module _ {s : List ℕ} {start n : ℕ} {w₀ w : List ℕ} {count p at : ℕ} (l : GreysLeft s start n w₀ w count p at) where
  module _ (h : p < n) where
    turn : greys_from s n (levels_in n w₀ count) n start ≡ prepend (table p (col GREY n w)) (greys_from s n (levels_in n w₀ count) (suc (n - suc p)) at)
    turn =
        let k : n - p ≡ suc (n - suc p) = omega arith in
        l.rest ∙ ap (λ (m : ℕ). prepend (table p (col GREY n w)) (greys_from s n (levels_in n w₀ count) m at)) k

    pub greys_stop : {r : Result ℕ Refusal} → Stopped (field_at s at 0 (count - 1)) r → GreysRead s start n w₀ w count r
    unfolding greys_from
    greys_stop e = rw e.is record { frame = l.frame; rest = turn ∙ rw (length-table count (col LEVEL n w₀), e.read) }

    pub greys_more : {own next level : ℕ} {w' : List ℕ} → 1 ≤ count → Took s at 0 (count - 1) own next → level ≡ col LEVEL n w own
        → Stored w w' n GREY p level → GreysLeft s start n w₀ w' count (p + 1) next
    unfolding greys_from
    greys_more {own} {next} {level} {w'} some a is t = rw add-one record {
      frame = frame_trans l.frame t.frame;
      same = t.off LEVEL (omega arith) (omega arith) ∙ l.same;
      upto = omega arith;
      rest =
          turn ∙ ap (prepend (table p (col GREY n w))) field
          ∙ prepend_more (table p (col GREY n w)) level (greys_from s n (levels_in n w₀ count) (n - suc p) next)
          ∙ ap (λ (xs : List ℕ). prepend xs (greys_from s n (levels_in n w₀ count) (n - suc p) next))
          (sym (table_more p (col GREY n w) (col GREY n w') level (λ j b. t.put.other j (omega arith) (omega arith)) t.put.here));
    }
      where
        found : nth (levels_in n w₀ count) own ≡ level
        found = get_d_table count (col LEVEL n w₀) own 0 (omega (arith, a.high)) ∙ ap (λ (g : ℕ → ℕ). g own) (sym l.same) ∙ sym is

        field : greys_from s n (levels_in n w₀ count) (suc (n - suc p)) at ≡ more level (greys_from s n (levels_in n w₀ count) (n - suc p) next)
        field = rw (length-table count (col LEVEL n w₀), a.read, found)

  pub greys_done : n ≤ p → GreysRead s start n w₀ w count (Ok at)
  unfolding greys_from
  greys_done h =
      let e : p ≡ n = omega (arith, l.upto) in
      let z : n - n ≡ 0 = omega arith in
      record { frame = l.frame; rest = rw (e, z, append-nil) at l.rest }
