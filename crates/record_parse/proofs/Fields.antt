-- One field: what reading it found, as a fact of the definition; and a list of values that grows by one.
use Rattle.std.specs.Prelude.{Result, Ok, Err, IsErrAnd, MatchResult, is_ok, true}
use Rattle.std.proofs.lemmas.Result.{err_from_is_err_and}
use mathlib.Core.Path.{◌≡◌, refl, sym, ap, ◌∙◌}
use mathlib.Core.List.{List, [], ◌∷◌, ◌++◌}
use Prim.Native.Nat.{ℕ, suc, ◌≤◌, ◌<◌}
use native.Mathlib.Omega.{arith}
use lib.ListN.{length, get_or, length-append, get_or-append}
use lib.Seq.{ext_get_or, get_or-append_seam}
use Rattle.record_varint.specs.declared.Fault.{Fault}
use Rattle.meaning.specs.Sets.{table}
use Rattle.theory_lists.proofs.Lists.{get_d_table, length-table}
use Rattle.theory_lists.proofs.Sets.{below_suc}
use Rattle.record_varint.specs.Field as fields
use Rattle.record_varint.specs.Field.{Reading, Refuses, accepted, field_at, reading, refused}
use Rattle.refusals.specs.Numbers.{number_of, refusal_of}
use Rattle.refusals.specs.declared.Refusal.{Refusal}
use Rattle.record_parse.specs.Steps.{RefusesEarly}
use Rattle.record_parse.specs.declared.Unread.{Unread}
use Rattle.record_parse.specs.declared.Unread.TheVariants.{Early, Late}
use Rattle.record_varint.proofs.Reading.{field_read}

-- the field at a position is accepted: the number v, in its range, and the position after it
pub record Took (s : List ℕ) (at lo hi v next : ℕ) : Type 0 where
  pub read : field_at s at lo hi ≡ accepted v next
  pub low : lo ≤ v
  pub high : v ≤ hi

pub took : (s : List ℕ) (at lo hi : ℕ) {v next : ℕ} → accepted v next ≡ field_at s at lo hi → Took s at lo hi v next
took s at lo hi {v} {next} e =
    let a = field_read s at lo hi v next (sym e) in
    record { read = sym e; low = a.low; high = a.high }

-- the answer r refuses, with the number that reading a field gives
pub record Stopped {T : Type 0} (g : Reading) (r : Result T Refusal) : Type 0 where
  pub refusal : Refusal
  pub is : r ≡ Err refusal
  pub read : g ≡ refused (number_of refusal)

pub stopped : {T : Type 0} (r : Result T Refusal) (g : Reading) (fault : Fault) → refused (fields.number_of fault) ≡ g → IsErrAnd r (Refuses fault)
    → Stopped g r
stopped r g fault e is =
    let y = err_from_is_err_and r is in
    record { refusal = y.0; is = y.1; read = sym e ∙ ap refused (sym y.2) }

-- the same of a refusal ahead of 6
pub record StoppedEarly {T : Type 0} (g : Reading) (r : Result T Unread) : Type 0 where
  pub refusal : Refusal
  pub is : r ≡ Err (Early refusal)
  pub read : g ≡ refused (number_of refusal)

pub stopped_early : {T : Type 0} (r : Result T Unread) (g : Reading) (fault : Fault) → refused (fields.number_of fault) ≡ g
    → IsErrAnd r (RefusesEarly fault) → StoppedEarly g r
stopped_early (Ok x) g fault e is = absurd is
stopped_early (Err (Early refusal)) g fault e is = record { refusal = refusal; is = refl; read = sym e ∙ ap refused (sym is) }
stopped_early (Err (Late refusal pixels)) g fault e is = absurd is

-- where the field's fault is at hand
pub unread : {T : Type 0} {f : Result (ℕ × ℕ) Fault} {g : Reading} {fault : Fault} {u : Unread} → reading f ≡ g → f ≡ Err fault
    → RefusesEarly fault u → StoppedEarly {T = T} g (Err u)
unread {fault = fault} {u} e told is = stopped_early (Err u) _ fault (sym (ap reading told) ∙ e) is

-- the refusal of a check, ahead of 6
pub early_of : {T : Type 0} (f : Result T Refusal) (u : Unread)
    → MatchResult f (λ x. ◌≡◌ {A = Result T Unread} (Err u) (Ok x)) (λ e. IsErrAnd {T = T} (Err u) (λ y. y ≡ Early e))
    → (refusal : Refusal) × (f ≡ Err refusal) × (u ≡ Early refusal)
early_of (Ok x) u h = absurd (cc)
early_of (Err e) u h = (e, refl, h)

pub passed : {T : Type 0} (f : Result T Refusal) → true ≡ is_ok f → refusal_of f ≡ 0
passed (Ok x) h = refl
passed (Err e) h = absurd (cc)

-- one value more
pub table_more : (i : ℕ) (g g' : ℕ → ℕ) (v : ℕ) → ((j : ℕ) → j < i → g' j ≡ g j) → g' i ≡ v → table (suc i) g' ≡ table i g ++ (v ∷ [])
table_more i g g' v same here =
    let len : length (table i g) ≡ i = length-table i g in
    ext_get_or 0 (table (suc i) g') (table i g ++ (v ∷ []))
    (length-table (suc i) g' ∙ omega (arith, length-append (table i g) (v ∷ [])))
    (λ j l. below_suc (λ (q : ℕ). get_or (table (suc i) g') q 0 ≡ get_or (table i g ++ (v ∷ [])) q 0) old new j (rw (length-table (suc i) g') at l))
  where
    old : (q : ℕ) → q < i → get_or (table (suc i) g') q 0 ≡ get_or (table i g ++ (v ∷ [])) q 0
    old q l =
        get_d_table (suc i) g' q 0 (omega arith) ∙ same q l
        ∙ sym (get_or-append (table i g) (v ∷ []) 0 q (omega (arith, length-table i g)) ∙ get_d_table i g q 0 l)

    new : get_or (table (suc i) g') i 0 ≡ get_or (table i g ++ (v ∷ [])) i 0
    new =
        get_d_table (suc i) g' i 0 (omega arith) ∙ here
        ∙ sym (rw (length-table i g) at (get_or-append_seam (table i g) v [] 0))
