-- The record's fields up to the node count, one after another: what is known after each, and each refusal up to 6. P: what the bytes spell.
use mathlib.Core.Path.{◌≡◌, refl, sym, ◌∙◌}
use mathlib.Core.Bool.{Bool, true, false, not}
use mathlib.Core.List.{List}
use Prim.Native.Nat.{ℕ, ◌-◌, ◌*◌, ◌≤◌, ◌<◌}
use native.Mathlib.Nat.{mul-le-mul, lt_of_le_of_lt}
use borrow.Author.Tests.{lt-ltb, le-ltb, ne_eqb}
use lib.Dec.{ltb, lit<}
use Rattle.std.specs.Prelude.{Result, Ok, Err}
use Rattle.refusals.specs.Numbers.{number_of}
use Rattle.refusals.specs.declared.Refusal.{Refusal}
use Rattle.record_parse.specs.declared.RecordHead.{RecordHead}
use Rattle.refusals.proofs.Numbers.{number_nonzero}
use Rattle.record_parse.specs.declared.Unread.{Unread}
use Rattle.record_parse.specs.declared.Unread.TheVariants.{Early, Late}
use Rattle.meaning.specs.Answers.{work_refusal}
use Rattle.meaning.specs.Plate.{byte_greatest, connectivity_fits, max_extent, max_greatest, max_pixels}
use Rattle.plate_refusals.proofs.Refusals.{refuse_met}
use Rattle.meaning.specs.Sets.{pick}
use Rattle.work_columns.specs.Columns.{Room}
use Rattle.record_varint.specs.Field.{Reading, field_at, field_bound, refused}
use Rattle.record_parse.specs.Parse.{Parsed, early, from_connectivity, from_count, from_greatest, from_height, from_root, from_version, from_width, parse}
use Rattle.record_parse.specs.Steps.{Spells, TreeRead}
use Rattle.record_parse.proofs.Fields.{Took, StoppedEarly}

-- ---- the form of the record; work: the length of the work space

module _ (s : List ℕ) (work : ℕ) where
  pub form_stops : {number : ℕ} → field_at s 0 0 max_extent ≡ refused number → parse s work ≡ early number
  unfolding parse
  form_stops e = rw e

  module _ {first at : ℕ} (a : Took s 0 0 max_extent first at) where
    pub old_form : (first ≡ 0 → ⊥) → parse s work ≡ from_height false byte_greatest s work first at
    unfolding parse
    old_form e = rw (a.read, ne_eqb first 0 e)

    pub new_form : first ≡ 0 → parse s work ≡ from_version s work at
    unfolding parse
    new_form e = rw (a.read, e)

  module _ (at : ℕ) where
    pub version_stops : {number : ℕ} → field_at s at 2 2 ≡ refused number → from_version s work at ≡ early number
    version_stops e = rw e

    pub after_version : {v next : ℕ} → Took s at 2 2 v next → from_version s work at ≡ from_greatest s work next
    after_version a = rw a.read

    pub greatest_stops : {number : ℕ} → field_at s at 1 max_greatest ≡ refused number → from_greatest s work at ≡ early number
    greatest_stops e = rw e

    pub after_greatest : {M next : ℕ} → Took s at 1 max_greatest M next → from_greatest s work at ≡ from_width s work M next
    after_greatest a = rw a.read

    pub width_stops : {number : ℕ} (M : ℕ) → field_at s at 1 max_extent ≡ refused number → from_width s work M at ≡ early number
    width_stops M e = rw e

    pub after_width : {w next : ℕ} (M : ℕ) → Took s at 1 max_extent w next → from_width s work M at ≡ from_height true M s work w next
    after_width M a = rw a.read

-- ---- after each field of both forms

pub record AfterHeight (P : Parsed) (new : Bool) (M : ℕ) (s : List ℕ) (work w h at : ℕ) : Type 0 where
  pub parsed : P ≡ pick (ltb max_pixels (w * h)) (early 22) (from_connectivity new M s work w h at)
  pub fits : w * h < field_bound

pub record AfterConnectivity (P : Parsed) (new : Bool) (M : ℕ) (s : List ℕ) (work w h k at : ℕ) : Type 0 where
  pub parsed : P ≡ pick (not (connectivity_fits k)) (early 22) (from_count new M s work k w h at)
  pub pixels : w * h ≤ max_pixels

pub record AfterCount (P : Parsed) (new : Bool) (M : ℕ) (s : List ℕ) (work w h k count at : ℕ) : Type 0 where
  pub parsed : P ≡ pick (ltb work (8 * (w * h))) (early 6) (from_root new M s k w h count at)
  pub pixels : w * h ≤ max_pixels
  pub some : 1 ≤ count
  pub most : count ≤ w * h

module _ (new : Bool) (M : ℕ) (s : List ℕ) (work w at : ℕ) where
  pub after_height : {h next : ℕ} → w ≤ max_extent → Took s at 1 max_extent h next → AfterHeight (from_height new M s work w at) new M s work w h next
  unfolding from_height
  after_height wide a = record { parsed = rw a.read; fits = lt_of_le_of_lt (mul-le-mul wide a.high) (lit< tt) }

  pub height_stops : {number : ℕ} → field_at s at 1 max_extent ≡ refused number → from_height new M s work w at ≡ early number
  unfolding from_height
  height_stops e = rw e

module _ {P : Parsed} {new : Bool} {M : ℕ} {s : List ℕ} {work : ℕ} where
  module _ {w h at : ℕ} (t : AfterHeight P new M s work w h at) where
    -- a product beyond the grid
    pub too_large : max_pixels < w * h → P ≡ early 22
    too_large l = t.parsed ∙ rw (lt-ltb max_pixels (w * h) l)

    module _ (fits : w * h ≤ max_pixels) where
      pub after_connectivity : {k next : ℕ} → Took s at 0 (field_bound - 1) k next → AfterConnectivity P new M s work w h k next
      after_connectivity a = record { parsed = t.parsed ∙ rw (le-ltb max_pixels (w * h) fits, a.read); pixels = fits }

      pub connectivity_stops : {number : ℕ} → field_at s at 0 (field_bound - 1) ≡ refused number → P ≡ early number
      connectivity_stops e = t.parsed ∙ rw (le-ltb max_pixels (w * h) fits, e)

  module _ {w h k at : ℕ} (t : AfterConnectivity P new M s work w h k at) where
    -- no connectivity
    pub no_connectivity : connectivity_fits k ≡ false → P ≡ early 22
    no_connectivity e = t.parsed ∙ rw e

    module _ (kind : connectivity_fits k ≡ true) where
      pub after_count : {count next : ℕ} → Took s at 1 (w * h) count next → AfterCount P new M s work w h k count next
      after_count a = record { parsed = t.parsed ∙ rw (kind, a.read); pixels = t.pixels; some = a.low; most = a.high }

      pub count_stops : {number : ℕ} → field_at s at 1 (w * h) ≡ refused number → P ≡ early number
      count_stops e = t.parsed ∙ rw (kind, e)

  module _ {w h k count at : ℕ} (t : AfterCount P new M s work w h k count at) where
    -- work space shorter than 8 × pixels
    pub too_short : (refusal : Refusal) → number_of refusal ≡ work_refusal (w * h) work 0 → P ≡ early (number_of refusal)
    too_short refusal e = t.parsed ∙ rw (e, refuse_met (ltb work (8 * (w * h))) 6 (λ u. number_nonzero refusal (e ∙ u)))

    pub begun : 8 * (w * h) ≤ work → P ≡ from_root new M s k w h count at
    begun l = t.parsed ∙ rw (le-ltb work (8 * (w * h)) l)

-- ---- the answer, and the work space after it

module _ (P : Parsed) (work : List ℕ) where
  pub early_answer : (refusal : Refusal) → P ≡ early (number_of refusal) → Spells P work work (Err (Early refusal))
  early_answer refusal e = (sym e, refl)

  pub early_field : {g : Reading} {r : Result RecordHead Unread} (e : StoppedEarly g r) → P ≡ early (number_of e.refusal) → Spells P work work r
  early_field e p = rw e.is (early_answer e.refusal p)

module _ (P : Parsed) (r : RecordHead) {s : List ℕ} {at : ℕ} {work work' : List ℕ} {count : ℕ} where
  module _
      (room : Room work (r.plate.width * r.plate.height))
      (e : P ≡ from_root r.new r.plate.greatest s r.plate.connectivity r.plate.width r.plate.height count at) where
    pub late_answer : {refusal : Refusal} → TreeRead r.plate.greatest s at (r.plate.width * r.plate.height) work work' count (Err refusal)
        → Spells P work work' (Err (Late refusal (r.plate.width * r.plate.height)))
    late_answer t = (sym (e ∙ t.rest r.new r.plate.connectivity r.plate.width r.plate.height refl), (room, t.frame))

    pub plate_answer : TreeRead r.plate.greatest s at (r.plate.width * r.plate.height) work work' count (Ok tt) → Spells P work work' (Ok r)
    plate_answer t = (sym (e ∙ t.rest r.new r.plate.connectivity r.plate.width r.plate.height refl), (room, t.frame))
