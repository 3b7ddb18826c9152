-- The fields of a record taken one after another: SPECIFICATION 6 and 9 up to 23. `read_of` adds 24. new: the record is in the new form; M: the greatest
-- grey.
use Rattle.std.specs.Prelude.{Bool, true, not, ◌&&◌, List, [], ◌∷◌, ◌++◌, ℕ, zero, suc, ◌+◌, ◌-◌, ◌*◌, ltb, eqb, length}
use Rattle.std.proofs.Math.Bool.{false}
use Rattle.meaning.specs.Sets.{pick, nth}
use Rattle.meaning.specs.Plate.{byte_greatest, connectivity_fits, max_extent, max_greatest, max_pixels}
use Rattle.meaning.specs.Record.{old_record_of, record_in, record_of}
use Rattle.record_varint.specs.Field.{Reading, accepted, refused, field_at, field_bound}

-- ---- several fields

-- the numbers that some fields spell and the position after them, or the first refusal
pub data Values : Type 0 where
  good : List ℕ → ℕ → Values
  bad : ℕ → Values

abbrev pub on_value : Reading → (ℕ → ℕ → Values) → Values
on_value (accepted v next) go = go v next
on_value (refused number) go = bad number

abbrev pub more : ℕ → Values → Values
more v (good vs next) = good (v ∷ vs) next
more v (bad number) = bad number

module _ (M : ℕ) (s : List ℕ) (pixels : ℕ) where
  -- `left` nodes after those whose levels are known: the step back to the parent's number (1 to the own number), the rise above the parent's
  -- level (1 to the greatest grey minus that level), the area (1 to the pixels). It gives the levels of all nodes
  unfoldable pub levels_from : ℕ → List ℕ → ℕ → Values
  levels_from zero levels at = good levels at
  levels_from (suc left) levels at =
      on_value (field_at s at 1 (length levels)) λ back at₁.
      on_value (field_at s at₁ 1 (M - nth levels (length levels - back))) λ rise at₂.
      on_value (field_at s at₂ 1 pixels) λ area at₃.
      levels_from left (levels ++ ((nth levels (length levels - back) + rise) ∷ [])) at₃

module _ (s : List ℕ) (pixels : ℕ) where
  -- the own nodes of `left` pixels (0 to the count minus 1). It gives the pixels' greys, the levels of their own nodes
  unfoldable pub greys_from : List ℕ → ℕ → ℕ → Values
  greys_from levels zero at = good [] at
  greys_from levels (suc left) at =
      on_value (field_at s at 0 (length levels - 1)) λ own next. more (nth levels own) (greys_from levels left next)

-- ---- the whole record

-- what the bytes spell, with their form, or a refusal: `early` by 6 or ahead of it, so that no work has begun; `late` after it, with the pixels
pub data Parsed : Type 0 where
  early : (number : ℕ) → Parsed
  late : (number pixels : ℕ) → Parsed
  plate : (new : Bool) (k w h M : ℕ) (f : List ℕ) → Parsed

abbrev pub on_field : Reading → (ℕ → Parsed) → (ℕ → ℕ → Parsed) → Parsed
on_field (accepted v next) refusal go = go v next
on_field (refused number) refusal go = refusal number

abbrev pub on_values : Values → (ℕ → Parsed) → (List ℕ → ℕ → Parsed) → Parsed
on_values (good vs next) refusal go = go vs next
on_values (bad number) refusal go = refusal number

-- late refusals of a record of so many pixels
abbrev pub late_of : ℕ → ℕ → Parsed
late_of pixels number = late number pixels

-- the fields of both forms
module _ (new : Bool) (M : ℕ) (s : List ℕ) where
  -- the greys, and then the end: 23 where bytes are left over
  abbrev pub from_own : (k w h : ℕ) (levels : List ℕ) (at : ℕ) → Parsed
  from_own k w h levels at =
      on_values (greys_from s (w * h) levels (w * h) at) (late_of (w * h)) λ f next. pick (ltb next (length s)) (late 23 (w * h)) (plate new k w h M f)

  -- the nodes after the root
  abbrev pub from_nodes : (k w h count level at : ℕ) → Parsed
  from_nodes k w h count level at = on_values (levels_from M s (w * h) (count - 1) (level ∷ []) at) (late_of (w * h)) (from_own k w h)

  -- root level (0 to the greatest grey), root area (1 to the pixels)
  abbrev pub from_root : (k w h count at : ℕ) → Parsed
  from_root k w h count at =
      on_field (field_at s at 0 M) (late_of (w * h)) λ level at₁.
      on_field (field_at s at₁ 1 (w * h)) (late_of (w * h)) λ area at₂. from_nodes k w h count level at₂

  -- node count (1 to the pixels); then 6, work space shorter than 8 × pixels
  abbrev pub from_count : (work k w h at : ℕ) → Parsed
  from_count work k w h at =
      on_field (field_at s at 1 (w * h)) early λ count next. pick (ltb work (8 * (w * h))) (early 6) (from_root k w h count next)

  -- connectivity, 22 where it is none
  abbrev pub from_connectivity : (work w h at : ℕ) → Parsed
  from_connectivity work w h at =
      on_field (field_at s at 0 (field_bound - 1)) early λ k next. pick (not (connectivity_fits k)) (early 22) (from_count work k w h next)

  -- height; a product beyond the grid counts here
  unfoldable pub from_height : (work w at : ℕ) → Parsed
  unfolding levels_from greys_from connectivity_fits
  from_height work w at =
      on_field (field_at s at 1 max_extent) early λ h next. pick (ltb max_pixels (w * h)) (early 22) (from_connectivity work w h next)

module _ (s : List ℕ) where
  -- the width of the new form
  abbrev pub from_width : (work M at : ℕ) → Parsed
  from_width work M at = on_field (field_at s at 1 max_extent) early (from_height true M s work)

  -- the greatest grey of the new form
  abbrev pub from_greatest : (work at : ℕ) → Parsed
  from_greatest work at = on_field (field_at s at 1 max_greatest) early (from_width work)

  -- the second field of the new form, which is 2
  abbrev pub from_version : (work at : ℕ) → Parsed
  from_version work at = on_field (field_at s at 2 2) early λ version. from_greatest work

  -- all fields; a first field of 0 marks the new form, any other is the width of the old one; work: the length of the work space
  unfoldable pub parse : (work : ℕ) → Parsed
  unfolding from_height
  parse work =
      on_field (field_at s 0 0 max_extent) early λ first next.
      pick (eqb first 0) (from_version work next) (from_height false byte_greatest s work first next)

-- ---- and 24

-- two lists of bytes are the same
unfoldable pub same_bytes : List ℕ → List ℕ → Bool
same_bytes [] [] = true
same_bytes [] (y ∷ ys) = false
same_bytes (x ∷ xs) [] = false
same_bytes (x ∷ xs) (y ∷ ys) = eqb x y && same_bytes xs ys

-- 24 the bytes differ from the record, in their form, of the plate that they spell
abbrev pub compared : List ℕ → Parsed → Parsed
compared s (early number) = early number
compared s (late number pixels) = late number pixels
compared s (plate new k w h M f) = pick (same_bytes s (record_in new k w h M f)) (plate new k w h M f) (late 24 (w * h))

-- what reading the bytes s with so much work space finds, up to 24
unfoldable pub read_of : List ℕ → ℕ → Parsed
unfolding parse old_record_of record_of same_bytes
read_of s work = compared s (parse s work)
