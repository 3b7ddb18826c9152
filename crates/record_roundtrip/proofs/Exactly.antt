-- The other direction of the round trip: bytes that reading accepts are the record of a plate, and every refusal has a number other than 0.
use mathlib.Core.Path.{◌≡◌, refl, ◌∙◌}
use mathlib.Core.Bool.{Bool, true, false, not, ◌&&◌}
use mathlib.Core.List.{List, [], ◌∷◌, ◌++◌}
use Prim.Native.Nat.{ℕ, zero, suc, ◌+◌, ◌-◌, ◌*◌, ◌<◌}
use native.Mathlib.Omega.{arith}
use lib.Dec.{eqb, leb, ltb}
use lib.ListN.{length, drop}
use borrow.Author.Tests.{eqb-true}
use Rattle.meaning.specs.Plate.{byte_greatest, connectivity_fits, max_extent, max_greatest, max_pixels}
use Rattle.meaning.specs.Record.{record_in, varint}
use Rattle.meaning.specs.Sets.{nth, pick}
use Rattle.theory_lists.proofs.Tests.{both_true, passes}
use Rattle.record_varint.specs.Field.{Reading, accepted, continued, field_at, field_bound, field_of, refused, starts, value}
use Rattle.record_parse.specs.Parse.{Parsed, Values, bad, compared, early, from_connectivity, from_count, from_greatest, from_height, from_nodes, from_own}
use Rattle.record_parse.specs.Parse.{from_root, from_version, from_width, good, greys_from, late, late_of, levels_from, more, on_field, on_value, on_values, parse}
use Rattle.record_parse.specs.Parse.{plate, read_of, same_bytes}
use Rattle.record_parse.proofs.Sound.{PlateParsed, parse_plate}

-- ---- a refusal's number is not 0

abbrev pub NumberedField : Reading → Type 0
NumberedField (accepted v next) = Unit {0}
NumberedField (refused number) = 0 < number

abbrev pub NumberedValues : Values → Type 0
NumberedValues (good vs next) = Unit {0}
NumberedValues (bad number) = 0 < number

abbrev pub Numbered : Parsed → Type 0
Numbered (early number) = 0 < number
Numbered (late number pixels) = 0 < number
Numbered (plate new k w h M f) = Unit {0}

three_tests : (a b c : Bool) (v next : ℕ) → NumberedField (pick a (refused 20) (pick b (refused 21) (pick c (refused 22) (accepted v next))))
three_tests true b c v next = omega arith
three_tests false true c v next = omega arith
three_tests false false true v next = omega arith
three_tests false false false v next = tt

field-numbered : (l : List ℕ) (at lo hi : ℕ) → NumberedField (field_of l at lo hi)
unfolding field_of
field-numbered l at lo hi =
    let v = value l in
    three_tests (leb (length l) (continued l)) (not (starts (varint v) l && ltb v field_bound)) (not (leb lo v && leb v hi)) v (at + length (varint v))

value-numbered : (r : Reading) (go : ℕ → ℕ → Values) → NumberedField r → ((v next : ℕ) → NumberedValues (go v next)) → NumberedValues (on_value r go)
value-numbered (accepted v next) go a b = b v next
value-numbered (refused number) go a b = a

more-numbered : (v : ℕ) (vs : Values) → NumberedValues vs → NumberedValues (more v vs)
more-numbered v (good vs next) a = tt
more-numbered v (bad number) a = a

-- of parsing: the refusal is by early or late
abbrev Numbering : (ℕ → Parsed) → Type 0
Numbering refusal = (number : ℕ) → 0 < number → Numbered (refusal number)

on_field_lem : (r : Reading) (refusal : ℕ → Parsed) (go : ℕ → ℕ → Parsed) → Numbering refusal → NumberedField r → ((v next : ℕ) → Numbered (go v next))
    → Numbered (on_field r refusal go)
on_field_lem (accepted v next) refusal go a b c = c v next
on_field_lem (refused number) refusal go a b c = a number b

on_values_lem : (vs : Values) (refusal : ℕ → Parsed) (go : List ℕ → ℕ → Parsed) → Numbering refusal → NumberedValues vs
    → ((ws : List ℕ) (next : ℕ) → Numbered (go ws next)) → Numbered (on_values vs refusal go)
on_values_lem (good ws next) refusal go a b c = c ws next
on_values_lem (bad number) refusal go a b c = a number b

on_test : (b : Bool) (p q : Parsed) → Numbered p → Numbered q → Numbered (pick b p q)
on_test true p q x y = x
on_test false p q x y = y

module _ (s : List ℕ) where
  at_field : (at lo hi : ℕ) → NumberedField (field_at s at lo hi)
  at_field at lo hi = field-numbered (drop at s) at lo hi

  levels_numbered : (M pixels left : ℕ) (levels : List ℕ) (at : ℕ) → NumberedValues (levels_from M s pixels left levels at)
  unfolding levels_from
  levels_numbered M pixels zero levels at = tt
  levels_numbered M pixels (suc left) levels at =
      let level : ℕ → ℕ = λ (back : ℕ). nth levels (length levels - back) in
      let node : ℕ → ℕ → ℕ → ℕ → Values = λ back rise area at₃. levels_from M s pixels left (levels ++ ((level back + rise) ∷ [])) at₃ in
      let sized : ℕ → ℕ → ℕ → Values = λ back rise at₂. on_value (field_at s at₂ 1 pixels) (node back rise) in
      let raised : ℕ → ℕ → Values = λ back at₁. on_value (field_at s at₁ 1 (M - level back)) (sized back) in
      value-numbered (field_at s at 1 (length levels)) raised (at_field at 1 (length levels)) λ back at₁.
      value-numbered (field_at s at₁ 1 (M - level back)) (sized back) (at_field at₁ 1 (M - level back)) λ rise at₂.
      value-numbered (field_at s at₂ 1 pixels) (node back rise) (at_field at₂ 1 pixels) λ area at₃.
      levels_numbered M pixels left (levels ++ ((level back + rise) ∷ [])) at₃

  greys_numbered : (pixels : ℕ) (levels : List ℕ) (left at : ℕ) → NumberedValues (greys_from s pixels levels left at)
  unfolding greys_from
  greys_numbered pixels levels zero at = tt
  greys_numbered pixels levels (suc left) at =
      let rest : ℕ → ℕ → Values = λ own next. more (nth levels own) (greys_from s pixels levels left next) in
      value-numbered (field_at s at 0 (length levels - 1)) rest (at_field at 0 (length levels - 1)) λ own next.
      more-numbered (nth levels own) (greys_from s pixels levels left next) (greys_numbered pixels levels left next)

-- after the form; new: the new one
module _ (new : Bool) (M : ℕ) (s : List ℕ) where
  own_numbered : (k w h : ℕ) (levels : List ℕ) (at : ℕ) → Numbered (from_own new M s k w h levels at)
  own_numbered k w h levels at =
      let end : List ℕ → ℕ → Parsed = λ f next. pick (ltb next (length s)) (late 23 (w * h)) (plate new k w h M f) in
      on_values_lem (greys_from s (w * h) levels (w * h) at) (late_of (w * h)) end (λ number l. l) (greys_numbered s (w * h) levels (w * h) at) λ f next.
      on_test (ltb next (length s)) (late 23 (w * h)) (plate new k w h M f) (omega arith) tt

  root-numbered : (k w h count at : ℕ) → Numbered (from_root new M s k w h count at)
  root-numbered k w h count at =
      let nodes : ℕ → ℕ → ℕ → Parsed = λ level area at₂. from_nodes new M s k w h count level at₂ in
      let sized : ℕ → ℕ → Parsed = λ level at₁. on_field (field_at s at₁ 1 (w * h)) (late_of (w * h)) (nodes level) in
      on_field_lem (field_at s at 0 M) (late_of (w * h)) sized (λ number l. l) (at_field s at 0 M) λ level at₁.
      on_field_lem (field_at s at₁ 1 (w * h)) (late_of (w * h)) (nodes level) (λ number l. l) (at_field s at₁ 1 (w * h)) λ area at₂.
      on_values_lem (levels_from M s (w * h) (count - 1) (level ∷ []) at₂) (late_of (w * h)) (from_own new M s k w h) (λ number l. l)
      (levels_numbered s M (w * h) (count - 1) (level ∷ []) at₂) (own_numbered k w h)

  count_numbered : (work k w h at : ℕ) → Numbered (from_count new M s work k w h at)
  count_numbered work k w h at =
      let root : ℕ → ℕ → Parsed = λ count next. pick (ltb work (8 * (w * h))) (early 6) (from_root new M s k w h count next) in
      on_field_lem (field_at s at 1 (w * h)) early root (λ number l. l) (at_field s at 1 (w * h)) λ count next.
      on_test (ltb work (8 * (w * h))) (early 6) (from_root new M s k w h count next) (omega arith) (root-numbered k w h count next)

  connectivity_numbered : (work w h at : ℕ) → Numbered (from_connectivity new M s work w h at)
  connectivity_numbered work w h at =
      let rest : ℕ → ℕ → Parsed = λ k next. pick (not (connectivity_fits k)) (early 22) (from_count new M s work k w h next) in
      on_field_lem (field_at s at 0 (field_bound - 1)) early rest (λ number l. l) (at_field s at 0 (field_bound - 1)) λ k next.
      on_test (not (connectivity_fits k)) (early 22) (from_count new M s work k w h next) (omega arith) (count_numbered work k w h next)

  height_numbered : (work w at : ℕ) → Numbered (from_height new M s work w at)
  unfolding from_height
  height_numbered work w at =
      let rest : ℕ → ℕ → Parsed = λ h next. pick (ltb max_pixels (w * h)) (early 22) (from_connectivity new M s work w h next) in
      on_field_lem (field_at s at 1 max_extent) early rest (λ number l. l) (at_field s at 1 max_extent) λ h next.
      on_test (ltb max_pixels (w * h)) (early 22) (from_connectivity new M s work w h next) (omega arith) (connectivity_numbered work w h next)

module _ (s : List ℕ) (work : ℕ) where
  version_numbered : (at : ℕ) → Numbered (from_version s work at)
  version_numbered at =
      on_field_lem (field_at s at 2 2) early (λ version. from_greatest s work) (λ number l. l) (at_field s at 2 2) λ version at₁.
      on_field_lem (field_at s at₁ 1 max_greatest) early (from_width s work) (λ number l. l) (at_field s at₁ 1 max_greatest) λ M at₂.
      on_field_lem (field_at s at₂ 1 max_extent) early (from_height true M s work) (λ number l. l) (at_field s at₂ 1 max_extent) (height_numbered true M s work)

  parse_numbered : Numbered (parse s work)
  unfolding parse
  parse_numbered =
      let rest : ℕ → ℕ → Parsed = λ first next. pick (eqb first 0) (from_version s work next) (from_height false byte_greatest s work first next) in
      on_field_lem (field_at s 0 0 max_extent) early rest (λ number l. l) (at_field s 0 0 max_extent) λ first next.
      on_test (eqb first 0) (from_version s work next) (from_height false byte_greatest s work first next) (version_numbered next)
      (height_numbered false byte_greatest s work first next)

  compared-numbered : (P : Parsed) → Numbered P → Numbered (compared s P)
  compared-numbered (early number) l = l
  compared-numbered (late number pixels) l = l
  compared-numbered (plate new k w h M f) l =
      on_test (same_bytes s (record_in new k w h M f)) (plate new k w h M f) (late 24 (w * h)) tt (omega arith)

  pub read_numbered : Numbered (read_of s work)
  unfolding read_of
  read_numbered = compared-numbered (parse s work) parse_numbered

-- ---- what is accepted

bytes-are : (xs ys : List ℕ) → same_bytes xs ys ≡ true → xs ≡ ys
unfolding same_bytes
bytes-are [] [] e = refl
bytes-are [] (y ∷ ys) e = absurd (passes e)
bytes-are (x ∷ xs) [] e = absurd (passes e)
bytes-are (x ∷ xs) (y ∷ ys) e =
    let both = both_true (eqb x y) (same_bytes xs ys) e in
    rw (eqb-true x y both.0, bytes-are xs ys both.1)

-- the plate that was compared is the one that is accepted, and the bytes are its record, in their form
taken : (s : List ℕ) (P : Parsed) (new : Bool) (k w h M : ℕ) (f : List ℕ) → compared s P ≡ plate new k w h M f
    → (P ≡ plate new k w h M f) × (s ≡ record_in new k w h M f)
taken s (early number) new k w h M f e = let z : ◌≡◌ {A = ℕ} 0 1 = cc in absurd (omega arith)
taken s (late number pixels) new k w h M f e = let z : ◌≡◌ {A = ℕ} 0 1 = cc in absurd (omega arith)
taken s (plate new' k' w' h' M' f') new k w h M f e = go (same_bytes s (record_in new' k' w' h' M' f')) refl e
  where
    go : (b : Bool) → same_bytes s (record_in new' k' w' h' M' f') ≡ b → pick b (plate new' k' w' h' M' f') (late 24 (w' * h')) ≡ plate new k w h M f
        → (plate new' k' w' h' M' f' ≡ plate new k w h M f) × (s ≡ record_in new k w h M f)
    go true q e = let same = bytes-are s (record_in new' k' w' h' M' f') q in (e, same ∙ cc)
    go false q e = let z : ◌≡◌ {A = ℕ} 0 1 = cc in absurd (omega arith)

-- bytes that are read as a plate are that plate's record, in their form; the plate is accepted, with the greatest grey of a byte in the old form, and its
-- work space was there
pub read_exact : (s : List ℕ) (work : ℕ) (new : Bool) (k w h M : ℕ) (f : List ℕ) → read_of s work ≡ plate new k w h M f
    → (s ≡ record_in new k w h M f) × PlateParsed new k w h M f work
unfolding read_of
read_exact s work new k w h M f e =
    let t = taken s (parse s work) new k w h M f e in
    (t.1, parse_plate s work new k w h M f t.0)
