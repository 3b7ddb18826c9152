-- What parsing accepts is a plate, and the work space has room for it.
use mathlib.Core.Path.{◌≡◌, refl, sym, ap}
use mathlib.Core.Bool.{Bool, true, false, not}
use mathlib.Core.List.{List, [], ◌∷◌, ◌++◌}
use Prim.Native.Nat.{ℕ, zero, suc, ◌+◌, ◌-◌, ◌*◌, ◌≤◌}
use native.Mathlib.Omega.{arith}
use borrow.Author.Tests.{eqb-false, ltb-false, le-leb, not-false}
use lib.Dec.{eqb, ltb}
use lib.ListN.{length}
use Rattle.meaning.specs.Plate.{Plate, byte_greatest, connectivity_fits, greatest_fits, grid_fits, max_extent, max_greatest, max_pixels}
use Rattle.meaning.specs.Sets.{nth, pick}
use Rattle.theory_lists.proofs.Tests.{passes}
use Rattle.record_varint.specs.Field.{Reading, accepted, field_at, field_bound, refused}
use Rattle.record_varint.proofs.Reading.{field_read}
use Rattle.record_parse.specs.Parse.{Parsed, Values, bad, early, from_connectivity, from_count, from_greatest, from_height, from_nodes, from_own, from_root}
use Rattle.record_parse.specs.Parse.{from_version, from_width, good, greys_from, late, late_of, levels_from, more, on_field, on_value, on_values, parse, plate}

-- ---- what went on was not refused

-- the field r is accepted, and what follows it gives x
record FieldAccepted {X : Type 0} (r : Reading) (go : ℕ → ℕ → X) (x : X) : Type 0 where
  v : ℕ
  next : ℕ
  read : r ≡ accepted v next
  rest : go v next ≡ x

on_value_lem : (r : Reading) (go : ℕ → ℕ → Values) (vs : List ℕ) (q : ℕ) → on_value r go ≡ good vs q → FieldAccepted r go (good vs q)
on_value_lem (accepted v next) go vs q e = record { v = v; next = next; read = refl; rest = e }
on_value_lem (refused number) go vs q e = let z : ◌≡◌ {A = ℕ} 0 1 = cc in absurd (omega arith)

on_more : (v : ℕ) (rest : Values) (vs : List ℕ) (q : ℕ) → more v rest ≡ good vs q → (ws : List ℕ) × ((rest ≡ good ws q) × (vs ≡ v ∷ ws))
on_more v (good ws next) vs q e = (ws, (cc, cc))
on_more v (bad number) vs q e = let z : ◌≡◌ {A = ℕ} 0 1 = cc in absurd (omega arith)

-- ---- levels and greys, which are at most M

-- each number of a list is a grey
data AllGreys (M : ℕ) : List ℕ → Type 0 where
  none : AllGreys M []
  one : {v : ℕ} {vs : List ℕ} → v ≤ M → AllGreys M vs → AllGreys M (v ∷ vs)

greys_nth : {M : ℕ} {vs : List ℕ} (i : ℕ) → AllGreys M vs → nth vs i ≤ M
greys_nth i none = omega arith
greys_nth zero (one l a) = l
greys_nth (suc i) (one l a) = greys_nth i a

greys_snoc : {M : ℕ} {vs : List ℕ} {v : ℕ} → AllGreys M vs → v ≤ M → AllGreys M (vs ++ (v ∷ []))
greys_snoc none l = one l none
greys_snoc (one h a) l = one h (greys_snoc a l)

module _ {M : ℕ} (s : List ℕ) (pixels : ℕ) where
  levels_greys : (left : ℕ) (levels : List ℕ) (at : ℕ) (vs : List ℕ) (q : ℕ) → AllGreys M levels → levels_from M s pixels left levels at ≡ good vs q
      → AllGreys M vs
  unfolding levels_from
  levels_greys zero levels at vs q g e = let is : levels ≡ vs = cc in rw is at g
  levels_greys (suc left) levels at vs q g e =
      let back = on_value_lem (field_at s at 1 (length levels)) _ vs q e in
      let level = nth levels (length levels - back.v) in
      let rise = on_value_lem (field_at s back.next 1 (M - level)) _ vs q back.rest in
      let area =
      on_value_lem (field_at s rise.next 1 pixels) (λ area at₃. levels_from M s pixels left (levels ++ ((level + rise.v) ∷ [])) at₃) vs q
      rise.rest in
      let high = (field_read s back.next 1 (M - level) rise.v rise.next rise.read).high in
      let low : level ≤ M = greys_nth (length levels - back.v) g in
      levels_greys left (levels ++ ((level + rise.v) ∷ [])) area.next vs q (greys_snoc g (omega arith)) area.rest

  owns_greys : (levels : List ℕ) (left at : ℕ) (vs : List ℕ) (q : ℕ) → AllGreys M levels → greys_from s pixels levels left at ≡ good vs q
      → AllGreys M vs × (length vs ≡ left)
  unfolding greys_from
  owns_greys levels zero at vs q g e = let is : vs ≡ [] = cc in rw is (none, refl)
  owns_greys levels (suc left) at vs q g e =
      let own = on_value_lem (field_at s at 0 (length levels - 1)) _ vs q e in
      let m = on_more (nth levels own.v) (greys_from s pixels levels left own.next) vs q own.rest in
      let r = owns_greys levels left own.next m.0 q g m.1.0 in
      rw m.1.1 (one (greys_nth own.v g) r.0, ap suc r.1)

-- ---- the whole record

-- what parsing accepts: an accepted plate, whose greatest grey is that of a byte in the old form, and the work space has room for it
pub record PlateParsed (new : Bool) (k w h M : ℕ) (f : List ℕ) (work : ℕ) : Type 0 where
  pub accepted : Plate k w h M f
  pub old : new ≡ false → M ≡ byte_greatest
  pub room : 8 * (w * h) ≤ work

-- the new form is not the old one
pub not_old : {M : ℕ} → true ≡ false → M ≡ byte_greatest
not_old e = absurd (passes (sym e))

-- what holds of an answer: a plate is so
abbrev Sound : ℕ → Parsed → Type 0
Sound work (early number) = Unit {0}
Sound work (late number pixels) = Unit {0}
Sound work (plate new k w h M f) = PlateParsed new k w h M f work

module _ (work : ℕ) where
  on_field_lem : (r : Reading) (refusal : ℕ → Parsed) (go : ℕ → ℕ → Parsed) → ((number : ℕ) → Sound work (refusal number))
      → ((v next : ℕ) → r ≡ accepted v next → Sound work (go v next)) → Sound work (on_field r refusal go)
  on_field_lem (accepted v next) refusal go a b = b v next refl
  on_field_lem (refused number) refusal go a b = a number

  on_values_lem : (vs : Values) (refusal : ℕ → Parsed) (go : List ℕ → ℕ → Parsed) → ((number : ℕ) → Sound work (refusal number))
      → ((ws : List ℕ) (next : ℕ) → vs ≡ good ws next → Sound work (go ws next)) → Sound work (on_values vs refusal go)
  on_values_lem (good ws next) refusal go a b = b ws next refl
  on_values_lem (bad number) refusal go a b = a number

  on_test : (b : Bool) (p q : Parsed) → (b ≡ true → Sound work p) → (b ≡ false → Sound work q) → Sound work (pick b p q)
  on_test true p q x y = x refl
  on_test false p q x y = y refl

-- greys up to M are those of an accepted plate
abbrev Accepting : (new : Bool) (k w h M work : ℕ) → Type 0
Accepting new k w h M work = (f : List ℕ) → AllGreys M f → length f ≡ w * h → PlateParsed new k w h M f work

module _ (new : Bool) (M : ℕ) (s : List ℕ) (work : ℕ) where
  own_sound : (k w h : ℕ) (levels : List ℕ) (at : ℕ) → Accepting new k w h M work → AllGreys M levels → Sound work (from_own new M s k w h levels at)
  own_sound k w h levels at fit g =
      let end : List ℕ → ℕ → Parsed = λ f next. pick (ltb next (length s)) (late 23 (w * h)) (plate new k w h M f) in
      on_values_lem work (greys_from s (w * h) levels (w * h) at) (late_of (w * h)) end (λ number. tt) λ f next e.
      on_test work (ltb next (length s)) (late 23 (w * h)) (plate new k w h M f) (λ left. tt) λ done.
      let a = owns_greys s (w * h) levels (w * h) at f next g e in
      fit f a.0 a.1

  root_sound : (k w h count at : ℕ) → Accepting new k w h M work → Sound work (from_root new M s k w h count at)
  root_sound k w h count at fit =
      let nodes : ℕ → ℕ → ℕ → Parsed = λ level area at₂. from_nodes new M s k w h count level at₂ in
      let sized : ℕ → ℕ → Parsed = λ level at₁. on_field (field_at s at₁ 1 (w * h)) (late_of (w * h)) (nodes level) in
      on_field_lem work (field_at s at 0 M) (late_of (w * h)) sized (λ number. tt) λ level at₁ e₁.
      on_field_lem work (field_at s at₁ 1 (w * h)) (late_of (w * h)) (nodes level) (λ number. tt) λ area at₂ e₂.
      on_values_lem work (levels_from M s (w * h) (count - 1) (level ∷ []) at₂) (late_of (w * h)) (from_own new M s k w h) (λ number. tt) λ levels next e₃.
      let low = (field_read s at 0 M level at₁ e₁).high in
      own_sound k w h levels next fit (levels_greys s (w * h) (count - 1) (level ∷ []) at₂ levels next (one low none) e₃)

  module _ (range : greatest_fits M ≡ true) (old : new ≡ false → M ≡ byte_greatest) where
    count_sound : (k w h at : ℕ) → connectivity_fits k ≡ true → grid_fits w h ≡ true → Sound work (from_count new M s work k w h at)
    count_sound k w h at kind sizes =
        let root : ℕ → ℕ → Parsed = λ count next. pick (ltb work (8 * (w * h))) (early 6) (from_root new M s k w h count next) in
        on_field_lem work (field_at s at 1 (w * h)) early root (λ number. tt) λ count next e.
        on_test work (ltb work (8 * (w * h))) (early 6) (from_root new M s k w h count next) (λ short. tt) λ room.
        root_sound k w h count next λ f greys long.
        record {
          accepted = record { kind = kind; sizes = sizes; range = range; long = long; greys = λ p l. greys_nth p greys };
          old = old;
          room = ltb-false work (8 * (w * h)) room;
        }

    connectivity_sound : (w h at : ℕ) → grid_fits w h ≡ true → Sound work (from_connectivity new M s work w h at)
    connectivity_sound w h at sizes =
        let rest : ℕ → ℕ → Parsed = λ k next. pick (not (connectivity_fits k)) (early 22) (from_count new M s work k w h next) in
        on_field_lem work (field_at s at 0 (field_bound - 1)) early rest (λ number. tt) λ k next e.
        on_test work (not (connectivity_fits k)) (early 22) (from_count new M s work k w h next) (λ none. tt) λ kind.
        count_sound k w h next (not-false (connectivity_fits k) kind) sizes

    height_sound : (w at : ℕ) → 1 ≤ w → w ≤ max_extent → Sound work (from_height new M s work w at)
    unfolding from_height grid_fits
    height_sound w at least most =
        let rest : ℕ → ℕ → Parsed = λ h next. pick (ltb max_pixels (w * h)) (early 22) (from_connectivity new M s work w h next) in
        on_field_lem work (field_at s at 1 max_extent) early rest (λ number. tt) λ h next e.
        on_test work (ltb max_pixels (w * h)) (early 22) (from_connectivity new M s work w h next) (λ large. tt) λ grid.
        let a = field_read s at 1 max_extent h next e in
        let sizes : grid_fits w h ≡ true =
        rw (
          le-leb 1 w least,
          le-leb w max_extent most,
          le-leb 1 h a.low,
          le-leb h max_extent a.high,
          le-leb (w * h) max_pixels (ltb-false max_pixels (w * h) grid),
        ) in
        connectivity_sound w h next sizes

module _ (s : List ℕ) (work : ℕ) where
  version_sound : (at : ℕ) → Sound work (from_version s work at)
  unfolding greatest_fits
  version_sound at =
      on_field_lem work (field_at s at 2 2) early (λ version. from_greatest s work) (λ number. tt) λ version at₁ e₁.
      on_field_lem work (field_at s at₁ 1 max_greatest) early (from_width s work) (λ number. tt) λ M at₂ e₂.
      on_field_lem work (field_at s at₂ 1 max_extent) early (from_height true M s work) (λ number. tt) λ w at₃ e₃.
      let a = field_read s at₁ 1 max_greatest M at₂ e₂ in
      let b = field_read s at₂ 1 max_extent w at₃ e₃ in
      let range : greatest_fits M ≡ true = rw (le-leb 1 M a.low, le-leb M max_greatest a.high) in
      height_sound true M s work range not_old w at₃ b.low b.high

  parse_sound : Sound work (parse s work)
  unfolding parse greatest_fits
  parse_sound =
      let rest : ℕ → ℕ → Parsed = λ first next. pick (eqb first 0) (from_version s work next) (from_height false byte_greatest s work first next) in
      on_field_lem work (field_at s 0 0 max_extent) early rest (λ number. tt) λ first next e.
      on_test work (eqb first 0) (from_version s work next) (from_height false byte_greatest s work first next) (λ new. version_sound next) λ old.
      height_sound false byte_greatest s work refl (λ e. refl) first next (omega (arith, eqb-false first 0 old))
      (field_read s 0 0 max_extent first next e).high

  pub parse_plate : (new : Bool) (k w h M : ℕ) (f : List ℕ) → parse s work ≡ plate new k w h M f → PlateParsed new k w h M f work
  parse_plate new k w h M f e = rw e at parse_sound
