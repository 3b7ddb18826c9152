-- The theorem on the conversion of records.
use mathlib.Core.Path.{◌≡◌, refl, sym, ap, ◌∙◌}
use mathlib.Core.Bool.{Bool, true, false, not}
use mathlib.Core.List.{List}
use Prim.Native.Nat.{ℕ, ◌*◌, ◌≤◌}
use native.Mathlib.Omega.{arith}
use lib.ListN.{length}
use borrow.Author.Tests.{eq-eqb, le-ltb, ne_eqb}
use Rattle.meaning.specs.Plate.{byte_greatest}
use Rattle.meaning.specs.Record.{record_in}
use Rattle.record_parse.proofs.Sound.{PlateParsed}
use Rattle.record_parse.specs.Parse.{plate}
use Rattle.record_roundtrip.proofs.There.{read_there}
use Rattle.record_roundtrip.proofs.Exactly.{read_exact}
use Rattle.record_convert.specs.Converting.{convert_refusal, form_fits}
use Rattle.demands.specs.Conversions.{ConversionClaim, Sound, convert_answer, converted}
use Rattle.demands.proofs.Claims.{over-take}

-- the form fits where it is the new one, or M is 255
form_met : (new : Bool) {M : ℕ} → (new ≡ false → M ≡ byte_greatest) → form_fits new M ≡ true
unfolding form_fits
form_met true form = refl
form_met false {M} form = eq-eqb M byte_greatest (form refl)

form_unmet : {M : ℕ} → (M ≡ byte_greatest → ⊥) → form_fits false M ≡ false
unfolding form_fits
form_unmet {M} x = ne_eqb M byte_greatest x

-- ---- a sound record s, in the form `was`

module _ (s work : List ℕ) {was : Bool} {k w h M : ℕ} {f : List ℕ} (sound : Sound s work was k w h M f) where
  module _ (new : Bool) (out : List ℕ) (form : new ≡ false → M ≡ byte_greatest) (room : length (record_in new k w h M f) ≤ length out) where
    not_refused : convert_refusal new (plate was k w h M f) (length out) ≡ 0
    not_refused = rw (form_met new form, le-ltb (length out) (length (record_in new k w h M f)) room)

    answer_is : convert_answer new s out work ≡ record { refusal = 0; length = length (record_in new k w h M f) }
    answer_is = rw (sound, not_refused)

    converted-is : converted new s out work ≡ record_in new k w h M f
    converted-is = rw (sound, not_refused) (over-take (record_in new k w h M f) out (length (record_in new k w h M f)) refl)

  none : (out : List ℕ) → (M ≡ byte_greatest → ⊥) → convert_answer false s out work ≡ record { refusal = 30; length = 0 }
  none out x = rw (sound, form_unmet x)

  -- the bytes are the record of a plate
  bytes-are : s ≡ record_in was k w h M f
  bytes-are = (read_exact s (length work) was k w h M f sound).0

  parsed : PlateParsed was k w h M f (length work)
  parsed = (read_exact s (length work) was k w h M f sound).1

  same : (out : List ℕ) → length s ≤ length out → converted was s out work ≡ s
  same out room = converted-is was out parsed.old (omega (arith, ap length bytes-are)) ∙ sym bytes-are

-- ---- there and back

module _ (s work : List ℕ) {was : Bool} {k w h M : ℕ} {f : List ℕ} (sound : Sound s work was k w h M f) (e : M ≡ byte_greatest) where
  abbrev other : List ℕ
  other = record_in (not was) k w h M f

  there_and_back : (out out' work' : List ℕ) → length other ≤ length out → length s ≤ length out' → 8 * (w * h) ≤ length work'
      → converted was (converted (not was) s out work) out' work' ≡ s
  there_and_back out out' work' room room' space =
      let there : converted (not was) s out work ≡ other = converted-is s work sound (not was) out (λ _. e) room in
      let again : Sound other work' (not was) k w h M f = read_there (parsed s work sound).accepted (not was) (λ _. e) (length work') space in
      ap (λ (t : List ℕ). converted was t out' work') there
      ∙ converted-is other work' again was out' (λ _. e) (omega (arith, ap length (bytes-are s work sound)))
      ∙ sym (bytes-are s work sound)

pub conversion : ConversionClaim
conversion = record {
  succeeds = λ new was s out work k w h M f sound form room. (answer_is s work sound new out form room, converted-is s work sound new out form room);
  refused = λ was s out work k w h M f sound x. none s work sound out x;
  unchanged = λ new s out work k w h M f sound room. same s work sound out room;
  restored = λ was s out work out' work' k w h M f sound e room room' space. there_and_back s work sound e out out' work' room room' space;
}
