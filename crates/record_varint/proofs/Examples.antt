-- Bytes read as a field, computed from the definition.
use mathlib.Core.Path.{◌≡◌, refl}
use mathlib.Core.List.{List, [], ◌∷◌, map}
use Prim.Native.Nat.{ℕ}
use Rattle.meaning.specs.Record.{groups}
use Rattle.record_varint.specs.Field.{continued, value, starts, field_of, Reading, accepted, refused}

pub record Case : Type 0 where
  pub bytes : List ℕ
  pub low : ℕ
  pub high : ℕ
  pub answer : Reading

abbrev case : List ℕ → ℕ → ℕ → Reading → Case
case bytes low high answer = record { bytes = bytes; low = low; high = high; answer = answer }

-- read at the position 7
abbrev pub cases : List Case
cases =
    -- the specification's example: 132 followed by 0
    case (132 ∷ 0 ∷ []) 1 32768 (refused 21)
    ∷ case (4 ∷ 3 ∷ []) 1 32768 (accepted 4 8)
    ∷ case (0 ∷ []) 0 255 (accepted 0 8)
    ∷ case (127 ∷ []) 0 255 (accepted 127 8)
    ∷ case (128 ∷ 1 ∷ []) 0 255 (accepted 128 9)
    ∷ case (172 ∷ 2 ∷ []) 0 300 (accepted 300 9)
    ∷ case (172 ∷ 2 ∷ []) 0 299 (refused 22)
    ∷ case (172 ∷ 2 ∷ []) 301 400 (refused 22)
    ∷ case (255 ∷ 255 ∷ 255 ∷ 255 ∷ 15 ∷ []) 0 4294967295 (accepted 4294967295 12)
    ∷ case (128 ∷ 128 ∷ 128 ∷ 128 ∷ 16 ∷ []) 0 4294967295 (refused 21)
    ∷ case (128 ∷ 128 ∷ 128 ∷ 128 ∷ 128 ∷ 1 ∷ []) 0 4294967295 (refused 21)
    ∷ case (129 ∷ 128 ∷ 128 ∷ 128 ∷ 128 ∷ 0 ∷ []) 0 4294967295 (refused 21)
    ∷ case [] 0 255 (refused 20)
    ∷ case (128 ∷ []) 0 255 (refused 20)
    ∷ case (128 ∷ 128 ∷ 128 ∷ 128 ∷ 128 ∷ 128 ∷ []) 0 255 (refused 20)
    ∷ []

pub fields_read : map (λ (c : Case). field_of c.bytes 7 c.low c.high) cases ≡ map (λ (c : Case). c.answer) cases
unfolding field_of continued value starts groups
fields_read = refl
