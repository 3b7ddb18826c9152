-- Reading records, computed from the definitions: those of SPECIFICATION 10's small plate in both forms, each refusal, each connectivity. No node rises
-- above a parent at the greatest grey.
use mathlib.Core.Path.{◌≡◌, refl}
use mathlib.Core.Bool.{false, true}
use mathlib.Core.List.{List, [], ◌∷◌, ◌++◌, map}
use Prim.Native.Nat.{ℕ}
use Rattle.meaning.specs.Examples.{small}
use Rattle.meaning.specs.Plate.{byte_greatest}
use Rattle.record_varint.specs.Field.{continued, field_of, starts, value}
use Rattle.record_parse.specs.Parse.{Parsed, early, late, plate, read_of}

pub record Case : Type 0 where
  pub bytes : List ℕ
  pub work : ℕ
  pub answer : Parsed

abbrev case : List ℕ → ℕ → Parsed → Case
case b w a = record { bytes = b; work = w; answer = a }

-- the small plate's record, SPECIFICATION 10, in the old form; in the new form it has 0, 2 and 255 in front
abbrev bytes : List ℕ
bytes = 4 ∷ 3 ∷ 4 ∷ 4 ∷ 10 ∷ 12 ∷ 1 ∷ 20 ∷ 2 ∷ 1 ∷ 20 ∷ 1 ∷ 3 ∷ 80 ∷ 1 ∷ 0 ∷ 0 ∷ 0 ∷ 0 ∷ 0 ∷ 2 ∷ 1 ∷ 0 ∷ 0 ∷ 0 ∷ 0 ∷ 3 ∷ []

abbrev new_bytes : List ℕ
new_bytes = 0 ∷ 2 ∷ 255 ∷ 1 ∷ bytes

-- what follows the connectivity in the record of two rows of two where the light pixels on a diagonal are one node: rows 9 0 / 0 9 and rows 0 9 / 9 0
abbrev falling : List ℕ
falling = 2 ∷ 0 ∷ 4 ∷ 1 ∷ 9 ∷ 2 ∷ 1 ∷ 0 ∷ 0 ∷ 1 ∷ []

abbrev rising : List ℕ
rising = 2 ∷ 0 ∷ 4 ∷ 1 ∷ 9 ∷ 2 ∷ 0 ∷ 1 ∷ 1 ∷ 0 ∷ []

-- a plate of two pixels: what follows the width in the record of greys 0 and v, the rise of the second node, in bytes
abbrev rising-by : List ℕ → List ℕ
rising-by v = 1 ∷ 4 ∷ 2 ∷ 0 ∷ 2 ∷ 1 ∷ (v ++ (1 ∷ 0 ∷ 1 ∷ []))

-- the old form
abbrev old_cases : List Case
old_cases =
    case bytes 96 (plate false 4 4 3 byte_greatest small)
    ∷ case bytes 95 (early 6)
    ∷ case [] 96 (early 20)
    ∷ case (132 ∷ 0 ∷ []) 96 (early 21)
    ∷ case (4 ∷ 131 ∷ []) 96 (early 20)
    ∷ case (4 ∷ 3 ∷ 5 ∷ []) 96 (early 22)
    ∷ case (4 ∷ 3 ∷ 7 ∷ []) 96 (early 22)
    ∷ case (4 ∷ 3 ∷ 6 ∷ []) 96 (early 20)
    ∷ case (4 ∷ 3 ∷ 4 ∷ 13 ∷ []) 0 (early 22)
    ∷ case (4 ∷ 3 ∷ 4 ∷ 12 ∷ []) 95 (early 6)
    ∷ case (4 ∷ 3 ∷ 4 ∷ 12 ∷ []) 96 (late 20 12)
    ∷ case (4 ∷ 3 ∷ 4 ∷ 4 ∷ 10 ∷ 13 ∷ []) 96 (late 22 12)
    ∷ case (4 ∷ 3 ∷ 4 ∷ 4 ∷ 10 ∷ 12 ∷ 2 ∷ []) 96 (late 22 12)
    ∷ case (2 ∷ 1 ∷ 4 ∷ 2 ∷ 255 ∷ 1 ∷ 2 ∷ 1 ∷ 1 ∷ []) 16 (late 22 2)
    ∷ case (bytes ++ (0 ∷ [])) 96 (late 23 12)
    ∷ case (1 ∷ 1 ∷ 4 ∷ 1 ∷ 7 ∷ 1 ∷ 0 ∷ []) 8 (plate false 4 1 1 byte_greatest (7 ∷ []))
    ∷ case (2 ∷ 1 ∷ 4 ∷ 2 ∷ 7 ∷ 2 ∷ 1 ∷ 1 ∷ 1 ∷ 0 ∷ 0 ∷ []) 16 (late 24 2)
    ∷ case (2 ∷ 2 ∷ 4 ∷ falling) 32 (late 24 4)
    ∷ case (2 ∷ 2 ∷ 6 ∷ falling) 32 (plate false 6 2 2 byte_greatest (9 ∷ 0 ∷ 0 ∷ 9 ∷ []))
    ∷ case (2 ∷ 2 ∷ 6 ∷ rising) 32 (late 24 4)
    ∷ case (2 ∷ 2 ∷ 8 ∷ rising) 32 (plate false 8 2 2 byte_greatest (0 ∷ 9 ∷ 9 ∷ 0 ∷ []))
    ∷ case (2 ∷ rising-by (255 ∷ 1 ∷ [])) 16 (plate false 4 2 1 byte_greatest (0 ∷ 255 ∷ []))
    ∷ case (2 ∷ rising-by (128 ∷ 2 ∷ [])) 16 (late 22 2)
    ∷ []

-- the new form, and what is neither
abbrev new_cases : List Case
new_cases =
    case new_bytes 96 (plate true 4 4 3 byte_greatest small)
    ∷ case (0 ∷ 2 ∷ 90 ∷ bytes) 96 (plate true 4 4 3 90 small)
    ∷ case (0 ∷ 2 ∷ 89 ∷ bytes) 96 (late 22 12)
    ∷ case new_bytes 95 (early 6)
    ∷ case (0 ∷ []) 96 (early 20)
    ∷ case (128 ∷ 0 ∷ []) 96 (early 21)
    ∷ case (0 ∷ 3 ∷ []) 96 (early 22)
    ∷ case (0 ∷ 1 ∷ []) 96 (early 22)
    ∷ case (0 ∷ 2 ∷ []) 96 (early 20)
    ∷ case (0 ∷ 2 ∷ 0 ∷ []) 96 (early 22)
    ∷ case (0 ∷ 2 ∷ 128 ∷ 128 ∷ 4 ∷ []) 96 (early 22)
    ∷ case (0 ∷ 2 ∷ 255 ∷ 255 ∷ 3 ∷ []) 96 (early 20)
    ∷ case (0 ∷ 2 ∷ 255 ∷ 1 ∷ 0 ∷ []) 96 (early 22)
    ∷ case (0 ∷ 2 ∷ 100 ∷ 1 ∷ 1 ∷ 4 ∷ 1 ∷ 100 ∷ 1 ∷ 0 ∷ []) 8 (plate true 4 1 1 100 (100 ∷ []))
    ∷ case (0 ∷ 2 ∷ 100 ∷ 1 ∷ 1 ∷ 4 ∷ 1 ∷ 101 ∷ 1 ∷ 0 ∷ []) 8 (late 22 1)
    ∷ case (0 ∷ 2 ∷ 128 ∷ 2 ∷ 2 ∷ rising-by (128 ∷ 2 ∷ [])) 16 (plate true 4 2 1 256 (0 ∷ 256 ∷ []))
    ∷ case (0 ∷ 2 ∷ 128 ∷ 2 ∷ 2 ∷ rising-by (129 ∷ 2 ∷ [])) 16 (late 22 2)
    ∷ case (0 ∷ 2 ∷ 255 ∷ 255 ∷ 3 ∷ 2 ∷ rising-by (255 ∷ 255 ∷ 3 ∷ [])) 16 (plate true 4 2 1 65535 (0 ∷ 65535 ∷ []))
    ∷ case (new_bytes ++ (0 ∷ [])) 96 (late 23 12)
    ∷ case (0 ∷ 2 ∷ 9 ∷ 2 ∷ 2 ∷ 4 ∷ falling) 32 (late 24 4)
    ∷ []

abbrev cases : List Case
cases = old_cases ++ new_cases

pub cases_hold : map (λ (c : Case). read_of c.bytes c.work) cases ≡ map (λ (c : Case). c.answer) cases
unfolding read_of field_of continued starts value
cases_hold = refl
