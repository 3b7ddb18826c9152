-- Numerals, and files that have the written form or not, computed from the definitions.
use mathlib.Core.Path.{◌≡◌, refl, ap}
use mathlib.Core.Bool.{true, false}
use mathlib.Core.List.{List, [], ◌∷◌}
use Prim.Native.Nat.{ℕ}
use native.Mathlib.Omega.{arith}
use borrow.Author.Tests.{eqb-false}
use lib.Dec.{eqb}
use lib.ListN.{get_or}
use Rattle.meaning.specs.Plate.{byte_greatest}
use Rattle.meaning.specs.Answers.{any_above}
use Rattle.plate_refusals.proofs.Refusals.{none_above}
use Rattle.pgm.specs.File.{plate_of, read_pgm}
use Rattle.pgm.specs.Text.{bytes}
use Rattle.pgm_write.specs.Writing.{pgm_of}
use Rattle.pgm_roundtrip.specs.PlateFiles.{Bytes, ReadsAs, WrittenForm, numeral}
use Rattle.pgm_roundtrip.proofs.PlateFiles.{file_only}

-- numbers without a leading zero; none, a leading zero, another byte
pub numerals : numeral (bytes "0") ∷ numeral (bytes "7") ∷ numeral (bytes "10") ∷ numeral (bytes "65535") ∷ numeral [] ∷ numeral (bytes "00")
    ∷ numeral (bytes "01") ∷ numeral (bytes "1 ") ∷ numeral (bytes "+1") ∷ []
    ≡ true ∷ true ∷ true ∷ true ∷ false ∷ false ∷ false ∷ false ∷ false ∷ []
unfolding numeral bytes
numerals = refl

-- a file that has the form
pub in_form : WrittenForm (bytes "P5\n2 1\n65535\nabcd")
unfolding numeral bytes
in_form = record {
  width = bytes "2";
  height = bytes "1";
  greatest = bytes "65535";
  raster = bytes "abcd";
  numerals = refl;
  layout = refl;
}

-- a file that is read as the plate of one pixel with grey 97, and differs at place i from the one that is written, does not have the form
module _ (file : List ℕ) (i : ℕ) (low : any_above byte_greatest file ≡ false)
    (answer : read_pgm file 1 ≡ record { refusal = 0; width = 1; height = 1; greatest = byte_greatest }) (plate : plate_of file ≡ 97 ∷ [])
    (differs : eqb (get_or file i 0) (get_or (pgm_of 1 1 byte_greatest (97 ∷ [])) i 0) ≡ false) where
  another : WrittenForm file → ⊥
  another form =
      let small : Bytes file = record { small = λ p l. omega (arith, none_above byte_greatest file low p l) } in
      let read : ReadsAs 1 1 byte_greatest (97 ∷ []) file 1 = record { answer = answer; plate = plate } in
      eqb-false (get_or file i 0) (get_or (pgm_of 1 1 byte_greatest (97 ∷ [])) i 0) differs
      (ap (λ (s : List ℕ). get_or s i 0) (file_only 1 1 byte_greatest (97 ∷ []) file 1 small read form))

-- a blank or CR for LF, LF or a tab for the space, two spaces, a leading zero, a comment
pub blank_for_line : WrittenForm (bytes "P5 1 1 255 a") → ⊥
unfolding bytes any_above read_pgm plate_of pgm_of
blank_for_line = another (bytes "P5 1 1 255 a") 2 refl refl refl refl

pub return_for_line : WrittenForm (bytes "P5\n1 1\n255\ra") → ⊥
unfolding bytes any_above read_pgm plate_of pgm_of
return_for_line = another (bytes "P5\n1 1\n255\ra") 10 refl refl refl refl

pub tab_for_space : WrittenForm (bytes "P5\n1\t1\n255\na") → ⊥
unfolding bytes any_above read_pgm plate_of pgm_of
tab_for_space = another (bytes "P5\n1\t1\n255\na") 4 refl refl refl refl

pub two_spaces : WrittenForm (bytes "P5\n1  1\n255\na") → ⊥
unfolding bytes any_above read_pgm plate_of pgm_of
two_spaces = another (bytes "P5\n1  1\n255\na") 5 refl refl refl refl

pub leading_zero : WrittenForm (bytes "P5\n1 01\n255\na") → ⊥
unfolding bytes any_above read_pgm plate_of pgm_of
leading_zero = another (bytes "P5\n1 01\n255\na") 5 refl refl refl refl

pub comment_line : WrittenForm (bytes "P5\n#\n1 1\n255\na") → ⊥
unfolding bytes any_above read_pgm plate_of pgm_of
comment_line = another (bytes "P5\n#\n1 1\n255\na") 3 refl refl refl refl
