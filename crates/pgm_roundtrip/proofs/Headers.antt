-- The header of a file in the written form, read: its three numbers and the raster.
use mathlib.Core.Path.{◌≡◌, refl, ◌∙◌}
use mathlib.Core.Bool.{true}
use mathlib.Core.List.{List, [], ◌∷◌, ◌++◌}
use mathlib.Core.Logic.{by_cases}
use Prim.Native.Nat.{ℕ, ◌≤◌, ◌<◌}
use native.Mathlib.Decide.{dec_lt}
use native.Mathlib.Omega.{arith}
use lib.ListN.{length}
use lib.Seq.{drop_at, take_at}
use Rattle.pgm_header.specs.Grammar.{blank, digits_value, faulty, front, gap, gap_then, header, is_digit, malformed}
use Rattle.pgm_header.specs.Grammar.{mix, number, number_then, one_blank, opening, sound}
use Rattle.pgm_header.proofs.Digits.{number_few, number_many}
use Rattle.pgm_header.proofs.Front.{front_miss}
use Rattle.pgm_header.proofs.Prefix.{mix_digit}
use Rattle.pgm.specs.File.{read_pgm}
use Rattle.pgm_roundtrip.specs.PlateFiles.{numeral}
use Rattle.pgm_roundtrip.proofs.Numerals.{digits-split, front_append, numeral-digits}

-- ---- a numeral and the bytes after it, which do not begin with a digit

-- blanks and comments end where it begins
pub mix_numeral : (a s : List ℕ) → numeral a ≡ true → mix (a ++ s) ≡ gap_then (a ++ s)
mix_numeral [] s e = absurd (omega (arith, (numeral-digits [] e).0))
mix_numeral (b ∷ a) s e = mix_digit b (a ++ s) (digits-split b a (numeral-digits (b ∷ a) e).1).0

module _ (a s : List ℕ) (e : numeral a ≡ true) (stop : front is_digit s ≡ 0) where
  front-numeral : front is_digit (a ++ s) ≡ length a
  front-numeral = omega (arith, front_append a s (numeral-digits a e).1, stop)

  -- it is read where it has at most five digits
  pub number-numeral : length a ≤ 5 → number (a ++ s) ≡ number_then (digits_value 0 a) s
  number-numeral l =
      let few = number_few (a ++ s) (omega (arith, front-numeral, (numeral-digits a e).0)) (omega (arith, front-numeral, l)) in
      few ∙ rw (front-numeral, take_at a s (length a) refl, drop_at a s (length a) refl)

  pub number-over : 5 < length a → number (a ++ s) ≡ malformed
  number-over l = number_many (a ++ s) (omega (arith, front-numeral, l))

-- a space and LF are no digits
space_stops : (s : List ℕ) → front is_digit (32 ∷ s) ≡ 0
unfolding is_digit
space_stops s = front_miss is_digit 32 s refl

line_stops : (s : List ℕ) → front is_digit (10 ∷ s) ≡ 0
unfolding is_digit
line_stops s = front_miss is_digit 10 s refl

-- ---- the file, of three numerals and a raster

-- from the greatest grey on, from the height on, from the width on, all
abbrev from_greatest : List ℕ → List ℕ → List ℕ
from_greatest c raster = c ++ 10 ∷ raster

abbrev from_height : List ℕ → List ℕ → List ℕ → List ℕ
from_height b c raster = b ++ 10 ∷ from_greatest c raster

abbrev from_width : List ℕ → List ℕ → List ℕ → List ℕ → List ℕ
from_width a b c raster = a ++ 32 ∷ from_height b c raster

abbrev pub file_of : List ℕ → List ℕ → List ℕ → List ℕ → List ℕ
file_of a b c raster = 80 ∷ 53 ∷ 10 ∷ from_width a b c raster

module _ (a b c raster : List ℕ) (na : numeral a ≡ true) (nb : numeral b ≡ true) (nc : numeral c ≡ true) where
  first-gap : opening (file_of a b c raster) ≡ gap_then (from_width a b c raster)
  unfolding opening gap one_blank blank
  first-gap = mix_numeral a (32 ∷ from_height b c raster) na

  second_gap : gap (32 ∷ from_height b c raster) ≡ gap_then (from_height b c raster)
  unfolding gap one_blank blank
  second_gap = mix_numeral b (10 ∷ from_greatest c raster) nb

  third_gap : gap (10 ∷ from_greatest c raster) ≡ gap_then (from_greatest c raster)
  unfolding gap one_blank blank
  third_gap = mix_numeral c (10 ∷ raster) nc

  first-number : length a ≤ 5 → number (from_width a b c raster) ≡ number_then (digits_value 0 a) (32 ∷ from_height b c raster)
  first-number l = number-numeral a (32 ∷ from_height b c raster) na (space_stops (from_height b c raster)) l

  second_number : length b ≤ 5 → number (from_height b c raster) ≡ number_then (digits_value 0 b) (10 ∷ from_greatest c raster)
  second_number l = number-numeral b (10 ∷ from_greatest c raster) nb (line_stops (from_greatest c raster)) l

  third_number : length c ≤ 5 → number (from_greatest c raster) ≡ number_then (digits_value 0 c) (10 ∷ raster)
  third_number l = number-numeral c (10 ∷ raster) nc (line_stops raster) l

  -- with at most five digits each the header is sound
  pub header_there : length a ≤ 5 → length b ≤ 5 → length c ≤ 5
      → header (file_of a b c raster) ≡ sound (digits_value 0 a) (digits_value 0 b) (digits_value 0 c) raster
  unfolding header
  header_there la lb lc = rw (first-gap, first-number la, second_gap, second_number lb, third_gap, third_number lc)

  -- with more it is malformed
  over_first : 5 < length a → header (file_of a b c raster) ≡ faulty 11
  unfolding header
  over_first l = rw (first-gap, number-over a (32 ∷ from_height b c raster) na (space_stops (from_height b c raster)) l)

  over_second : length a ≤ 5 → 5 < length b → header (file_of a b c raster) ≡ faulty 11
  unfolding header
  over_second la l =
      rw (first-gap, first-number la, second_gap, number-over b (10 ∷ from_greatest c raster) nb (line_stops (from_greatest c raster)) l)

  over_third : length a ≤ 5 → length b ≤ 5 → 5 < length c → header (file_of a b c raster) ≡ faulty 11
  unfolding header
  over_third la lb l =
      rw (first-gap, first-number la, second_gap, second_number lb, third_gap, number-over c (10 ∷ raster) nc (line_stops raster) l)

  -- so a file that is read has no more
  module _ (room : ℕ) (z : (read_pgm (file_of a b c raster) room).refusal ≡ 0) where
    faultless : header (file_of a b c raster) ≡ faulty 11 → ⊥
    unfolding read_pgm
    faultless e = let x : ◌≡◌ {A = ℕ} 11 0 = rw e at z in omega (arith, x)

    few_first : length a ≤ 5
    few_first = by_cases (dec_lt 5 (length a)) (λ l. absurd (faultless (over_first l))) (λ l. omega arith)

    few_second : length b ≤ 5
    few_second = by_cases (dec_lt 5 (length b)) (λ l. absurd (faultless (over_second few_first l))) (λ l. omega arith)

    few_third : length c ≤ 5
    few_third = by_cases (dec_lt 5 (length c)) (λ l. absurd (faultless (over_third few_first few_second l))) (λ l. omega arith)

    pub header_read : header (file_of a b c raster) ≡ sound (digits_value 0 a) (digits_value 0 b) (digits_value 0 c) raster
    header_read = header_there few_first few_second few_third
