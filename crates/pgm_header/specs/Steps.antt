-- What the answers of the header steps say, case by case, in the grammar's terms. A cursor stands for what is left of the file from it on.
use Rattle.std.specs.Prelude.{◌≡◌, Bool, true, List, ℕ, ◌+◌, ◌<◌, ◌≤◌, length, drop, slice_index, Result, Ok, Err}
use Rattle.pgm_header.specs.Grammar.{Token, number_then, gap_then, fault, malformed, ParsedHeader, sound, faulty, is_digit, mix}
use Rattle.pgm_header.specs.declared.Cursor.{Cursor}
use Rattle.pgm_header.specs.declared.HeaderFault.{HeaderFault}
use Rattle.pgm_header.specs.declared.HeaderFault.TheVariants.{Letters, GapOrNumber}
use Rattle.pgm_header.specs.declared.Skip.{Skip}
use Rattle.pgm_header.specs.declared.Skip.TheVariants.{Past, Paused, Unended}
use Rattle.pgm_header.specs.declared.Header.{Header}

-- 10 it does not open with "P5"; 11 a gap or number is missing or malformed, or the last blank absent
abbrev pub fault_number : HeaderFault → ℕ
fault_number Letters = 10
fault_number GapOrNumber = 11

-- ---- a header step

-- a step that takes a gap or a blank answers the cursor after it
abbrev pub gap_of : List ℕ → Result Cursor HeaderFault → Token
gap_of file (Ok c) = gap_then (drop c.at file)
gap_of file (Err f) = fault (fault_number f)

-- its cursor stands within the file
abbrev pub GapWithin : List ℕ → Result Cursor HeaderFault → Type 0
GapWithin file (Ok c) = c.at ≤ length file
GapWithin file (Err f) = Unit {0}

-- the answer r says what the grammar gives
pub record GapStep (file : List ℕ) (token : Token) (r : Result Cursor HeaderFault) : Type 0 where
  pub same : gap_of file r ≡ token
  pub within : GapWithin file r

-- a step that takes a number answers it and the cursor after it
abbrev pub number_of : List ℕ → Result (ℕ × Cursor) HeaderFault → Token
number_of file (Ok (v, c)) = number_then v (drop c.at file)
number_of file (Err f) = fault (fault_number f)

abbrev pub NumberWithin : List ℕ → Result (ℕ × Cursor) HeaderFault → Type 0
NumberWithin file (Ok (v, c)) = c.at ≤ length file
NumberWithin file (Err f) = Unit {0}

pub record NumberStep (file : List ℕ) (token : Token) (r : Result (ℕ × Cursor) HeaderFault) : Type 0 where
  pub same : number_of file r ≡ token
  pub within : NumberWithin file r

-- ---- a header

abbrev pub header_of : List ℕ → Result Header HeaderFault → ParsedHeader
header_of file (Ok h) = sound h.width h.height h.greatest (drop h.raster.at file)
header_of file (Err f) = faulty (fault_number f)

-- its raster begins within the file, or at its end
abbrev pub RasterWithin : List ℕ → Result Header HeaderFault → Type 0
RasterWithin file (Ok h) = h.raster.at ≤ length file
RasterWithin file (Err f) = Unit {0}

-- ---- bytes that pass a test

-- each result of the test at b is p b
abbrev pub Computes : (ℕ → Bool → Type 0) → (ℕ → Bool) → Type 0
Computes post p = (b : ℕ) (r : Bool) → post b r → r ≡ p b

-- at most five bytes, each a digit
pub record IsNumber (digits : List ℕ) : Type 0 where
  pub few : length digits ≤ 5
  pub all : (k : ℕ) → k < length digits → is_digit (slice_index digits k) ≡ true

-- ---- skipping blanks and comments

-- what is left of the grammar where skipping stopped
abbrev pub left_by : List ℕ → Skip → Token
left_by file (Past c) = gap_then (drop c.at file)
left_by file (Paused c) = mix (drop c.at file)
left_by file Unended = malformed

-- where it stopped: within the file, and at least a byte on for each turn where the turns were used up
abbrev pub SkipWithin : List ℕ → ℕ → ℕ → Skip → Type 0
SkipWithin file from turns (Past c) = c.at ≤ length file
SkipWithin file from turns (Paused c) = (from + turns ≤ c.at) × (c.at ≤ length file)
SkipWithin file from turns Unended = Unit {0}

-- skipping from a place came as far as the grammar gives
pub record Skipped (file : List ℕ) (from turns : ℕ) (token : Token) (r : Skip) : Type 0 where
  pub same : left_by file r ≡ token
  pub within : SkipWithin file from turns r
