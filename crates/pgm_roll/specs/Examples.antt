-- Rolls and what the operations on them answer: the table of SPECIFICATION 5, rolls of none, one and three plates, each fault in the second plate,
-- which of several refusals is met, and the plate at places in the file.
use Rattle.std.specs.Prelude.{List, [], ◌∷◌, ℕ, length}
use Prim.Native.String.{String}
use Rattle.meaning.specs.Answers.{out_after}
use Rattle.pgm.specs.Text.{bytes}
use Rattle.pgm.specs.File.{refused_read}
use Rattle.pgm.specs.declared.PgmRead.{PgmRead}
use Rattle.pgm_roll.specs.Roll.{count_of, numbered, plate_at, plate_read, refused_at, roll}
use Rattle.pgm_roll.specs.declared.PlateAt.{PlateAt}
use Rattle.pgm_roll.specs.declared.RollCount.{RollCount}

-- ---- counting the plates, and reading the one of a number

-- the count, the answer of reading, and the output afterwards
pub record Result : Type 0 where
  pub count : RollCount
  pub answer : PgmRead
  pub after : List ℕ

-- a file, the number of a plate, the output before, and what is right
pub record Case : Type 0 where
  pub file : String
  pub number : ℕ
  pub out : String
  pub right : Result

unfoldable pub run : Case → Result
unfolding bytes roll
run c =
    let r = roll (bytes c.file) in
    let out = bytes c.out in
    let answer = plate_read r c.number (length out) in
    record { count = count_of r; answer = answer; after = out_after answer.refusal (numbered r c.number).greys out }

abbrev pub expected : Case → Result
expected c = c.right

-- the roll is refused by n, whatever the number: the output is as it was
abbrev refuses : ℕ → ℕ → String → String → Case
refuses n number out file = record {
  file = file;
  number = number;
  out = out;
  right = record { count = record { refusal = n; count = 0 }; answer = refused_read n; after = bytes out };
}

-- a roll of `count` plates, of which none is read, by n
abbrev denies : ℕ → ℕ → ℕ → String → String → Case
denies n count number out file = record {
  file = file;
  number = number;
  out = out;
  right = record { count = record { refusal = 0; count = count }; answer = refused_read n; after = bytes out };
}

-- a roll of `count` plates, of which one of width w, height h and greatest grey M is read: the output holds the numbers `after`
abbrev reads : ℕ → ℕ → ℕ → ℕ → ℕ → String → String → List ℕ → Case
reads count number w h M out file after = record {
  file = file;
  number = number;
  out = out;
  right = record {
    count = record { refusal = 0; count = count };
    answer = record { refusal = 0; width = w; height = h; greatest = M };
    after = after;
  };
}

-- three plates, of 3, 2 and 4 pixels: a greatest grey of 255, one of 65,535, which has two bytes a pixel, and one of 7
abbrev three : String
three = "P5\n3 1\n255\nabcP5 #c\n1\t2\r65535 \u{1}\0\0\u{2}P5\r\n2 #P5 1 1 255 \r 2\t7\t\u{1}\u{2}\u{3}\u{7}"

-- one plate of 12 pixels, whose raster reads as a plate itself, and one of one pixel
abbrev nested : String
nested = "P5 12 1 255 P5 1 1 255 aP5 1 1 7 \u{5}"

abbrev pub cases : List Case
cases =
    -- the table of SPECIFICATION 5
    denies 25 0 0 "..." ""
    ∷ reads 1 0 1 1 255 "..." "P5 1 1 255 a" (97 ∷ 46 ∷ 46 ∷ [])
    ∷ reads 2 0 1 1 255 "..." "P5 1 1 255 aP5 1 1 7 \u{1}" (97 ∷ 46 ∷ 46 ∷ [])
    ∷ reads 2 1 1 1 7 "..." "P5 1 1 255 aP5 1 1 7 \u{1}" (1 ∷ 46 ∷ 46 ∷ [])
    ∷ refuses 10 0 "..." "P5 1 1 255 a\n"
    ∷ refuses 14 0 "..." "P5 1 1 255 aP5 2 1 255 a"
    ∷ refuses 28 0 "..." "P5 1 1 7 aP6"
    -- no plates: 25 for any number, ahead of 5
    ∷ denies 25 0 1 "..." ""
    ∷ denies 25 0 0 "" ""
    -- three plates, with comments and every blank; the output just long enough, or longer
    ∷ reads 3 0 3 1 255 "......" three (97 ∷ 98 ∷ 99 ∷ 46 ∷ 46 ∷ 46 ∷ [])
    ∷ reads 3 1 1 2 65535 "..." three (256 ∷ 2 ∷ 46 ∷ [])
    ∷ reads 3 2 2 2 7 "...." three (1 ∷ 2 ∷ 3 ∷ 7 ∷ [])
    ∷ denies 25 3 3 "......" three
    ∷ denies 25 3 4 "......" three
    -- 5: the output is shorter than the plate that is asked for; others may be larger
    ∷ reads 3 1 1 2 65535 ".." three (256 ∷ 2 ∷ [])
    ∷ denies 5 3 1 "." three
    ∷ denies 5 3 2 "..." three
    ∷ denies 5 3 0 "" three
    -- 25 ahead of 5
    ∷ denies 25 3 3 "" three
    ∷ denies 25 1 1 "" "P5 1 1 255 a"
    -- a raster that reads as a plate is none of the roll's
    ∷ reads 2 0 12 1 255 "............" nested (80 ∷ 53 ∷ 32 ∷ 49 ∷ 32 ∷ 49 ∷ 32 ∷ 50 ∷ 53 ∷ 53 ∷ 32 ∷ 97 ∷ [])
    ∷ reads 2 1 1 1 7 "." nested (5 ∷ [])
    -- nor is a later byte a pixel of a plate, however great it is
    ∷ reads 2 0 1 1 7 "." "P5 1 1 7 \u{1}P5 1 1 255 a" (1 ∷ [])
    ∷ reads 2 1 1 1 255 "." "P5 1 1 7 \u{1}P5 1 1 255 a" (97 ∷ [])
    -- each fault, in the first plate
    ∷ refuses 10 0 "..." "P"
    ∷ refuses 11 0 "..." "P5 1 1"
    ∷ refuses 2 0 "..." "P5 0 1 255 "
    ∷ refuses 12 0 "..." "P5 1 1 65536 a"
    ∷ refuses 14 0 "..." "P5 1 1 255 "
    ∷ refuses 28 0 "..." "P5 1 1 96 a"
    -- each fault, in the second: the first is not read either
    ∷ refuses 10 0 "..." "P5 1 1 255 aP6 1 1 255 b"
    ∷ refuses 10 0 "..." "P5 1 1 255 ab"
    ∷ refuses 11 0 "..." "P5 1 1 255 aP5 1 1 255"
    ∷ refuses 2 0 "..." "P5 1 1 255 aP5 1 32769 255 b"
    ∷ refuses 12 0 "..." "P5 1 1 255 aP5 1 1 0 b"
    ∷ refuses 14 0 "..." "P5 1 1 255 aP5 1 1 256 b"
    ∷ refuses 28 0 "..." "P5 1 1 255 aP5 1 1 97 b"
    -- a byte after a raster of two bytes a pixel; a line feed after a raster that is a blank
    ∷ refuses 10 0 "..." "P5 1 1 256 \0aP"
    ∷ refuses 10 0 "..." "P5 1 1 255  \n"
    -- the first faulty plate decides, whatever the later ones have
    ∷ refuses 28 0 "..." "P5 1 1 7 aP5 0 1 255 "
    ∷ refuses 28 0 "..." "P5 1 1 256 \u{1}\u{1}P5"
    ∷ refuses 12 0 "..." "P5 1 1 255 aP5 1 1 0 bP5 1 1 7 a"
    -- and of its own conditions the first that is met
    ∷ refuses 2 0 "..." "P5 1 1 255 aP5 0 1 0 "
    ∷ refuses 12 0 "..." "P5 1 1 255 aP5 2 2 0 "
    -- a later fault ahead of 25 and of 5
    ∷ refuses 14 2 "..." "P5 1 1 255 aP5 2 1 255 a"
    ∷ refuses 28 9 "..." "P5 1 1 255 aP5 1 1 7 a"
    ∷ refuses 10 0 "" "P5 1 1 255 a\n"
    ∷ refuses 28 0 "" "P5 1 1 255 aP5 1 1 7 a"
    ∷ []

-- ---- the plate at a place

-- a file, a place, and what is right
pub record Place : Type 0 where
  pub file : String
  pub at : ℕ
  pub right : PlateAt

unfoldable pub look : Place → PlateAt
unfolding bytes plate_at
look c = plate_at (bytes c.file) c.at

-- no plate begins there, by n
abbrev nothing : ℕ → ℕ → String → Place
nothing n at file = record { file = file; at = at; right = refused_at n }

-- a plate of width w, height h and greatest grey M, whose raster begins and ends there
abbrev begins : ℕ → ℕ → ℕ → ℕ → ℕ → ℕ → String → Place
begins at w h M raster end file = record {
  file = file;
  at = at;
  right = record { refusal = 0; width = w; height = h; greatest = M; raster = raster; end = end };
}

abbrev pub places : List Place
places =
    -- at 0 and at the second plate
    begins 0 1 1 255 11 12 "P5 1 1 255 aP5 2 1 7 \u{1}\u{7}"
    ∷ begins 12 2 1 7 21 23 "P5 1 1 255 aP5 2 1 7 \u{1}\u{7}"
    -- with two bytes a pixel
    ∷ begins 0 1 2 256 11 15 "P5 1 2 256 \u{1}\0\0\u{2}"
    -- in a header, in a raster, at the end and beyond
    ∷ nothing 10 1 "P5 1 1 255 aP5 2 1 7 \u{1}\u{7}"
    ∷ nothing 10 11 "P5 1 1 255 aP5 2 1 7 \u{1}\u{7}"
    ∷ nothing 10 23 "P5 1 1 255 aP5 2 1 7 \u{1}\u{7}"
    ∷ nothing 10 24 "P5 1 1 255 aP5 2 1 7 \u{1}\u{7}"
    ∷ nothing 10 1000 "P5 1 1 255 a"
    ∷ nothing 10 0 ""
    -- in the middle of a raster that reads as a plate there is one
    ∷ begins 12 1 1 255 23 24 nested
    -- what follows a plate is not looked at; a fault has zeros elsewhere
    ∷ begins 0 1 1 255 11 12 "P5 1 1 255 aP6"
    ∷ begins 0 1 1 7 9 10 "P5 1 1 7 \u{1}P6"
    ∷ nothing 10 12 "P5 1 1 255 aP6"
    ∷ nothing 11 12 "P5 1 1 255 aP5"
    ∷ nothing 2 12 "P5 1 1 255 aP5 1 0 255 b"
    ∷ nothing 12 12 "P5 1 1 255 aP5 1 1 0 b"
    ∷ nothing 14 12 "P5 1 1 255 aP5 2 1 255 b"
    ∷ nothing 28 12 "P5 1 1 255 aP5 1 1 97 b"
    ∷ []
