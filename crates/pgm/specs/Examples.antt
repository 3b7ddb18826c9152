-- Plate files and what reading them answers: each refusal, the order of the refusals where several are met, every blank, comments at every
-- place, sizes and greatest greys at the limits, one and two bytes a pixel, and files made by Netpbm's own tools.
use Rattle.std.specs.Prelude.{List, [], ◌∷◌, ℕ, length}
use Prim.Native.String.{String}
use Rattle.meaning.specs.Plate.{byte_greatest}
use Rattle.meaning.specs.Answers.{out_after}
use Rattle.pgm.specs.Text.{bytes}
use Rattle.pgm.specs.File.{read_pgm, plate_of, refused_read}
use Rattle.pgm.specs.declared.PgmRead.{PgmRead}

-- the answer, and the output afterwards
pub record Result : Type 0 where
  pub answer : PgmRead
  pub after : List ℕ

-- a file, the output before, and what is right
pub record Case : Type 0 where
  pub file : String
  pub out : String
  pub right : PgmRead
  pub after : List ℕ

unfoldable pub run : Case → Result
unfolding bytes read_pgm plate_of
run c =
    let file = bytes c.file in
    let out = bytes c.out in
    let answer = read_pgm file (length out) in
    record { answer = answer; after = out_after answer.refusal (plate_of file) out }

abbrev pub expected : Case → Result
expected c = record { answer = c.right; after = c.after }

-- a refusal leaves the output as it was
abbrev refuses : ℕ → String → String → Case
refuses n out file = record { file = file; out = out; right = refused_read n; after = bytes out }

-- a plate of width w, height h and greatest grey M is read, and the output holds the numbers `after`
abbrev reads_to : ℕ → ℕ → ℕ → String → String → List ℕ → Case
reads_to w h M out file after = record { file = file; out = out; right = record { refusal = 0; width = w; height = h; greatest = M }; after = after }

-- one of greatest grey 255, and the output holds the bytes of a text
abbrev reads : ℕ → ℕ → String → String → String → Case
reads w h out file after = reads_to w h byte_greatest out file (bytes after)

abbrev pub cases : List Case
cases =
    -- 10: it does not open with "P5"
    refuses 10 "........." ""
    ∷ refuses 10 "........." "P"
    ∷ refuses 10 "........." "P2 1 1 255 a"
    ∷ refuses 10 "........." "p5 1 1 255 a"
    ∷ refuses 10 "........." " P5 1 1 255 a"
    -- 11: the first gap is missing, or begins with a comment
    ∷ refuses 11 "........." "P5"
    ∷ refuses 11 "........." "P51 1 255 a"
    ∷ refuses 11 "........." "P5#c\n1 1 255 a"
    -- 11: another gap or a number is missing
    ∷ refuses 11 "........." "P5 "
    ∷ refuses 11 "........." "P5 1"
    ∷ refuses 11 "........." "P5 1 "
    ∷ refuses 11 "........." "P5 1 1"
    ∷ refuses 11 "........." "P5 1 1 "
    ∷ refuses 11 "........." "P5 x 1 255 a"
    ∷ refuses 11 "........." "P5 1 -1 255 a"
    ∷ refuses 11 "........." "P5 1x1 255 a"
    -- 11: other bytes are no blanks (a vertical tab, a form feed, a delete)
    ∷ refuses 11 "........." "P5\u{b}1 1 255 a"
    ∷ refuses 11 "........." "P5 1\u{c}1 255 a"
    ∷ refuses 11 "........." "P5 1 1\u{7f}255 a"
    -- 11: a comment interrupts a number, or stands in the place of a gap
    ∷ refuses 11 "........." "P5 1#c\n1 1 255 a"
    ∷ refuses 11 "........." "P5 1 1#c\n255 a"
    -- 11: a comment that does not end
    ∷ refuses 11 "........." "P5 #c"
    ∷ refuses 11 "........." "P5 1 #1 255 a"
    ∷ refuses 11 "........." "P5 1 1 #"
    -- 11: six digits
    ∷ refuses 11 "........." "P5 000001 1 255 a"
    ∷ refuses 11 "........." "P5 1 000001 255 a"
    ∷ refuses 11 "........." "P5 1 1 000255 a"
    -- 11: the last blank is absent; a comment is none
    ∷ refuses 11 "........." "P5 1 1 255"
    ∷ refuses 11 "........." "P5 1 1 255a"
    ∷ refuses 11 "........." "P5 1 1 255#c\na"
    -- 2: sizes beyond the grid
    ∷ refuses 2 "........." "P5 0 1 255 "
    ∷ refuses 2 "........." "P5 1 0 255 "
    ∷ refuses 2 "........." "P5 32769 1 255 "
    ∷ refuses 2 "........." "P5 1 32769 255 "
    ∷ refuses 2 "........." "P5 32768 513 255 "
    ∷ refuses 2 "........." "P5 4097 4096 255 "
    ∷ refuses 2 "........." "P5 99999 99999 255 "
    -- 12: the third number is 0 or above 65,535
    ∷ refuses 12 "........." "P5 1 1 0 a"
    ∷ refuses 12 "........." "P5 1 1 00000 \0"
    ∷ refuses 12 "........." "P5 1 1 65536 aa"
    ∷ refuses 12 "........." "P5 1 1 99999 aa"
    -- 14: raster short; the first four at the limits of the grid
    ∷ refuses 14 "........." "P5 32768 512 255 "
    ∷ refuses 14 "........." "P5 512 32768 255 "
    ∷ refuses 14 "........." "P5 4096 4096 255 "
    ∷ refuses 14 "........." "P5 1 32768 255 "
    ∷ refuses 14 "........." "P5 1 1 255 "
    ∷ refuses 14 "........." "P5 2 2 255 abc"
    -- and with two bytes a pixel
    ∷ refuses 14 "........." "P5 4096 4096 65535 "
    ∷ refuses 14 "........." "P5 1 1 256 a"
    ∷ refuses 14 "........." "P5 2 2 65535 abcdefg"
    -- 15: bytes left over; of CR and LF after 255 the LF is a pixel
    ∷ refuses 15 "........." "P5 1 1 255 ab"
    ∷ refuses 15 "........." "P5 1 1 255 a\n"
    ∷ refuses 15 "........." "P5 1 1 255\r\na"
    ∷ refuses 15 "........." "P5 1 1 65535 abc"
    ∷ refuses 15 "........." "P5 2 2 256 abcdefghi"
    -- 28: a pixel above the greatest grey, the first or the last
    ∷ refuses 28 "........." "P5 1 1 1 \u{2}"
    ∷ refuses 28 "........." "P5 1 1 254 ÿ"
    ∷ refuses 28 "........." "P5 2 1 98 cb"
    ∷ refuses 28 "........." "P5 2 1 98 bc"
    ∷ refuses 28 "........." "P5 1 1 256 \u{1}\u{1}"
    ∷ refuses 28 "........." "P5 2 1 256 \u{1}\0\u{2}\0"
    ∷ refuses 28 "........." "P5 1 1 65534 ÿÿ"
    -- 5: output shorter than the pixels
    ∷ refuses 5 "" "P5 1 1 255 a"
    ∷ refuses 5 "..." "P5 2 2 255 abcd"
    ∷ refuses 5 "..." "P5 2 2 65535 abcdefgh"
    -- the first condition that is met: 10, 11, 2, 12, 14 or 15, 28, 5
    ∷ refuses 10 "........." "P6"
    ∷ refuses 11 "........." "P5 0 0 0"
    ∷ refuses 11 "........." "P5 99999 1 0x"
    ∷ refuses 2 "" "P5 0 0 0 ab"
    ∷ refuses 2 "" "P5 99999 1 255 "
    ∷ refuses 12 "" "P5 2 2 0 a"
    ∷ refuses 12 "" "P5 1 1 0 ab"
    ∷ refuses 14 "" "P5 2 2 255 a"
    ∷ refuses 14 "" "P5 2 2 7 a"
    ∷ refuses 15 "" "P5 1 1 255 ab"
    ∷ refuses 15 "" "P5 1 1 7 ab"
    ∷ refuses 28 "" "P5 1 1 7 a"
    ∷ refuses 28 "" "P5 1 1 256 aa"
    -- every blank, and any mix of them
    ∷ reads 1 1 "........." "P5 1 1 255 a" "a........"
    ∷ reads 1 1 "........." "P5\t1\t1\t255\ta" "a........"
    ∷ reads 1 1 "........." "P5\r1\r1\r255\ra" "a........"
    ∷ reads 1 1 "........." "P5\n1\n1\n255\na" "a........"
    ∷ reads 1 1 "........." "P5 \t\r\n1\n\n1\t \r255 a" "a........"
    -- comments at every place, ended by LF or CR, empty, several, and with anything in them
    ∷ reads 1 1 "........." "P5 #c\n1 1 255 a" "a........"
    ∷ reads 1 1 "........." "P5 1 #c\n1 255 a" "a........"
    ∷ reads 1 1 "........." "P5 1 1 #c\n255 a" "a........"
    ∷ reads 1 1 "........." "P5 #c\r1 1 255 a" "a........"
    ∷ reads 1 1 "........." "P5 #\n1 1 255 a" "a........"
    ∷ reads 1 1 "........." "P5 #a\n#b\r #c\n\n1 1 255 a" "a........"
    ∷ reads 1 1 "........." "P5 #1 # 2\n1 1 255 a" "a........"
    -- the raster begins after one blank, whatever its first byte is
    ∷ reads 1 1 "........." "P5 1 1 255 #" "#........"
    ∷ reads 1 1 "........." "P5 1 1 255  " " ........"
    ∷ reads 2 1 "........." "P5 2 1 255\n#\n" "#\n......."
    -- leading zeros; an output that is just long enough
    ∷ reads 1 1 "........." "P5 00001 00001 00255 a" "a........"
    ∷ reads 2 3 "------" "P5 2 3 255 abcdef" "abcdef"
    -- every greatest grey from 1 to 65,535: one byte a pixel up to 255, from 256 on two, the high byte first
    ∷ reads_to 2 1 1 "..." "P5 2 1 1 \u{1}\0" (1 ∷ 0 ∷ 46 ∷ [])
    ∷ reads_to 1 1 97 "." "P5 1 1 97 a" (97 ∷ [])
    ∷ reads_to 1 1 254 "." "P5 1 1 254 a" (97 ∷ [])
    ∷ reads_to 1 1 254 "." "P5 1 1 254 þ" (254 ∷ [])
    ∷ reads_to 1 1 256 ".." "P5 1 1 256 \u{1}\0" (256 ∷ 46 ∷ [])
    ∷ reads_to 3 1 256 "..." "P5 3 1 256 \0\u{1}\u{1}\0\0ÿ" (1 ∷ 256 ∷ 255 ∷ [])
    ∷ reads_to 1 1 65535 "." "P5 1 1 65535 aa" (24929 ∷ [])
    ∷ reads_to 2 2 65535 "....." "P5 2 2 65535 ÿÿ\0\0ab\0\n" (65535 ∷ 0 ∷ 24930 ∷ 10 ∷ 46 ∷ [])
    -- files made by Netpbm: pgmmake 0.5 3 2; pgmramp -lr 4 3; pamtopnm of the small plate of SPECIFICATION 10; pgmmake -maxval=15 0.5 2 2;
    -- pbmmake -gray 4 2; two images
    ∷ reads 3 2 "............" "P5\n3 2\n255\n\u{80}\u{80}\u{80}\u{80}\u{80}\u{80}" "\u{80}\u{80}\u{80}\u{80}\u{80}\u{80}......"
    ∷ reads 4 3 "............" "P5\n4 3\n255\n\0Uªÿ\0Uªÿ\0Uªÿ" "\0Uªÿ\0Uªÿ\0Uªÿ"
    ∷ reads 4 3 "............" "P5\n4 3\n255\n\n\n\n\n\n2\u{1e}\n\n\n\nZ" "\n\n\n\n\n2\u{1e}\n\n\n\nZ"
    ∷ reads_to 2 2 15 "....." "P5\n2 2\n15\n\u{8}\u{8}\u{8}\u{8}" (8 ∷ 8 ∷ 8 ∷ 8 ∷ 46 ∷ [])
    ∷ refuses 10 "............" "P4\n4 2\nP\u{a0}"
    ∷ refuses 15 "............" "P5\n3 2\n255\n\u{80}\u{80}\u{80}\u{80}\u{80}\u{80}P5\n1 1\n255\n@"
    ∷ []
