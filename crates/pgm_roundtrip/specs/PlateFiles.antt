-- Plate files, written and read, as a claim over all plates, files and outputs: reading what was written gives the plate, and among all files that
-- read as one plate exactly one has the written form. It speaks of the definitions that the contracts of `write_pgm` and `read_pgm` equate with
-- what they answer and leave in their outputs. k: any connectivity, which a file does not say; w: width, h: height, M: greatest grey, f: the plate.
use Rattle.std.specs.Prelude.{◌≡◌, Bool, true, false, not, ◌&&◌, ◌||◌, List, [], ◌∷◌, ◌++◌, ℕ, suc, ◌+◌, ◌*◌, ◌≤◌, ◌<◌, eqb, get_or, length, take}
use Rattle.meaning.specs.Plate.{Plate}
use Rattle.meaning.specs.Answers.{out_after}
use Rattle.pgm_header.specs.Grammar.{front, is_digit}
use Rattle.pgm.specs.File.{plate_of, read_pgm}
use Rattle.pgm.specs.Text.{bytes}
use Rattle.pgm_write.specs.Writing.{pgm_of, write_pgm}

-- digits without a leading zero: each byte is a digit, there is one, and a 0 stands first only where it is alone
unfoldable pub numeral : List ℕ → Bool
unfolding front is_digit
numeral [] = false
numeral (d ∷ ds) = eqb (front is_digit (d ∷ ds)) (suc (length ds)) && (not (eqb d 48) || eqb (length ds) 0)

-- the written form: "P5", LF, width, one space, height, LF, greatest grey, LF and a raster; the numbers are digits without leading zeros
pub record WrittenForm (file : List ℕ) : Type 0 where
  pub width : List ℕ
  pub height : List ℕ
  pub greatest : List ℕ
  pub raster : List ℕ
  pub numerals : (numeral width && (numeral height && numeral greatest)) ≡ true
  pub layout : file ≡ bytes "P5\n" ++ (width ++ (bytes " " ++ (height ++ (bytes "\n" ++ (greatest ++ (bytes "\n" ++ raster))))))

-- every number of a list is a byte
abbrev pub IsByte : ℕ → Type 0
IsByte b = b < 256

pub record Bytes (s : List ℕ) : Type 0 where
  pub small : (i : ℕ) → i < length s → IsByte (get_or s i 0)

-- how many bytes are enough for the file of so many pixels
abbrev pub pgm_bytes : ℕ → ℕ
pgm_bytes pixels = 2 * pixels + 21

-- with an output of length `room` the file is read as the plate f
pub record ReadsAs (w h M : ℕ) (f file : List ℕ) (room : ℕ) : Type 0 where
  pub answer : read_pgm file room ≡ record { refusal = 0; width = w; height = h; greatest = M }
  pub plate : plate_of file ≡ f

pub record PlateFileClaim : Type 0 where
  -- given space an accepted plate is written: as many bytes as the answer says, from the front of the output, are its file
  pub written : (k w h M : ℕ) (f out : List ℕ) → Plate k w h M f → length (pgm_of w h M f) ≤ length out
      → let r = write_pgm w h M f (length out) in (r ≡ record { refusal = 0; length = length (pgm_of w h M f) })
      × (take r.length (out_after r.refusal (pgm_of w h M f) out) ≡ pgm_of w h M f)
  -- so many bytes are always enough
  pub short : (k w h M : ℕ) (f : List ℕ) → Plate k w h M f → length (pgm_of w h M f) ≤ pgm_bytes (w * h)
  -- given space the file of an accepted plate is not refused, and the plate comes back with its greatest grey
  pub back : (k w h M : ℕ) (f : List ℕ) (room : ℕ) → Plate k w h M f → w * h ≤ room → ReadsAs w h M f (pgm_of w h M f) room
  -- it is made of bytes and has the written form
  pub form : (k w h M : ℕ) (f : List ℕ) → Plate k w h M f → Bytes (pgm_of w h M f) × WrittenForm (pgm_of w h M f)
  -- and of all files that are read as this plate no other has
  pub only : (w h M : ℕ) (f file : List ℕ) (room : ℕ) → Bytes file → ReadsAs w h M f file room → WrittenForm file → file ≡ pgm_of w h M f
