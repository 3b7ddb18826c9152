-- What sizelist prints, computed from the definition: SPECIFICATION 10's small plate and one pixel, rolls, refusals of every kind, equal areas and losses.
use mathlib.Core.Path.{◌≡◌, refl}
use mathlib.Core.List.{List, [], ◌∷◌, ◌++◌, map}
use Prim.Native.Nat.{ℕ}
use Prim.Native.String.{String}
use lib.ListN.{replicate}
use Rattle.pgm.specs.Text.{bytes}
use Rattle.text_roll.specs.Text.{size_text}

-- a file and its text
pub record Case : Type 0 where
  pub file : String
  pub text : String

abbrev case : String → String → Case
case file text = record { file = file; text = text }

abbrev pub cases : List Case
cases =
    -- SPECIFICATION 10's small plate; one pixel of grey 7
    case "P5 4 3 255 \n\n\n\n\n2\u{1e}\n\n\n\nZ" "size 4 3 4 4\n1 1 20\n2 1 40\nheld 80\nrest 10 96\n"
    ∷ case "P5 1 1 255 \u{7}" "size 1 1 4 1\nheld 0\nrest 7 97\n"
    -- two nodes of area 1 beside each other's corner: on the trim edge, and off it
    ∷ case "P5 2 2 255 \0\u{5}\u{3}\0" "size 2 2 4 3\nheld 8\nrest 0 100\n"
    ∷ case "P5 4 4 255 \0\0\0\0\0\0\u{5}\0\0\u{3}\0\0\0\0\0\0" "size 4 4 4 3\n1 2 8\nheld 0\nrest 0 100\n"
    -- one grey
    ∷ case "P5 3 1 255 ÿÿÿ" "size 3 1 4 1\nheld 0\nrest 255 0\n"
    -- other greatest greys: the ink goes by them; two bytes a pixel from 256 on
    ∷ case "P5 1 1 200 \u{1}" "size 1 1 4 1\nheld 0\nrest 1 100\n"
    ∷ case "P5 2 1 1000 \u{1}ô\0\n" "size 2 1 4 2\nheld 490\nrest 10 99\n"
    -- rolls: none, two and three plates
    ∷ case "" ""
    ∷ case "P5 2 1 255 aaP5 1 1 200 \u{1}" "size 2 1 4 1\nheld 0\nrest 97 62\nsize 1 1 4 1\nheld 0\nrest 1 100\n"
    ∷ case "P5 1 1 255 \u{7}P5 1 1 255 \u{7}P5\n2 1\n1000\n\u{1}ô\0\n"
    "size 1 1 4 1\nheld 0\nrest 7 97\nsize 1 1 4 1\nheld 0\nrest 7 97\nsize 2 1 4 2\nheld 490\nrest 10 99\n"
    -- the first fault refuses the whole roll
    ∷ case "P5 1 1 255 \u{7}P5 1 1 7 aP6" "refused 28\n"
    ∷ case "P5 1 1 255 \u{7}P5 2 1 255 a" "refused 14\n"
    -- refusals of a plate
    ∷ case "P6 1 1 255 a" "refused 10\n"
    ∷ case "P5 1 1" "refused 11\n"
    ∷ case "P5 0 1 255 a" "refused 2\n"
    ∷ case "P5 1 1 0 a" "refused 12\n"
    ∷ case "P5 1 1 65536 ab" "refused 12\n"
    ∷ case "P5 1 1 7 a" "refused 28\n"
    ∷ case "P5 2 1 255 a" "refused 14\n"
    -- bytes after a raster must begin another plate
    ∷ case "P5 1 1 255 ab" "refused 10\n"
    ∷ case "P5 1 1 255 a\n" "refused 10\n"
    -- a plate of 1,025 pixels whose raster is short
    ∷ case "P5 1025 1 255 a" "refused 14\n"
    ∷ []

-- a plate of 1,025 pixels
abbrev large : List ℕ
large = bytes "P5 1025 1 255 " ++ replicate 1025 97

pub texts : map (λ (c : Case). size_text (bytes c.file)) cases ≡ map (λ (c : Case). bytes c.text) cases
unfolding size_text bytes
texts = refl

-- a plate of 1,025 pixels is refusal 5, after all others are judged; an input of 4,097 bytes is refused by 6, whatever it is
pub too_large : size_text (large ++ bytes "P5 1 1 255 a") ∷ size_text (large ++ bytes "P5") ∷ size_text (bytes "P5 1 1 255 a" ++ large)
    ∷ size_text (replicate 4097 97) ∷ []
    ≡ bytes "refused 5\n" ∷ bytes "refused 11\n" ∷ bytes "refused 5\n" ∷ bytes "refused 6\n" ∷ []
unfolding size_text bytes
too_large = refl
