-- The grammar of a plate file's header, on lists of bytes: "P5", gap, width, gap, height, gap, a third number, one blank; the raster follows.
-- Each part of it takes the bytes from its first on and gives those after it.
use Rattle.std.specs.Prelude.{Bool, true, false, not, ◌&&◌, ◌||◌, List, [], ◌∷◌, ℕ, suc, ◌+◌, ◌-◌, ◌*◌, eqb, leb, take, drop}
use Rattle.meaning.specs.Sets.{pick}

-- a blank is a space, tab, CR or LF
unfoldable pub blank : ℕ → Bool
blank b = eqb b 32 || (eqb b 9 || (eqb b 13 || eqb b 10))

-- CR or LF, which ends a comment
unfoldable pub line_end : ℕ → Bool
line_end b = eqb b 13 || eqb b 10

-- any other byte stands in a comment
abbrev pub in_comment : ℕ → Bool
in_comment b = not (line_end b)

-- # opens a comment
abbrev pub opens_comment : ℕ → Bool
opens_comment b = eqb b 35

unfoldable pub is_digit : ℕ → Bool
is_digit b = leb 48 b && leb b 57

-- what stands at the front of some bytes: a number or a gap, with the bytes after it, or a fault with its number
pub data Token : Type 0 where
  number_then : (value : ℕ) → (after : List ℕ) → Token
  gap_then : (after : List ℕ) → Token
  fault : (number : ℕ) → Token

-- 10: it does not open with "P5"
abbrev pub no_letters : Token
no_letters = fault 10

-- 11: a gap or number is missing or malformed, or the last blank absent
abbrev pub malformed : Token
malformed = fault 11

-- any mix of blanks and comments, which may be empty; a comment runs from # through the next CR or LF, and `comment` takes the bytes after
-- its #
unfoldable mutual
  unfolding blank line_end

  pub mix : List ℕ → Token
  mix [] = gap_then []
  mix (b ∷ s) = elim (blank b) [ true ↦ mix s | false ↦ elim (opens_comment b) [ true ↦ comment s | false ↦ gap_then (b ∷ s) ] ]

  pub comment : List ℕ → Token
  comment [] = malformed
  comment (b ∷ s) = elim (line_end b) [ true ↦ mix s | false ↦ comment s ]

-- one blank
unfoldable pub one_blank : List ℕ → Token
unfolding blank
one_blank [] = malformed
one_blank (b ∷ s) = pick (blank b) (gap_then s) malformed

-- where a gap stands, what stands after it; else what stands there
abbrev pub after_gap : Token → (List ℕ → Token) → Token
after_gap (gap_then s) next = next s
after_gap (number_then v s) next = number_then v s
after_gap (fault n) next = fault n

-- a gap is a blank and then any mix of blanks and comments
unfoldable pub gap : List ℕ → Token
unfolding one_blank mix
gap s = after_gap (one_blank s) mix

-- how many bytes at the front pass the test
unfoldable pub front : (ℕ → Bool) → List ℕ → ℕ
front test [] = 0
front test (b ∷ s) = elim (test b) [ true ↦ suc (front test s) | false ↦ 0 ]

-- the number that the digits spell after v
unfoldable pub digits_value : ℕ → List ℕ → ℕ
digits_value v [] = v
digits_value v (d ∷ ds) = digits_value (10 * v + (d - 48)) ds

-- a number has one to five digits, leading zeros allowed
unfoldable pub number : List ℕ → Token
unfolding is_digit front digits_value
number s = let n = front is_digit s in pick (leb 1 n && leb n 5) (number_then (digits_value 0 (take n s)) (drop n s)) malformed

-- "P5" and the gap after it
unfoldable pub opening : List ℕ → Token
unfolding gap
opening [] = no_letters
opening (p ∷ []) = no_letters
opening (p ∷ five ∷ s) = pick (eqb p 80 && eqb five 53) (gap s) no_letters

-- a header with the raster after it, or the number of its first fault
pub data ParsedHeader : Type 0 where
  sound : (width height greatest : ℕ) → (raster : List ℕ) → ParsedHeader
  faulty : (number : ℕ) → ParsedHeader

-- what goes on where a gap belongs, and where a number does
abbrev pub on_gap : Token → (List ℕ → ParsedHeader) → ParsedHeader
on_gap (gap_then s) next = next s
on_gap (number_then v s) next = faulty 11
on_gap (fault n) next = faulty n

abbrev pub on_number : Token → (ℕ → List ℕ → ParsedHeader) → ParsedHeader
on_number (number_then v s) next = next v s
on_number (gap_then s) next = faulty 11
on_number (fault n) next = faulty n

-- "P5" and a gap, width, gap, height, gap, a third number, one blank
unfoldable pub header : List ℕ → ParsedHeader
unfolding opening gap number one_blank
header s =
    on_gap (opening s) λ s₁.
    on_number (number s₁) λ width s₂. on_gap (gap s₂) λ s₃.
    on_number (number s₃) λ height s₄. on_gap (gap s₄) λ s₅.
    on_number (number s₅) λ greatest s₆. on_gap (one_blank s₆) λ raster.
    sound width height greatest raster
