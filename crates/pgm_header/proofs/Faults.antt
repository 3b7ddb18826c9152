-- The number of a header's fault is 10 or 11.
use mathlib.Core.Path.{◌≡◌}
use mathlib.Core.Bool.{Bool, true, false, ◌&&◌}
use mathlib.Core.List.{List, [], ◌∷◌}
use Prim.Native.Nat.{ℕ, ◌≤◌, ◌<◌}
use native.Mathlib.Omega.{arith}
use lib.Dec.{eqb, leb}
use lib.ListN.{take, drop}
use Rattle.meaning.specs.Sets.{pick}
use Rattle.pgm_header.specs.Grammar.{
  Token,
  number_then,
  gap_then,
  fault,
  malformed,
  no_letters,
  blank,
  line_end,
  is_digit,
  front,
  digits_value,
  mix,
  comment,
  one_blank,
  after_gap,
  gap,
  number,
  opening,
  ParsedHeader,
  sound,
  faulty,
  on_gap,
  on_number,
  header,
}

-- 10 or 11
abbrev Named : ℕ → Type 0
Named n = (10 ≤ n) × (n ≤ 11)

abbrev Numbered : Token → Type 0
Numbered (number_then v s) = Unit {0}
Numbered (gap_then s) = Unit {0}
Numbered (fault n) = Named n

module _ (t u : Token) (a : Numbered t) (b : Numbered u) where
  either : (x : Bool) → Numbered (elim x [ true ↦ t | false ↦ u ])
  either true = a
  either false = b

  picked : (x : Bool) → Numbered (pick x t u)
  picked true = a
  picked false = b

mutual
  unfolding mix

  mix_numbered : (s : List ℕ) → Numbered (mix s)
  mix_numbered [] = tt
  mix_numbered (b ∷ s) =
      either (mix s) (elim (eqb b 35) [ true ↦ comment s | false ↦ gap_then (b ∷ s) ]) (mix_numbered s)
      (either (comment s) (gap_then (b ∷ s)) (comment_numbered s) tt (eqb b 35)) (blank b)

  comment_numbered : (s : List ℕ) → Numbered (comment s)
  comment_numbered [] = omega arith
  comment_numbered (b ∷ s) = either (mix s) (comment s) (mix_numbered s) (comment_numbered s) (line_end b)

blank-numbered : (s : List ℕ) → Numbered (one_blank s)
unfolding one_blank
blank-numbered [] = omega arith
blank-numbered (b ∷ s) = picked (gap_then s) malformed tt (omega arith) (blank b)

after_numbered : (t : Token) (next : List ℕ → Token) → Numbered t → ((s : List ℕ) → Numbered (next s)) → Numbered (after_gap t next)
after_numbered (number_then v s) next a b = tt
after_numbered (gap_then s) next a b = b s
after_numbered (fault n) next a b = a

gap-numbered : (s : List ℕ) → Numbered (gap s)
unfolding gap
gap-numbered s = after_numbered (one_blank s) mix (blank-numbered s) mix_numbered

number-numbered : (s : List ℕ) → Numbered (number s)
unfolding number
number-numbered s =
    let n = front is_digit s in
    picked (number_then (digits_value 0 (take n s)) (drop n s)) malformed tt (omega arith) (leb 1 n && leb n 5)

opening-numbered : (s : List ℕ) → Numbered (opening s)
unfolding opening
opening-numbered [] = omega arith
opening-numbered (p ∷ []) = omega arith
opening-numbered (p ∷ five ∷ s) = picked (gap s) no_letters (gap-numbered s) (omega arith) (eqb p 80 && eqb five 53)

-- ---- the header

abbrev NumberedHeader : ParsedHeader → Type 0
NumberedHeader (sound w h g s) = Unit {0}
NumberedHeader (faulty n) = Named n

on_gap_lem : (t : Token) (next : List ℕ → ParsedHeader) → Numbered t → ((s : List ℕ) → NumberedHeader (next s)) → NumberedHeader (on_gap t next)
on_gap_lem (gap_then s) next a b = b s
on_gap_lem (number_then v s) next a b = omega arith
on_gap_lem (fault n) next a b = a

on_number_lem : (t : Token) (next : ℕ → List ℕ → ParsedHeader) → Numbered t → ((v : ℕ) (s : List ℕ) → NumberedHeader (next v s))
    → NumberedHeader (on_number t next)
on_number_lem (number_then v s) next a b = b v s
on_number_lem (gap_then s) next a b = omega arith
on_number_lem (fault n) next a b = a

header-numbered : (s : List ℕ) → NumberedHeader (header s)
unfolding header
header-numbered s =
    on_gap_lem (opening s) _ (opening-numbered s) λ s₁.
    on_number_lem (number s₁) _ (number-numbered s₁) λ w s₂. on_gap_lem (gap s₂) _ (gap-numbered s₂) λ s₃.
    on_number_lem (number s₃) _ (number-numbered s₃) λ h s₄. on_gap_lem (gap s₄) _ (gap-numbered s₄) λ s₅.
    on_number_lem (number s₅) _ (number-numbered s₅) λ g s₆. on_gap_lem (one_blank s₆) _ (blank-numbered s₆) λ s₇. tt

pub fault_named : (s : List ℕ) (n : ℕ) → header s ≡ faulty n → (10 ≤ n) × (n ≤ 11)
fault_named s n e = rw e at (header-numbered s)

pub fault_positive : (s : List ℕ) (n : ℕ) → header s ≡ faulty n → 0 < n
fault_positive s n e = omega (arith, fault_named s n e)
