-- What is promised of an ink percentage.
use Rattle.std.specs.Prelude.{◌≡◌, ℕ, eqb, Result, Ok, Err}
use Rattle.meaning.specs.Sets.{pick}
use Rattle.meaning.specs.Ink.{ink_of, Nearest}
use Rattle.meaning.specs.Answers.{ink_refusal}
use Rattle.refusals.specs.Numbers.{number_of}
use Rattle.refusals.specs.declared.Refusal.{Refusal}
use Rattle.ink.specs.declared.Ink.{Ink}

-- what an answer says: the percentage, or the refusal
abbrev pub ink_answer : Result ℕ Refusal → Ink
ink_answer (Ok p) = record { refusal = 0; percentage = p }
ink_answer (Err r) = record { refusal = number_of r; percentage = 0 }

-- r answers for the grey g, where M is the greatest: the refusal; the percentage that the rule of SPECIFICATION 8 computes, and 0 where it is refused;
-- and that it is the whole number nearest to (M − g) × 100 / M, halves up
pub record Percentage (M g : ℕ) (r : Ink) : Type 0 where
  pub number : r.refusal ≡ ink_refusal M g
  pub value : r.percentage ≡ pick (eqb (ink_refusal M g) 0) (ink_of M g) 0
  pub nearest : ink_refusal M g ≡ 0 → Nearest M g r.percentage
