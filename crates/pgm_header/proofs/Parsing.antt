-- A header step by step: what a step's answer says of the grammar, where it went on and where it stopped.
use mathlib.Core.Path.{◌≡◌, refl, sym, ap, ◌∙◌}
use mathlib.Core.List.{List}
use Prim.Native.Nat.{ℕ}
use lib.ListN.{drop}
use Rattle.std.specs.Result.{IsErrAnd}
use Rattle.std.proofs.Common.{Result, Ok, Err}
use Rattle.std.proofs.lemmas.Result.{err_from_is_err_and}
use Rattle.pgm_header.specs.Grammar.{Token, mix, gap, one_blank, after_gap, number, opening, ParsedHeader, sound, on_gap, on_number, header}
use Rattle.pgm_header.specs.Steps.{GapStep, NumberStep, header_of}
use Rattle.pgm_header.specs.declared.Cursor.{Cursor}
use Rattle.pgm_header.specs.declared.Header.{Header}
use Rattle.pgm_header.specs.declared.HeaderFault.{HeaderFault}

-- ---- a gap: the blank is missing, or the mix after it decides

module _ (s : List ℕ) {file : List ℕ} where
  pub blank_stopped : {f : HeaderFault} → GapStep file (one_blank s) (Err f) → GapStep file (gap s) (Err f)
  unfolding gap
  blank_stopped k = record { same = ap (λ (t : Token). after_gap t mix) k.same; within = tt }

  pub blank_went : {c : Cursor} {r : Result Cursor HeaderFault} → GapStep file (one_blank s) (Ok c) → GapStep file (mix (drop c.at file)) r
      → GapStep file (gap s) r
  unfolding gap
  blank_went k m = record { same = m.same ∙ ap (λ (t : Token). after_gap t mix) k.same; within = m.within }

-- ---- the header from each of its parts on

abbrev pub from_blank : ℕ → ℕ → ℕ → List ℕ → ParsedHeader
from_blank w h g s = on_gap (one_blank s) (sound w h g)

abbrev pub from_greatest : ℕ → ℕ → List ℕ → ParsedHeader
from_greatest w h s = on_number (number s) (from_blank w h)

abbrev pub from_gap₃ : ℕ → ℕ → List ℕ → ParsedHeader
from_gap₃ w h s = on_gap (gap s) (from_greatest w h)

abbrev pub from_height : ℕ → List ℕ → ParsedHeader
from_height w s = on_number (number s) (from_gap₃ w)

abbrev pub from_gap₂ : ℕ → List ℕ → ParsedHeader
from_gap₂ w s = on_gap (gap s) (from_height w)

abbrev pub from_width : List ℕ → ParsedHeader
from_width s = on_number (number s) from_gap₂

pub header-from : (s : List ℕ) → header s ≡ on_gap (opening s) from_width
unfolding header
header-from s = refl

-- the header p goes on from the cursor that a step hands back, or is faulty where the step stopped
module _ {file : List ℕ} {p : ParsedHeader} {t : Token} where
  module _ (next : List ℕ → ParsedHeader) (e : p ≡ on_gap t next) where
    pub gap_on : {c : Cursor} → GapStep file t (Ok c) → p ≡ next (drop c.at file)
    gap_on k = e ∙ sym (ap (λ (u : Token). on_gap u next) k.same)

    pub gap_off : (r : Result Header HeaderFault) {f : HeaderFault} → IsErrAnd r (λ g. g ≡ f) → GapStep file t (Err f) → header_of file r ≡ p
    gap_off r l k = let y = err_from_is_err_and r l in rw (y.1, y.2) (ap (λ (u : Token). on_gap u next) k.same ∙ sym e)

  module _ (next : ℕ → List ℕ → ParsedHeader) (e : p ≡ on_number t next) where
    pub number_on : {v : ℕ} {c : Cursor} → NumberStep file t (Ok (v, c)) → p ≡ next v (drop c.at file)
    number_on k = e ∙ sym (ap (λ (u : Token). on_number u next) k.same)

    pub number_off : (r : Result Header HeaderFault) {f : HeaderFault} → IsErrAnd r (λ g. g ≡ f) → NumberStep file t (Err f) → header_of file r ≡ p
    number_off r l k = let y = err_from_is_err_and r l in rw (y.1, y.2) (ap (λ (u : Token). on_number u next) k.same ∙ sym e)
