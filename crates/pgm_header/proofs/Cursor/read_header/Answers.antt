-- The header, step by step: what is left of it after each step that went on.
use mathlib.Core.Path.{◌≡◌, sym}
use lib.ListN.{drop}
use Rattle.pgm_header.specs.Grammar.{header, sound}
use Rattle.pgm_header.proofs.Parsing.{from_width, from_gap₂, from_height, from_gap₃, from_greatest, from_blank, header-from}
use Rattle.pgm_header.proofs.Parsing.{gap_on, gap_off, number_on, number_off}
use Rattle.pgm_header.proofs.Cursor.read_header.Goals as goal
use Rattle.pgm_header.proofs.Cursor.read_header.Goals.{In_ok-c1, In_ok-width, In_ok-c3, In_ok-height, In_ok-c5, In_ok-greatest}

at₁ : (c : In_ok-c1) → let s = c.args.file.now in header (drop c.args.self.at s) ≡ from_width (drop c.in_ok-c1.c1.at s)
at₁ c = gap_on from_width (header-from _) c.in_ok-c1.ensures

at₂ : (c : In_ok-width) → let s = c.args.file.now in header (drop c.args.self.at s) ≡ from_gap₂ c.in_ok-width.width (drop c.in_ok-width.c2.at s)
at₂ c = number_on from_gap₂ (at₁ (goal.at.In_ok-width c).In_ok-c1) c.in_ok-width.ensures

at₃ : (c : In_ok-c3) → let s = c.args.file.now in header (drop c.args.self.at s) ≡ from_height c.in_ok-width.width (drop c.in_ok-c3.c3.at s)
at₃ c = gap_on (from_height _) (at₂ (goal.at.In_ok-c3 c).In_ok-width) c.in_ok-c3.ensures

at₄ : (c : In_ok-height) → let s = c.args.file.now in
    header (drop c.args.self.at s) ≡ from_gap₃ c.in_ok-width.width c.in_ok-height.height (drop c.in_ok-height.c4.at s)
at₄ c = number_on (from_gap₃ _) (at₃ (goal.at.In_ok-height c).In_ok-c3) c.in_ok-height.ensures

at₅ : (c : In_ok-c5) → let s = c.args.file.now in
    header (drop c.args.self.at s) ≡ from_greatest c.in_ok-width.width c.in_ok-height.height (drop c.in_ok-c5.c5.at s)
at₅ c = gap_on (from_greatest _ _) (at₄ (goal.at.In_ok-c5 c).In_ok-height) c.in_ok-c5.ensures

at₆ : (c : In_ok-greatest) → let s = c.args.file.now in
    header (drop c.args.self.at s) ≡ from_blank c.in_ok-width.width c.in_ok-height.height c.in_ok-greatest.greatest (drop c.in_ok-greatest.c6.at s)
at₆ c = number_on (from_blank _ _) (at₅ (goal.at.In_ok-greatest c).In_ok-c5) c.in_ok-greatest.ensures

pub returns-in_err-c1-clause-result_value : goal.returns-in_err-c1-clause-result_value
returns-in_err-c1-clause-result_value c =
    let left = c.from_residual in
    gap_off from_width (header-from _) left.result left.ensures.1 c.in_err-c1.ensures

pub returns-in_err-width-clause-result_value : goal.returns-in_err-width-clause-result_value
returns-in_err-width-clause-result_value c =
    let left = c.from_residual-in_err-width in
    number_off from_gap₂ (at₁ (goal.at.returns-in_err-width-clause-result_value c).In_ok-c1) left.result left.ensures.1 c.in_err-width.ensures

pub returns-in_err-c3-clause-result_value : goal.returns-in_err-c3-clause-result_value
returns-in_err-c3-clause-result_value c =
    let left = c.from_residual-in_err-c3 in
    gap_off (from_height _) (at₂ (goal.at.returns-in_err-c3-clause-result_value c).In_ok-width) left.result left.ensures.1 c.in_err-c3.ensures

pub returns-in_err-height-clause-result_value : goal.returns-in_err-height-clause-result_value
returns-in_err-height-clause-result_value c =
    let left = c.from_residual-in_err-height in
    number_off (from_gap₃ _) (at₃ (goal.at.returns-in_err-height-clause-result_value c).In_ok-c3) left.result left.ensures.1 c.in_err-height.ensures

pub returns-in_err-c5-clause-result_value : goal.returns-in_err-c5-clause-result_value
returns-in_err-c5-clause-result_value c =
    let left = c.from_residual-in_err-c5 in
    gap_off (from_greatest _ _) (at₄ (goal.at.returns-in_err-c5-clause-result_value c).In_ok-height) left.result left.ensures.1 c.in_err-c5.ensures

pub returns-in_err-greatest-clause-result_value : goal.returns-in_err-greatest-clause-result_value
returns-in_err-greatest-clause-result_value c =
    let left = c.from_residual-in_err-greatest in
    number_off (from_blank _ _) (at₅ (goal.at.returns-in_err-greatest-clause-result_value c).In_ok-c5) left.result left.ensures.1 c.in_err-greatest.ensures

pub returns-in_err-raster-clause-result_value : goal.returns-in_err-raster-clause-result_value
returns-in_err-raster-clause-result_value c =
    let left = c.from_residual-in_err-raster in
    gap_off (sound _ _ _) (at₆ (goal.at.returns-in_err-raster-clause-result_value c).In_ok-greatest) left.result left.ensures.1 c.in_err-raster.ensures

pub returns-clause-result_value : goal.returns-clause-result_value
returns-clause-result_value c = sym (gap_on (sound _ _ _) (at₆ (goal.at.returns-clause-result_value c).In_ok-greatest) c.in_ok-raster.ensures)
