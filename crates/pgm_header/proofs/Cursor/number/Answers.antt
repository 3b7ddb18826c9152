-- A number of one to five digits.
use mathlib.Core.Path.{◌≡◌}
use Prim.Native.Nat.{◌≤◌}
use native.Mathlib.Omega.{arith}
use lib.ListN.{length, drop}
use Rattle.std.proofs.Common.{rules}
use Rattle.pgm_header.specs.Grammar.{is_digit, front}
use Rattle.pgm_header.specs.declared.HeaderFault.TheVariants.{GapOrNumber}
use Rattle.theory_lists.proofs.Lists.{take_rest}
use Rattle.pgm_header.proofs.Digits.{number_stopped, number_absent, number_empty, number_long, number_digits, number_step}
use Rattle.pgm_header.proofs.Cursor.number.Goals as goal
use Rattle.pgm_header.proofs.Cursor.number.Goals.{After-front_end-n, then-n-lt1-via-then-n-lt1, then-n-lt1-via-else-n-lt1+then-n-gt-MAX_DIGITS}

there : (c : After-front_end-n) → c.in-Some.rest.now ≡ drop c.args.self.at c.args.file.now
there c = rw (c.in-Some.ensures.lookup.0.2) (take_rest c.args.file.now c.args.self.at)

count : (c : After-front_end-n) → c.front_end-n.result ≡ front is_digit (drop c.args.self.at c.args.file.now)
unfolding is_digit
count c = let e = rw (there c) at (c.front_end-n.ensures.counted is_digit (λ b r k. search rules)) in omega (arith, e)

pub returns-in_default : goal.returns-in_default
returns-in_default c =
    let beyond : length c.args.file.now ≤ c.args.self.at = let h = c.in_default.ensures.lookup.0 in omega arith in
    number_stopped GapOrNumber (number_absent _ _ beyond)

pub returns-then-n-lt1 : goal.returns-then-n-lt1
returns-then-n-lt1 c =
    let is = count (goal.at.returns-then-n-lt1 c).After-front_end-n in
    let s = c.args.file.now in
    elim c.then-n-lt1.branch [
      | then-n-lt1-via-then-n-lt1 w ↦ number_stopped GapOrNumber (number_empty s c.args.self.at is w.if-n-lt1.true)
      | then-n-lt1-via-else-n-lt1+then-n-gt-MAX_DIGITS w ↦ number_stopped GapOrNumber (number_long s c.args.self.at is w.if-n-gt-MAX_DIGITS.true)
    ]

pub digits_value-requires : goal.digits_value-requires
digits_value-requires c =
    let e = (goal.at.digits_value-requires c).After-front_end-n in
    rw (there e) (number_digits c.args.file.now c.args.self.at (count e) c.if-n-gt-MAX_DIGITS.false)

pub returns : goal.returns
returns c =
    let e = (goal.at.returns c).After-front_end-n in
    let within : c.args.self.at ≤ length c.args.file.now = c.in-Some.ensures.lookup.0.0 in
    number_step _ _ (count e) within (omega arith) (omega arith) (rw (there e) at c.digits_value.ensures)
