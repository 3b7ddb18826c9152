-- `Text::put_decimal` meets its contract: one digit, or the digits of the tenth and one digit more.
use Rattle.std.proofs.Common.{ap, arith, length}
use Rattle.text_lines.proofs.Decimals.{decimal-length, decimal-more, decimal_one, decimal_twenty}
use Rattle.text_lines.proofs.Texts.{puts_puts}
use Rattle.text_lines.proofs.Text.+put_decimal.Goals as goal

pub returns-then-value-lt10-clause-puts : goal.returns-then-value-lt10-clause-puts
returns-then-value-lt10-clause-puts t c = rw (decimal_one c.args.value c.if-value-lt10.true) c.put_byte.ensures

pub put_byte-requires-2 : goal.put_byte-requires-2
put_byte-requires-2 t c =
    let p = c.put_decimal.ensures.puts in
    omega (arith, p.put.after, p.same_length, decimal-length c.args.value c.if-value-lt10.false, decimal_twenty c.args.value (omega arith))

pub returns-clause-puts : goal.returns-clause-puts
returns-clause-puts t c = rw (decimal-more c.args.value c.if-value-lt10.false) (puts_puts c.put_decimal.ensures.puts c.put_byte-2.ensures)

pub returns-clause-upper_bound : goal.returns-clause-upper_bound
returns-clause-upper_bound t c =
    let p = puts_puts c.put_decimal.ensures.puts c.put_byte-2.ensures in
    omega (arith, p.put.after, ap length (decimal-more c.args.value c.if-value-lt10.false), decimal_twenty c.args.value (omega arith))
