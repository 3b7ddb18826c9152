-- The cycle of calls {put_decimal}. The measure is the number, of which a tenth is passed on.
use Rattle.text_lines.proofs.Text.+put_decimal.Given as goal

abbrev pub decreases-put_decimal : goal.decreases-put_decimal
decreases-put_decimal l = l.value
