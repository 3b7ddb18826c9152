-- `text_plate::put_sizes` meets its contract: the line of an area goes behind those of the areas before it.
use Rattle.std.proofs.Common.{add-one, arith}
use Rattle.meaning.specs.Sets.{gather}
use Rattle.text_lines.proofs.Texts.{puts_nothing, puts_puts}
use Rattle.text_plate.proofs.put_sizes.Goals as goal

pub loop-i-init : goal.loop-i-init
unfolding gather
loop-i-init c = record { puts = puts_nothing _ (omega arith); upper_bound = omega arith }

pub loop-i-preserved : goal.loop-i-preserved
unfolding gather
loop-i-preserved c =
    let more = add-one c.loop-i.i in
    record { puts = rw more (puts_puts c.loop-i.invariant.puts (rw more at c.put_size.ensures.puts)); upper_bound = omega arith }
