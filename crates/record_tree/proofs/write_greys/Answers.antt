-- `record_tree::write_greys` meets its contract. The invariant: the first p greys are written, and the others are as they were.
use mathlib.Core.Path.{refl}
use native.Mathlib.Omega.{arith}
use lib.ListN.{length-set}
use Rattle.meaning.specs.Sets.{span, table}
use Rattle.theory_lists.proofs.Written.{written-more}
use Rattle.work_columns.specs.Columns.{col}
use Rattle.work_columns.specs.Layout.{GREY}
use Rattle.record_tree.proofs.write_greys.Goals as goal

pub loop-p-init : goal.loop-p-init
unfolding table span
loop-p-init c = (refl, refl)

pub loop-p-preserved : goal.loop-p-preserved
loop-p-preserved c =
    let s = c.args in (
      simp length-set c.loop-p.invariant.0,
      rw c.loop-p.invariant.1 (written-more (col GREY s.n s.w.now) c.loop-p.p c.get.result s.out.now (omega arith) c.get.ensures.0),
    )
