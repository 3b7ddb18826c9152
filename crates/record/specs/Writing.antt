-- Writing a record. k: connectivity, w: width, h: height, M: greatest grey, f: the plate; out, work: the lent buffers.
use Rattle.std.specs.Prelude.{◌≡◌, List, ℕ, ◌*◌, eqb}
use Rattle.std.proofs.Math.ListN.{length}
use Rattle.meaning.specs.Sets.{pick}
use Rattle.meaning.specs.Plate.{Plate}
use Rattle.meaning.specs.Record.{record_of}
use Rattle.meaning.specs.Answers.{tree_refusal, out_after, work_after, began}
use Rattle.record.specs.declared.Written.{Written}

module _ (k w h M : ℕ) (f out work : List ℕ) where
  -- 1, 2, 29, 3, 28, 6, then 5 when the record needs more bytes than were lent
  unfoldable pub write_refusal : ℕ
  unfolding tree_refusal record_of
  write_refusal = tree_refusal k w h M f (length (record_of k w h M f)) (length out) (length work)

  unfoldable pub write_answer : Written
  unfolding write_refusal
  write_answer = record { refusal = write_refusal; length = pick (eqb write_refusal 0) (length (record_of k w h M f)) 0 }

  unfoldable pub write_out : List ℕ
  unfolding write_refusal
  write_out = out_after write_refusal (record_of k w h M f) out

  unfoldable pub write_work : List ℕ
  unfolding write_refusal
  write_work = work_after (began write_refusal) (w * h) work

-- the contract of writing: the answer, the output and the work space; and what is not refused is an accepted plate
pub record WrittenRecord (k w h M : ℕ) (f out out' work work' : List ℕ) (r : Written) : Type 0 where
  pub answer : r ≡ write_answer k w h M f out work
  pub output : out' ≡ write_out k w h M f out work
  pub space : work' ≡ write_work k w h M f out work
  pub accepted : write_refusal k w h M f out work ≡ 0 → Plate k w h M f
