-- What `write_cut_list` answers and leaves. It writes a plate's record, cuts it at a limit and lists its sizes, with the exact bytes passed on: demand 3 at
-- one limit. k: connectivity, w: width, h: height, M: greatest grey, f: the plate; bytes, out, counted, lost, work: the lent buffers.
use Rattle.std.specs.Prelude.{◌≡◌, Bool, List, ℕ, ◌*◌, take}
use Rattle.std.proofs.Math.Dec.{eqb}
use Rattle.std.proofs.Math.ListN.{length}
use Rattle.meaning.specs.Sets.{pick}
use Rattle.meaning.specs.Plate.{Plate, connectivity_fits, greatest_fits, grid_fits}
use Rattle.meaning.specs.Nodes.{nodes_of}
use Rattle.meaning.specs.Cut.{counts, cut, darkest, held, losses, total}
use Rattle.meaning.specs.Record.{record_of}
use Rattle.meaning.specs.Answers.{any_above, limit_refusal, out_after, out_refusal, plate_refusal, tables_refusal, work_after, work_refusal}
use Rattle.demands.specs.Claims.{IsCut, IsSizeList}
use Rattle.record_write_cut_list.specs.declared.CutListed.{CutListed}

-- the conditions ahead of any work: 1, 2, 29, 3, 28, 4, then 5 when the output has fewer places than the pixels or either table fewer than pixels - 1, then 6;
-- `later` where none is met. out, counted, lost, work: lengths
unfoldable pub early_refusal : (k w h M limit : ℕ) (f : List ℕ) (out counted lost work later : ℕ) → ℕ
unfolding connectivity_fits grid_fits greatest_fits any_above
early_refusal k w h M limit f out counted lost work later =
    let n = w * h in
    plate_refusal k w h M f (limit_refusal n limit (out_refusal n out (tables_refusal n counted lost (work_refusal n work later))))

module _ (k w h M limit : ℕ) (f bytes out counted lost work : List ℕ) where
  -- the same, and then 5 when the record needs more bytes than were lent
  unfoldable pub write_cut_list_refusal : ℕ
  unfolding early_refusal record_of
  write_cut_list_refusal =
      early_refusal k w h M limit f (length out) (length counted) (length lost) (length work)
      (out_refusal (length (record_of k w h M f)) (length bytes) 0)

  -- the work begins where no condition ahead of it is met
  unfoldable pub work_begins : Bool
  unfolding early_refusal
  work_begins = eqb (early_refusal k w h M limit f (length out) (length counted) (length lost) (length work) 0) 0

  unfoldable pub write_cut_list_answer : CutListed
  unfolding write_cut_list_refusal
  write_cut_list_answer =
      let met = eqb write_cut_list_refusal 0 in
      record {
        refusal = write_cut_list_refusal;
        length = pick met (length (record_of k w h M f)) 0;
        nodes = pick met (length (nodes_of k w f)) 0;
        darkest = pick met (darkest f) 0;
        held = pick met (held k w h f) 0;
      }

-- the contract: the answer, the outputs and the work space; where nothing is refused, an accepted plate, and demand 3's
-- claims on its cut and its size list
pub record WrittenCutListed (k w h M limit : ℕ) (f bytes bytes' out out' counted counted' lost lost' work work' : List ℕ) (r : CutListed) : Type 0
  where
    pub answer : r ≡ write_cut_list_answer k w h M limit f bytes out counted lost work
    pub written : bytes' ≡ out_after (write_cut_list_refusal k w h M limit f bytes out counted lost work) (record_of k w h M f) bytes
    pub cut_plate : out' ≡ out_after (write_cut_list_refusal k w h M limit f bytes out counted lost work) (cut k w h limit f) out
    pub count_table : counted' ≡ out_after (write_cut_list_refusal k w h M limit f bytes out counted lost work) (counts k w h f) counted
    pub loss_table : lost' ≡ out_after (write_cut_list_refusal k w h M limit f bytes out counted lost work) (losses k w h f) lost
    pub space : work' ≡ work_after (work_begins k w h M limit f bytes out counted lost work) (w * h) work
    pub accepted : write_cut_list_refusal k w h M limit f bytes out counted lost work ≡ 0 → Plate k w h M f
    pub is_cut : write_cut_list_refusal k w h M limit f bytes out counted lost work ≡ 0 → IsCut k w h limit f (take (w * h) out')
    pub is_list : write_cut_list_refusal k w h M limit f bytes out counted lost work ≡ 0
        → IsSizeList k w h f counted' lost' r.darkest r.held (λ (a : ℕ). total (cut k w h a f))
