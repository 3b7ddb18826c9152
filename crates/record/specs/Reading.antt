-- Reading a record, cutting it, its size list. Each starts from what reading finds up to 24 (`read_of` of the crate `record_parse`).
use Rattle.std.specs.Prelude.{true, ◌≡◌, List, ℕ, ◌*◌, eqb, length}
use Rattle.meaning.specs.Sets.{pick}
use Rattle.meaning.specs.Nodes.{nodes_of}
use Rattle.meaning.specs.Cut.{cut, counts, losses, darkest, held}
use Rattle.meaning.specs.Answers.{limit_refusal, out_refusal, tables_refusal, out_after, work_after}
use Rattle.record_parse.specs.Parse.{Parsed, early, late, plate}
use Rattle.record.specs.declared.Head.{Head}
use Rattle.record.specs.declared.SizeHead.{SizeHead}

-- ---- for all three: the refusal up to 24, then the operation's own conditions on the plate

abbrev pub parsed_refusal : Parsed → ((k w h M : ℕ) → List ℕ → ℕ) → ℕ
parsed_refusal (early number) own = number
parsed_refusal (late number pixels) own = number
parsed_refusal (plate new k w h M f) own = own k w h M f

-- the work space: untouched by 6 and ahead of it, else zeroed
abbrev pub parsed_work : Parsed → List ℕ → List ℕ
parsed_work (early number) work = work
parsed_work (late number pixels) work = work_after true pixels work
parsed_work (plate new k w h M f) work = work_after true (w * h) work

-- the sizes, the greatest grey and the connectivity of the plate; zeros on a refusal
abbrev pub head_of : ℕ → Parsed → Head
head_of refusal (early number) = record { refusal = refusal; width = 0; height = 0; greatest = 0; connectivity = 0 }
head_of refusal (late number pixels) = record { refusal = refusal; width = 0; height = 0; greatest = 0; connectivity = 0 }
head_of refusal (plate new k w h M f) =
    let met = eqb refusal 0 in
    record { refusal = refusal; width = pick met w 0; height = pick met h 0; greatest = pick met M 0; connectivity = pick met k 0 }

-- an output: what the plate's operation answers, where nothing is refused
abbrev pub parsed_out : ℕ → Parsed → ((k w h M : ℕ) → List ℕ → List ℕ) → List ℕ → List ℕ
parsed_out refusal (early number) answer out = out
parsed_out refusal (late number pixels) answer out = out
parsed_out refusal (plate new k w h M f) answer out = out_after refusal (answer k w h M f) out

-- ---- reading: 5

abbrev pub read_refusal : Parsed → ℕ → ℕ
read_refusal p out = parsed_refusal p λ k w h M f. out_refusal (w * h) out 0

abbrev pub read_out : Parsed → List ℕ → List ℕ
read_out p out = parsed_out (read_refusal p (length out)) p (λ k w h M f. f) out

-- ---- cutting: 4, 5

abbrev pub cut_refusal : Parsed → ℕ → ℕ → ℕ
cut_refusal p limit out = parsed_refusal p λ k w h M f. limit_refusal (w * h) limit (out_refusal (w * h) out 0)

abbrev pub cut_out : Parsed → ℕ → List ℕ → List ℕ
cut_out p limit out = parsed_out (cut_refusal p limit (length out)) p (λ k w h M f. cut k w h limit f) out

-- ---- size list: 5

abbrev pub size_refusal : Parsed → ℕ → ℕ → ℕ
size_refusal p countPlaces lossPlaces = parsed_refusal p λ k w h M f. tables_refusal (w * h) countPlaces lossPlaces 0

abbrev pub size_head_of : ℕ → Parsed → SizeHead
size_head_of refusal (early number) = record { refusal = refusal; width = 0; height = 0; greatest = 0; connectivity = 0; nodes = 0; darkest = 0; held = 0 }
size_head_of refusal (late number pixels) = record { refusal = refusal; width = 0; height = 0; greatest = 0; connectivity = 0; nodes = 0; darkest = 0; held = 0 }
size_head_of refusal (plate new k w h M f) =
    let met = eqb refusal 0 in
    record {
      refusal = refusal;
      width = pick met w 0;
      height = pick met h 0;
      greatest = pick met M 0;
      connectivity = pick met k 0;
      nodes = pick met (length (nodes_of k w f)) 0;
      darkest = pick met (darkest f) 0;
      held = pick met (held k w h f) 0;
    }

abbrev pub counts_out : Parsed → ℕ → List ℕ → List ℕ
counts_out p lossPlaces out = parsed_out (size_refusal p (length out) lossPlaces) p (λ k w h M f. counts k w h f) out

abbrev pub losses_out : Parsed → ℕ → List ℕ → List ℕ
losses_out p countPlaces out = parsed_out (size_refusal p countPlaces (length out)) p (λ k w h M f. losses k w h f) out

-- ---- the contracts: the answer, the outputs and the work space. p: what reading finds up to 24

pub record ReadRecord (p : Parsed) (out out' work work' : List ℕ) (r : Head) : Type 0 where
  pub answer : r ≡ head_of (read_refusal p (length out)) p
  pub output : out' ≡ read_out p out
  pub space : work' ≡ parsed_work p work

pub record CutRecord (p : Parsed) (limit : ℕ) (out out' work work' : List ℕ) (r : Head) : Type 0 where
  pub answer : r ≡ head_of (cut_refusal p limit (length out)) p
  pub output : out' ≡ cut_out p limit out
  pub space : work' ≡ parsed_work p work

pub record ListedSizes (p : Parsed) (counted counted' lost lost' work work' : List ℕ) (r : SizeHead) : Type 0 where
  pub answer : r ≡ size_head_of (size_refusal p (length counted) (length lost)) p
  pub count_table : counted' ≡ counts_out p (length lost) counted
  pub loss_table : lost' ≡ losses_out p (length counted) lost
  pub space : work' ≡ parsed_work p work
