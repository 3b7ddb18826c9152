-- Demand 3 as one statement: from a plate through the bytes that writing returns to every cut and the size list. It speaks of the definitions that the
-- contracts of `write_record`, `cut_record` and `size_list` equate with what they answer and leave in their buffers. k: connectivity, w: width, h: height,
-- M: greatest grey, f: the plate.
use Rattle.std.specs.Prelude.{◌≡◌, List, ℕ, ◌-◌, ◌*◌, ◌≤◌, length, take}
use Rattle.meaning.specs.Nodes.{nodes_of}
use Rattle.meaning.specs.Cut.{total, darkest, held}
use Rattle.meaning.specs.Record.{record_of}
use Rattle.record_parse.specs.Parse.{read_of}
use Rattle.record.specs.Writing.{write_answer, write_out}
use Rattle.record.specs.Reading.{cut_refusal, cut_out, head_of, size_refusal, size_head_of, counts_out, losses_out}
use Rattle.record.specs.declared.Head.{Head}
use Rattle.record.specs.declared.SizeHead.{SizeHead}
use Rattle.demands.specs.Claims.{IsCut, IsSizeList}

-- the bytes that writing returns, without the excess: as many as it answers, from the front of the output
unfoldable pub written : (k w h M : ℕ) (f out work : List ℕ) → List ℕ
unfolding write_answer write_out
written k w h M f out work = take (write_answer k w h M f out work).length (write_out k w h M f out work)

-- the plate that cutting these bytes at a limit returns, with the lent buffers
unfoldable pub cut_plate : (w h : ℕ) (bytes : List ℕ) (limit : ℕ) (out work : List ℕ) → List ℕ
unfolding read_of
cut_plate w h bytes limit out work = take (w * h) (cut_out (read_of bytes (length work)) limit out)

-- what cutting answers
unfoldable pub cut_head : (bytes : List ℕ) (limit : ℕ) (out work : List ℕ) → Head
unfolding read_of
cut_head bytes limit out work = head_of (cut_refusal (read_of bytes (length work)) limit (length out)) (read_of bytes (length work))

-- what the size list answers, and its tables
unfoldable pub size_head : (bytes counts losses work : List ℕ) → SizeHead
unfolding read_of
size_head bytes counts losses work =
    size_head_of (size_refusal (read_of bytes (length work)) (length counts) (length losses)) (read_of bytes (length work))

unfoldable pub size_counts : (bytes counts losses work : List ℕ) → List ℕ
unfolding read_of
size_counts bytes counts losses work = counts_out (read_of bytes (length work)) (length losses) counts

unfoldable pub size_losses : (bytes counts losses work : List ℕ) → List ℕ
unfolding read_of
size_losses bytes counts losses work = losses_out (read_of bytes (length work)) (length counts) losses

-- the cut at one limit: it is not refused, and it is the cut
pub record CutClaim (k w h M : ℕ) (f bytes : List ℕ) (limit : ℕ) (out work : List ℕ) : Type 0 where
  pub accepted : cut_head bytes limit out work ≡ record { refusal = 0; width = w; height = h; greatest = M; connectivity = k }
  pub is_cut : IsCut k w h limit f (cut_plate w h bytes limit out work)

-- the size list: it is not refused, and it is the size list, by the totals of the cuts of these bytes. `plain` is an output for the cuts
pub record SizeClaim (k w h M : ℕ) (f bytes counts losses work plain : List ℕ) : Type 0 where
  pub accepted : size_head bytes counts losses work
      ≡ record { refusal = 0; width = w; height = h; greatest = M; connectivity = k; nodes = length (nodes_of k w f); darkest = darkest f; held = held k w h f }
  pub is_list : IsSizeList k w h f (size_counts bytes counts losses work) (size_losses bytes counts losses work)
      (size_head bytes counts losses work).darkest (size_head bytes counts losses work).held (λ (a : ℕ). total (cut_plate w h bytes a plain work))

-- all of it, for every limit from 1 to the pixels and whatever buffers of enough space
pub record Demand3 (k w h M : ℕ) (f : List ℕ) : Type 0 where
  -- writing, given its space, is not refused, and returns the plate's record
  pub writing : (out work : List ℕ) → length (record_of k w h M f) ≤ length out → 8 * (w * h) ≤ length work
      → (write_answer k w h M f out work ≡ record { refusal = 0; length = length (record_of k w h M f) }) × (written k w h M f out work ≡ record_of k w h M f)
  -- the bytes that it returned, with whatever buffers it was given, are cut at every limit
  pub cutting : (out work : List ℕ) → length (record_of k w h M f) ≤ length out → 8 * (w * h) ≤ length work
      → (limit : ℕ) → 1 ≤ limit → limit ≤ w * h → (out' work' : List ℕ) → w * h ≤ length out' → 8 * (w * h) ≤ length work'
      → CutClaim k w h M f (written k w h M f out work) limit out' work'
  -- and listed
  pub listing : (out work : List ℕ) → length (record_of k w h M f) ≤ length out → 8 * (w * h) ≤ length work
      → (counts losses work' plain : List ℕ) → w * h - 1 ≤ length counts → w * h - 1 ≤ length losses → 8 * (w * h) ≤ length work' → w * h ≤ length
      plain
      → SizeClaim k w h M f (written k w h M f out work) counts losses work' plain
