-- The theorem of demand 3.
use mathlib.Core.Path.{◌≡◌, refl, ap, ◌∙◌}
use mathlib.Core.Bool.{true}
use mathlib.Core.List.{List}
use Prim.Native.Nat.{ℕ, ◌-◌, ◌*◌, ◌≤◌}
use borrow.Author.Tests.{le-ltb, le-leb}
use lib.ListN.{length}
use Rattle.meaning.specs.Answers.{over}
use Rattle.meaning.specs.Cut.{counts, cut, cut_at, darkest, held, losses, total}
use Rattle.meaning.specs.Nodes.{nodes_of}
use Rattle.meaning.specs.Opening.{at_least, attribute}
use Rattle.meaning.specs.Plate.{Plate, grey, touch}
use Rattle.meaning.specs.Record.{record_of}
use Rattle.theory_lists.proofs.Lists.{length-table}
use Rattle.plate_refusals.proofs.Refusals.{tree_later}
use Rattle.record_parse.specs.Parse.{plate}
use Rattle.record_roundtrip.proofs.There.{read_new}
use Rattle.record.specs.Reading.{cut_refusal, size_refusal}
use Rattle.record.specs.Writing.{write_answer, write_out, write_refusal}
use Rattle.demands.specs.Demand3.{CutClaim, Demand3, SizeClaim, cut_head, cut_plate, size_counts, size_head, size_losses, written}
use Rattle.demands.proofs.Claims.{is_cut, is_list, over-take}

module _ {k w h M : ℕ} {f : List ℕ} (pl : Plate k w h M f) where
  abbrev bytes : List ℕ
  bytes = record_of k w h M f

  -- ---- writing

  write_zero : (out work : List ℕ) → length bytes ≤ length out → 8 * (w * h) ≤ length work → write_refusal k w h M f out work ≡ 0
  unfolding write_refusal
  write_zero out work room_out room-work =
      tree_later (record { taken = pl; space = room-work }) (length bytes) (length out) ∙ rw (le-ltb (length out) (length bytes) room_out)

  writing_is : (out work : List ℕ) → length bytes ≤ length out → 8 * (w * h) ≤ length work
      → (write_answer k w h M f out work ≡ record { refusal = 0; length = length bytes }) × (written k w h M f out work ≡ bytes)
  unfolding write_answer write_out written
  writing_is out work a b = (rw (write_zero out work a b), rw (write_zero out work a b) (over-take bytes out (length bytes) refl))

  -- ---- cutting

  pub cut-zero : (limit : ℕ) → 1 ≤ limit → limit ≤ w * h → (out : List ℕ) → w * h ≤ length out → cut_refusal (plate true k w h M f) limit (length out) ≡ 0
  cut-zero limit a b out c = rw (le-leb 1 limit a, le-leb limit (w * h) b, le-ltb (length out) (w * h) c)

  pub cut-length : (limit : ℕ) → length (cut k w h limit f) ≡ w * h
  unfolding cut
  cut-length limit =
      length-table (length f) (cut_at (length f) (touch k w) (grey f) (nodes_of k w f) (at_least (attribute w h) limit)) ∙ pl.long

  pub cut_plate_is : (limit : ℕ) → 1 ≤ limit → limit ≤ w * h → (out work : List ℕ) → w * h ≤ length out → 8 * (w * h) ≤ length work
      → cut_plate w h bytes limit out work ≡ cut k w h limit f
  unfolding cut_plate
  cut_plate_is limit a b out work c d =
      rw (read_new pl (length work) d, cut-zero limit a b out c) (over-take (cut k w h limit f) out (w * h) (cut-length limit))

  cut_head_is : (limit : ℕ) → 1 ≤ limit → limit ≤ w * h → (out work : List ℕ) → w * h ≤ length out → 8 * (w * h) ≤ length work
      → cut_head bytes limit out work ≡ record { refusal = 0; width = w; height = h; greatest = M; connectivity = k }
  unfolding cut_head
  cut_head_is limit a b out work c d = rw (read_new pl (length work) d, cut-zero limit a b out c)

  cut_claim : (limit : ℕ) → 1 ≤ limit → limit ≤ w * h → (out work : List ℕ) → w * h ≤ length out → 8 * (w * h) ≤ length work
      → CutClaim k w h M f bytes limit out work
  cut_claim limit a b out work c d = record {
    accepted = cut_head_is limit a b out work c d;
    is_cut = rw (cut_plate_is limit a b out work c d) (is_cut pl limit b);
  }

  -- ---- the size list

  module _ (counted lost : List ℕ) (a : w * h - 1 ≤ length counted) (b : w * h - 1 ≤ length lost) where
    pub size_zero : size_refusal (plate true k w h M f) (length counted) (length lost) ≡ 0
    size_zero = rw (le-ltb (length counted) (w * h - 1) a, le-ltb (length lost) (w * h - 1) b)

    module _ (work plain : List ℕ) (c : 8 * (w * h) ≤ length work) (d : w * h ≤ length plain) where
      size_head_is : size_head bytes counted lost work
          ≡ record {
            refusal = 0;
            width = w;
            height = h;
            greatest = M;
            connectivity = k;
            nodes = length (nodes_of k w f);
            darkest = darkest f;
            held = held k w h f;
          }
      unfolding size_head
      size_head_is = rw (read_new pl (length work) c, size_zero)

      counts_are : size_counts bytes counted lost work ≡ over (counts k w h f) counted
      unfolding size_counts
      counts_are = rw (read_new pl (length work) c, size_zero)

      losses_are : size_losses bytes counted lost work ≡ over (losses k w h f) lost
      unfolding size_losses
      losses_are = rw (read_new pl (length work) c, size_zero)

      size_claim : SizeClaim k w h M f bytes counted lost work plain
      size_claim = record {
        accepted = size_head_is;
        is_list = rw (counts_are, losses_are, size_head_is)
            (is_list pl counted lost (λ (x : ℕ). total (cut_plate w h bytes x plain work)) (λ x l m. ap total (cut_plate_is x l m plain work d c)));
      }

-- for every accepted plate, whatever its greatest grey
pub demand_3 : {k w h M : ℕ} {f : List ℕ} → Plate k w h M f → Demand3 k w h M f
demand_3 pl = record {
  writing = writing_is pl;
  cutting = λ out work a b limit l m out' work' c d. rw (writing_is pl out work a b).1 (cut_claim pl limit l m out' work' c d);
  listing =
      λ out work a b counted lost work' plain c d e g. rw (writing_is pl out work a b).1 (size_claim pl counted lost c d work' plain e g);
}
