-- The loop that writes the greys of a seed, each with a step.
use Rattle.std.proofs.Common.{◌≡◌, ℕ, suc, ◌+◌, ◌<◌, ◌≤◌, List, length, set, sym, refl, ap, ◌∙◌, add-one, arith}
use Rattle.pgm.proofs.Writing.{Writing, writing_first, writing_more, writing_done}
use Rattle.seeded_plates.specs.Sequence.{greys_from, next_state, top_eight}
use Rattle.seeded_plates.specs.SeededPlates.{state_after}
use Rattle.seeded_plates.proofs.Sequence.{grey-is, greys_long}

-- p of n greys are written, and p steps are taken
pub record Generating (seed n : ℕ) (before : List ℕ) (p state : ℕ) (now : List ℕ) : Type 0 where
  pub written : Writing (greys_from n seed) before p now
  pub reached : state ≡ state_after p seed

pub generating_first : (seed n : ℕ) (out : List ℕ) → length out ≡ n → Generating seed n out 0 seed out
unfolding state_after
generating_first seed n out l = record { written = writing_first (greys_from n seed) out (omega (arith, l, greys_long n seed)); reached = refl }

module _ {seed n p state : ℕ} {before now : List ℕ} (g : Generating seed n before p state now) where
  pub generating_more : {next grey : ℕ} → p < length before → next ≡ next_state state → grey ≡ top_eight next → Generating seed n before (p + 1) next (set now p grey)
  unfolding state_after
  generating_more {next} {grey} l e d =
      let stepped : next ≡ state_after (suc p) seed = e ∙ ap next_state g.reached in
      let is = d ∙ ap top_eight stepped ∙ sym (grey-is n seed p (omega (arith, l, g.written.room, greys_long n seed))) in
      record {
        written = rw is (writing_more g.written l);
        reached = stepped ∙ ap (λ (k : ℕ). state_after k seed) (sym (add-one p));
      }

  pub generating_done : length before ≤ p → now ≡ greys_from n seed
  generating_done l = writing_done g.written l
