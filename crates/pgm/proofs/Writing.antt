-- The loop that writes greys over the front of an output.
use mathlib.Core.Path.{◌≡◌, refl, ◌∙◌}
use mathlib.Core.List.{List, ◌++◌}
use mathlib.Core.List.{append-nil}
use Prim.Native.Nat.{ℕ, ◌+◌, ◌≤◌, ◌<◌}
use native.Mathlib.Nat.{zero-add}
use native.Mathlib.Numerals.{add-one}
use native.Mathlib.Omega.{arith}
use lib.ListN.{length, take, drop, get_or, set, drop_of_length-le}
use lib.Seq.{paste-suc, take_all}

-- i of the greys are written over the places `before`, which are as many
pub record Writing (greys before : List ℕ) (i : ℕ) (now : List ℕ) : Type 0 where
  pub room : length greys ≡ length before
  pub same : now ≡ take i greys ++ drop i before

pub writing_first : (greys before : List ℕ) → length greys ≡ length before → Writing greys before 0 before
writing_first greys before h = record { room = h; same = refl }

module _ {greys before now : List ℕ} {i : ℕ} (k : Writing greys before i now) where
  pub writing_more : i < length before → Writing greys before (i + 1) (set now i (get_or greys i 0))
  writing_more h = record {
    room = k.room;
    same = rw (k.same, add-one i) (simp zero-add at (paste-suc before 0 greys i 0 (omega (arith, k.room)) (omega (arith, k.room))));
  }

  pub writing_done : length before ≤ i → now ≡ greys
  writing_done h = k.same ∙ rw (take_all i greys (omega (arith, k.room)), drop_of_length-le before h) (append-nil greys)
