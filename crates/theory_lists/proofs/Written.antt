-- A list that is overwritten from its front by the values of a function: after i turns it is `table i g ++ drop i d`.
use mathlib.Core.Path.{◌≡◌}
use mathlib.Core.List.{List, ◌++◌}
use Prim.Native.Nat.{ℕ, suc, ◌+◌, ◌<◌}
use native.Mathlib.Numerals.{add-one}
use lib.ListN.{length, get_or, set, drop}
use lib.Seq.{drop-cons, append_snoc, set_at}
use Rattle.meaning.specs.Answers.{over}
use Rattle.meaning.specs.Sets.{table}
use Rattle.theory_lists.proofs.Lists.{length-table, table-suc}

-- one more value
pub written-more : {X : Type 0} (g : ℕ → X) (i : ℕ) (v : X) (d : List X) → i < length d → v ≡ g i
    → set (table i g ++ drop i d) i v ≡ table (i + 1) g ++ drop (i + 1) d
written-more g i v d l e =
    rw (e, add-one, drop-cons d i v l, table-suc g i, append_snoc (table i g) (g i) (drop (suc i) d))
    (set_at (table i g) (get_or d i v) (drop (suc i) d) (g i) i (length-table i g))

-- all values, in the words of the contracts
pub written_over : (n : ℕ) (g : ℕ → ℕ) (d : List ℕ) → table n g ++ drop n d ≡ over (table n g) d
written_over n g d = rw (length-table n g)
