-- A list whose first entries were written over.
use mathlib.Core.Path.{◌≡◌, refl}
use mathlib.Core.List.{List}
use Prim.Native.Nat.{ℕ, ◌+◌, ◌<◌}
use lib.ListN.{length, set}
use Rattle.meaning.specs.Sets.{table}
use Rattle.theory_lists.proofs.Lists.{length-table}
use Rattle.theory_lists.proofs.Written.{written-more}
use Rattle.plate_entries.specs.declared.Node.{Node}
use Rattle.plate_entries.specs.Entries.{over_nodes}

module _ (g : ℕ → Node) (ys : List Node) where
  -- the list after i entries
  abbrev pub filled : ℕ → List Node
  filled i = over_nodes (table i g) ys

  pub filled_none : ys ≡ filled 0
  unfolding table
  filled_none = refl

  -- one entry more
  pub filled_more : (xs : List Node) (i : ℕ) (e : Node) → xs ≡ filled i → i < length ys → e ≡ g i → set xs i e ≡ filled (i + 1)
  filled_more xs i e x l s = rw (x, length-table i g, length-table (i + 1) g) (written-more g i e ys l s)
