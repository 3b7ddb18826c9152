-- The cut of the numbered nodes by climbing: an opening's grey at p is that at its own node's anchor (cut-own), at a kept node it is the node's level
-- (cut-kept), and at another its parent's (cut-parent); node 0 is kept (cut-root). So a climb finds a node's grey.
use mathlib.Core.Path.{◌≡◌, sym}
use mathlib.Core.Bool.{Bool, true}
use mathlib.Core.List.{List}
use Prim.Native.Nat.{ℕ, ◌<◌}
use lib.Dec.{T}
use lib.ListN.{length}
use Rattle.meaning.specs.Nodes.{holds, own, parent}
use Rattle.meaning.specs.Opening.{Criterion, opened_at}
use Rattle.meaning.specs.Paths.{Grid}
use Rattle.meaning.specs.Sets.{nth}
use Rattle.theory_tree.specs.Tree.{Nodes}
use Rattle.theory_tree.proofs.Climb.{climb_kept, climb_parent, climb_same}
use Rattle.theory_tree.proofs.Nodes.{over_holds, own_level, own_over, parent_parent, root_over}

module _ {n : ℕ} {near : ℕ → ℕ → Bool} {keep : (ℕ → Bool) → Bool} (grid : Grid n near) (crit : Criterion n keep)
    {f : ℕ → ℕ} {xs : List ℕ} (nodes : Nodes n near f xs) where
  pub cut_own : (p : ℕ) → p < n → opened_at n near keep f p ≡ opened_at n near keep f (nth xs (own n near f xs p))
  cut_own p l = sym (climb_same grid crit f (nth xs (own n near f xs p)) p (own_over grid nodes p l) (sym (own_level grid nodes p l)))

  pub cut_kept : (i : ℕ) → T (keep (holds n near f xs i)) → opened_at n near keep f (nth xs i) ≡ f (nth xs i)
  unfolding holds
  cut_kept i k = climb_kept grid crit f (nth xs i) k

  pub cut-root : T (keep (holds n near f xs 0))
  cut-root = crit.increasing (λ q. true) (holds n near f xs 0) (λ q m t. over_holds grid nodes 0 q (root_over grid nodes q m)) crit.all

  pub cut_parent : (i : ℕ) → 0 < i → i < length xs → (T (keep (holds n near f xs i)) → ⊥)
      → opened_at n near keep f (nth xs i) ≡ opened_at n near keep f (nth xs (parent n near f xs i))
  unfolding holds
  cut_parent i h l none = climb_parent grid crit f (nth xs i) (nth xs (parent n near f xs i)) (parent_parent grid nodes i h l) none
