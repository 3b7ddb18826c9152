-- An opening makes no new grey: the opened value of p is the grey of a pixel of p's patch at that value.
use mathlib.Core.Path.{◌≡◌}
use mathlib.Core.Logic.{◌⊎◌, inl, inr}
use mathlib.Core.Bool.{Bool, ◌&&◌}
use Prim.Native.Nat.{ℕ, suc, ◌≤◌, ◌<◌}
use native.Mathlib.Nat.{le_refl}
use native.Mathlib.Omega.{arith}
use lib.Dec.{T, eqb, eqb→eq, eqb_refl}
use Rattle.meaning.specs.Opening.{Criterion, lighter, opened_at, patch}
use Rattle.meaning.specs.Paths.{Grid, Joined, here}
use Rattle.meaning.specs.Sets.{Within, has, some}
use Rattle.theory_connectivity.proofs.Paths.{end_below, end_ok, joined_within}
use Rattle.theory_lists.proofs.Sets.{some_elim, some_intro}
use Rattle.theory_lists.proofs.Tests.{both, choice, orders, tests}
use Rattle.theory_opening.proofs.Opening.{joined-patch, opened_below, opened_kept, opened_least, patch-joined}
use Rattle.theory_tree.specs.Tree.{Hit}

module _ {n : ℕ} {near : ℕ → ℕ → Bool} {keep : (ℕ → Bool) → Bool} (grid : Grid n near) (crit : Criterion n keep) (f : ℕ → ℕ) where
  -- a patch with no pixel of its own level is the patch one level up
  lift_patch : (t p : ℕ) → ((q : ℕ) → Joined n near (lighter f t) p q → f q ≡ t → ⊥)
      → Within n (has (patch n near f t p)) (has (patch n near f (suc t) p))
  lift_patch t p e q l m =
      joined-patch grid f (suc t) p q
      (joined_within (lighter f (suc t))
      (λ r j. let ne : f r ≡ t → ⊥ = e r j in omega (orders, end_ok j))
      (patch-joined grid f t p q l m))

  -- the opening's grey at p is the grey of a pixel of p's patch: an opening makes no new grey
  pub opened_hit : (p : ℕ) → p < n → Hit n near f (opened_at n near keep f p) p
  opened_hit p l = go (choice (some n at_level))
    where
      t : ℕ
      t = opened_at n near keep f p

      c : ℕ → Bool
      c = has (patch n near f t p)

      at_level : ℕ → Bool
      at_level q = c q && eqb (f q) t

      go : T (some n at_level) ⊎ (T (some n at_level) → ⊥) → Hit n near f t p
      go (inl s) =
          let r = some_elim n at_level s in
          record {
            at = r.0;
            joined = patch-joined grid f t p r.0 r.1 (search tests);
            level = eqb→eq (f r.0) t (search tests);
          }
      go (inr none) =
          let below : t ≤ f p = opened_below grid crit f p in
          let e : (q : ℕ) → Joined n near (lighter f t) p q → f q ≡ t → ⊥ =
          λ q j u. none (some_intro n at_level q (end_below j) (both (c q) (eqb (f q) t) (joined-patch grid f t p q j) (rw u (eqb_refl t)))) in
          let ne : f p ≡ t → ⊥ = e p (here l (omega orders)) in
          let more : suc t ≤ t =
          opened_least grid crit f (suc t) p (omega arith)
          (crit.increasing c (has (patch n near f (suc t) p)) (lift_patch t p e) (opened_kept grid crit f t p l (le_refl t))) in
          absurd (omega arith)
