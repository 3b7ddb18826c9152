-- One opening after another: opening by a criterion and then by a second is opening by both at once (absorption).
use mathlib.Core.Path.{◌≡◌, sym}
use mathlib.Core.Logic.{◌↔◌}
use mathlib.Core.Bool.{Bool, ◌&&◌}
use Prim.Native.Nat.{ℕ, ◌≤◌, ◌<◌}
use native.Mathlib.Nat.{le_refl, le_trans, le_of_eq, le_antisymm}
use lib.Dec.{T, leb→le, le→leb}
use Rattle.meaning.specs.Opening.{Criterion, lighter, opened_at, patch}
use Rattle.meaning.specs.Paths.{Grid}
use Rattle.meaning.specs.Plate.{Below}
use Rattle.meaning.specs.Sets.{Within, has}
use Rattle.theory_connectivity.proofs.Paths.{end_ok, joined_within}
use Rattle.theory_lists.proofs.Sets.{same_below}
use Rattle.theory_lists.proofs.Tests.{both, orders, tests}
use Rattle.theory_opening.specs.Criteria.{both_keep}
use Rattle.theory_opening.proofs.Opening.{joined-patch, opened_below, opened_increasing, opened_kept, opened_least, patch-joined, patch_mono}
use Rattle.theory_opening.proofs.Opening.{patch-same}

pub and_criterion : {n : ℕ} {keep₁ keep₂ : (ℕ → Bool) → Bool} → Criterion n keep₁ → Criterion n keep₂ → Criterion n (both_keep keep₁ keep₂)
and_criterion {keep₁ = keep₁} {keep₂ = keep₂} c d = record {
  increasing = λ s s' w t.
      let t₁ : T (keep₁ s') = c.increasing s s' w (search tests) in
      let t₂ : T (keep₂ s') = d.increasing s s' w (search tests) in
      search tests;
  all = search tests;
}

-- ---- the same picture, and the same criterion, in other words

module _ {n : ℕ} {near : ℕ → ℕ → Bool} {keep : (ℕ → Bool) → Bool} (grid : Grid n near) (crit : Criterion n keep) where
  -- only the greys of the grid's pixels count
  pub opened_cong : (f f' : ℕ → ℕ) → ((q : ℕ) → q < n → f q ≡ f' q) → (p : ℕ) → p < n → opened_at n near keep f p ≡ opened_at n near keep f' p
  opened_cong f f' e p l =
      le_antisymm
      (opened_increasing grid crit f f' (λ q h. le_of_eq (e q h)) p l)
      (opened_increasing grid crit f' f (λ q h. le_of_eq (sym (e q h))) p l)

  -- a criterion that keeps less opens to a darker picture
  pub opened_stricter : {keep' : (ℕ → Bool) → Bool} (crit' : Criterion n keep') → ((s : ℕ → Bool) → T (keep s) → T (keep' s))
      → (f : ℕ → ℕ) → Below n (opened_at n near keep f) (opened_at n near keep' f)
  opened_stricter crit' w f p l =
      let t : ℕ = opened_at n near keep f p in
      opened_least grid crit' f t p (opened_below grid crit f p) (w (has (patch n near f t p)) (opened_kept grid crit f t p l (le_refl t)))

module _ {n : ℕ} {near : ℕ → ℕ → Bool} {keep keep' : (ℕ → Bool) → Bool} (grid : Grid n near) (crit : Criterion n keep) (crit' : Criterion n keep')
  where
    -- criteria that keep the same sets open alike
    pub opened-alike : ((s : ℕ → Bool) → T (keep s) ↔ T (keep' s)) → (f : ℕ → ℕ) (p : ℕ) → p < n
        → opened_at n near keep f p ≡ opened_at n near keep' f p
    opened-alike e f p l =
        le_antisymm (opened_stricter grid crit crit' (λ s. (e s).0) f p l) (opened_stricter grid crit' crit (λ s. (e s).1) f p l)

    -- ---- absorption

    module _ (f : ℕ → ℕ) where
      -- the first opening
      abbrev once : ℕ → ℕ
      once = opened_at n near keep f

      -- a patch that the first opening keeps is a patch of it, unchanged
      patch-stays : (t p : ℕ) → T (keep (has (patch n near f t p))) → Within n (has (patch n near f t p)) (has (patch n near once t p))
      patch-stays t p k q l h =
          joined-patch grid once t p q
          (joined_within (lighter once t)
          (λ r j. le→leb t (once r)
          (opened_least grid crit f t r (leb→le t (f r) (end_ok j))
          (crit.increasing (has (patch n near f t p)) (has (patch n near f t r)) (patch-same grid f t p r j) k)))
          (patch-joined grid f t p q l h))

      patch_shrinks : (t p : ℕ) → Within n (has (patch n near once t p)) (has (patch n near f t p))
      patch_shrinks t p = patch_mono grid once f t t p (λ q l u. omega (orders, opened_below grid crit f q))

      abbrev twice : ℕ → ℕ
      twice = opened_at n near keep' once

      abbrev joint : ℕ → ℕ
      joint = opened_at n near (both_keep keep keep') f

      twice_joint : (t p : ℕ) → p < n → t ≤ twice p → t ≤ joint p
      twice_joint t p l h =
          let h₁ : t ≤ once p = le_trans h (opened_below grid crit' once p) in
          opened_least grid (and_criterion crit crit') f t p (le_trans h₁ (opened_below grid crit f p))
          (both (keep (has (patch n near f t p))) (keep' (has (patch n near f t p)))
          (opened_kept grid crit f t p l h₁)
          (crit'.increasing (has (patch n near once t p)) (has (patch n near f t p)) (patch_shrinks t p) (opened_kept grid crit' once t p l h)))

      joint_twice : (t p : ℕ) → p < n → t ≤ joint p → t ≤ twice p
      joint_twice t p l h =
          let a : ℕ → Bool = has (patch n near f t p) in
          let k : T (keep a && keep' a) = opened_kept grid (and_criterion crit crit') f t p l h in
          let k₁ : T (keep a) = search tests in
          opened_least grid crit' once t p
          (opened_least grid crit f t p (le_trans h (opened_below grid (and_criterion crit crit') f p)) k₁)
          (crit'.increasing a (has (patch n near once t p)) (patch-stays t p k₁) (search tests))

      pub opened_twice : (p : ℕ) → p < n → opened_at n near keep' (opened_at n near keep f) p ≡ opened_at n near (both_keep keep keep') f p
      opened_twice p l = same_below (twice p) (joint p) (λ t. (twice_joint t p l, joint_twice t p l))
