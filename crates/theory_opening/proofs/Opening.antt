-- Laws of openings by an increasing criterion: the opened value in the specification's words, and openings are increasing.
use mathlib.Core.Logic.{◌↔◌}
use mathlib.Core.Bool.{Bool, true}
use Prim.Native.Nat.{ℕ, ◌≤◌, ◌<◌}
use native.Mathlib.Nat.{le_trans}
use lib.Dec.{T, leb, leb→le}
use Rattle.meaning.specs.Opening.{Criterion, Qualifying, lighter, opened_at, patch}
use Rattle.meaning.specs.Paths.{Grid, Joined, here}
use Rattle.meaning.specs.Plate.{Below}
use Rattle.meaning.specs.Sets.{Within, has}
use Rattle.theory_connectivity.proofs.Component.{component_complete, component_sound}
use Rattle.theory_connectivity.proofs.Paths.{end_ok, joined_mono, joined-sym, joined_trans, joined_within}
use Rattle.theory_lists.proofs.Sets.{greatest_good, greatest_le, greatest-most}
use Rattle.theory_lists.proofs.Tests.{orders}

-- ---- patches

module _ {n : ℕ} {near : ℕ → ℕ → Bool} (grid : Grid n near) where
  pub patch-joined : (f : ℕ → ℕ) (t p q : ℕ) → q < n → T (has (patch n near f t p) q) → Joined n near (lighter f t) p q
  unfolding patch
  patch-joined f t p q l = component_sound n near (lighter f t) p q l

  pub joined-patch : (f : ℕ → ℕ) (t p q : ℕ) → Joined n near (lighter f t) p q → T (has (patch n near f t p) q)
  unfolding patch
  joined-patch f t p q = component_complete n near (lighter f t) p q

  -- more pixels that pass, a larger patch
  pub patch_mono : (f f' : ℕ → ℕ) (t t' p : ℕ) → Within n (lighter f t) (lighter f' t')
      → Within n (has (patch n near f t p)) (has (patch n near f' t' p))
  patch_mono f f' t t' p w q l h = joined-patch f' t' p q (joined_mono (lighter f' t') w (patch-joined f t p q l h))

  -- joined pixels have the same patch
  pub patch-same : (f : ℕ → ℕ) (t p q : ℕ) → Joined n near (lighter f t) p q
      → Within n (has (patch n near f t p)) (has (patch n near f t q))
  patch-same f t p q j r l h = joined-patch f t q r (joined_trans (joined-sym grid.back j) (patch-joined f t p r l h))

  -- a path stays within the patch of its start
  pub patch_path : (f : ℕ → ℕ) (t p q : ℕ) → Joined n near (lighter f t) p q → Joined n near (has (patch n near f t p)) p q
  patch_path f t p q = joined_within (has (patch n near f t p)) (joined-patch f t p)

-- ---- the opening

module _ {n : ℕ} {near : ℕ → ℕ → Bool} {keep : (ℕ → Bool) → Bool} (grid : Grid n near) (crit : Criterion n keep) where
  -- at 0 the patch is the whole grid
  kept_zero : (f : ℕ → ℕ) (p : ℕ) → p < n → T (keep (has (patch n near f 0 p)))
  kept_zero f p l =
      crit.increasing (λ q. true) (has (patch n near f 0 p))
      (λ q h t. joined-patch grid f 0 p q (joined_mono (lighter f 0) (λ r i u. omega orders) (grid.whole p q l h)))
      crit.all

  -- the opening's grey at p is the greatest t that is at most f's grey and at which the patch is kept:
  -- each such t is at most the opening's grey (opened-least), that grey is at most f's (opened-below), and up to it every patch is kept (opened-kept)
  pub opened_least : (f : ℕ → ℕ) (t p : ℕ) → t ≤ f p → T (keep (has (patch n near f t p))) → t ≤ opened_at n near keep f p
  unfolding opened_at
  opened_least f t p = greatest-most (λ (t : ℕ). keep (has (patch n near f t p))) (f p) t

  pub opened_below : (f : ℕ → ℕ) (p : ℕ) → opened_at n near keep f p ≤ f p
  unfolding opened_at
  opened_below f p = greatest_le (λ (t : ℕ). keep (has (patch n near f t p))) (f p)

  kept_opened : (f : ℕ → ℕ) (p : ℕ) → p < n → T (keep (has (patch n near f (opened_at n near keep f p) p)))
  unfolding opened_at
  kept_opened f p l = greatest_good (λ (t : ℕ). keep (has (patch n near f t p))) (f p) (kept_zero f p l)

  pub opened_kept : (f : ℕ → ℕ) (t p : ℕ) → p < n → t ≤ opened_at n near keep f p → T (keep (has (patch n near f t p)))
  opened_kept f t p l h =
      crit.increasing (has (patch n near f (opened_at n near keep f p) p)) (has (patch n near f t p))
      (patch_mono grid f f (opened_at n near keep f p) t p (λ q i u. omega orders))
      (kept_opened f p l)

  -- ---- the specification's words: some qualifying connected set holds p and has no grey below t exactly when t is at most the opened value

  pub qualifying_opened : (f : ℕ → ℕ) (t p : ℕ) → p < n → Qualifying n near keep f t p → t ≤ opened_at n near keep f p
  qualifying_opened f t p l s =
      opened_least f t p (s.light p l s.holds)
      (crit.increasing s.set (has (patch n near f t p))
      (λ q h m. joined-patch grid f t p q
      (joined_mono (lighter f t) (λ r i u. omega (orders, s.light r i u)) (s.connected p q l h s.holds m)))
      s.kept)

  pub opened_qualifying : (f : ℕ → ℕ) (t p : ℕ) → p < n → t ≤ opened_at n near keep f p → Qualifying n near keep f t p
  opened_qualifying f t p l h =
      let self : Joined n near (lighter f t) p p = here l (omega (orders, opened_below f p)) in
      record {
        set = has (patch n near f t p);
        holds = joined-patch grid f t p p self;
        kept = opened_kept f t p l h;
        light = λ q i m. leb→le t (f q) (end_ok (patch-joined grid f t p q i m));
        connected = λ a b i k u v.
            joined_trans
            (joined-sym grid.back (patch_path grid f t p a (patch-joined grid f t p a i u)))
            (patch_path grid f t p b (patch-joined grid f t p b k v));
      }

  pub opened-words : (f : ℕ → ℕ) (t p : ℕ) → p < n → Qualifying n near keep f t p ↔ t ≤ opened_at n near keep f p
  opened-words f t p l = (qualifying_opened f t p l, opened_qualifying f t p l)

  -- ---- increasing: a lighter picture has a lighter opening

  pub opened_increasing : (f f' : ℕ → ℕ) → Below n f f' → Below n (opened_at n near keep f) (opened_at n near keep f')
  opened_increasing f f' w p l =
      let t : ℕ = opened_at n near keep f p in
      opened_least f' t p (le_trans (opened_below f p) (w p l))
      (crit.increasing (has (patch n near f t p)) (has (patch n near f' t p))
      (patch_mono grid f f' t t p (λ q i u. omega (orders, w q i)))
      (kept_opened f p l))
