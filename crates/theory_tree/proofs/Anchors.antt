-- Laws of anchors: p's node and its anchor's node are one; two pixels of one grey are in one node exactly when their anchors are equal; the list of
-- the anchors has every anchor.
use mathlib.Core.Path.{◌≡◌, refl, sym, ◌∙◌}
use mathlib.Core.Bool.{Bool, ◌&&◌}
use Prim.Native.Nat.{ℕ, suc, ◌≤◌, ◌<◌}
use native.Mathlib.Omega.{arith}
use lib.Dec.{T, eqb, eqb→eq, eqb_refl}
use Rattle.meaning.specs.Nodes.{anchor, anchors, node}
use Rattle.meaning.specs.Opening.{lighter, patch}
use Rattle.meaning.specs.Paths.{Grid, Joined, here}
use Rattle.meaning.specs.Sets.{Within, elem, has, rising}
use Rattle.theory_lists.proofs.Lists.{elem-gather, elem-rising}
use Rattle.theory_connectivity.proofs.Paths.{end_below, joined-sym, joined_trans}
use Rattle.theory_lists.proofs.Sets.{lowest_below, lowest-is, lowest_passes, lowest-same, top}
use Rattle.theory_lists.proofs.Tests.{both, orders, tests}
use Rattle.theory_opening.proofs.Opening.{joined-patch, patch-joined}

-- the pixels of p's node that are of the node's own level
unfoldable ground : ℕ → (ℕ → ℕ → Bool) → (ℕ → ℕ) → ℕ → ℕ → Bool
unfolding node
ground n near f p = let c = node n near f p in λ (q : ℕ). has c q && eqb (f q) (f p)

-- ---- anchors

module _ {n : ℕ} {near : ℕ → ℕ → Bool} (grid : Grid n near) (f : ℕ → ℕ) where
  ground_intro : (p q : ℕ) → Joined n near (lighter f (f p)) p q → f q ≡ f p → T (ground n near f p q)
  unfolding ground node
  ground_intro p q j e = both (has (patch n near f (f p) p) q) (eqb (f q) (f p)) (joined-patch grid f (f p) p q j) (rw e (eqb_refl (f p)))

  ground_joined : (p q : ℕ) → q < n → T (ground n near f p q) → Joined n near (lighter f (f p)) p q
  unfolding ground node
  ground_joined p q l t = patch-joined grid f (f p) p q l (search tests)

  ground_level : (p q : ℕ) → T (ground n near f p q) → f q ≡ f p
  unfolding ground node
  ground_level p q t = eqb→eq (f q) (f p) (search tests)

  self : (p : ℕ) → p < n → T (ground n near f p p)
  self p l = ground_intro p p (here l (omega orders)) refl

  pub anchor_below : (p : ℕ) → p < n → anchor n near f p < n
  unfolding anchor ground
  anchor_below p l = lowest_below n (ground n near f p) p l (self p l)

  anchor_ground : (p : ℕ) → p < n → T (ground n near f p (anchor n near f p))
  unfolding anchor ground
  anchor_ground p l = lowest_passes n (ground n near f p) p l (self p l)

  pub anchor-joined : (p : ℕ) → p < n → Joined n near (lighter f (f p)) p (anchor n near f p)
  anchor-joined p l = ground_joined p (anchor n near f p) (anchor_below p l) (anchor_ground p l)

  pub anchor_level : (p : ℕ) → p < n → f (anchor n near f p) ≡ f p
  anchor_level p l = ground_level p (anchor n near f p) (anchor_ground p l)

  -- no pixel of the node's own level in it is lower
  pub anchor_least : (p q : ℕ) → Joined n near (lighter f (f p)) p q → f q ≡ f p → anchor n near f p ≤ q
  unfolding anchor ground
  anchor_least p q j e = (lowest-is n (ground n near f p)).least q (end_below j) (ground_intro p q j e)

  -- pixels of one grey that are joined at it have one ground
  ground_within : (p q : ℕ) → Joined n near (lighter f (f p)) p q → f q ≡ f p → Within n (ground n near f p) (ground n near f q)
  ground_within p q j e r l t =
      ground_intro q r
      (rw e (joined_trans (joined-sym grid.back j) (ground_joined p r l t)))
      (ground_level p r t ∙ sym e)

  -- so they have one anchor
  pub anchor-same : (p q : ℕ) → Joined n near (lighter f (f p)) p q → f q ≡ f p → anchor n near f p ≡ anchor n near f q
  unfolding anchor ground
  anchor-same p q j e =
      lowest-same n (ground n near f p) (ground n near f q) (ground_within p q j e)
      (ground_within q p (rw e (joined-sym grid.back j)) (sym e))

  pub anchor_idempotent : (p : ℕ) → p < n → anchor n near f (anchor n near f p) ≡ anchor n near f p
  anchor_idempotent p l = sym (anchor-same p (anchor n near f p) (anchor-joined p l) (anchor_level p l))

  -- every anchor is in the list
  pub anchors_all : (m : ℕ) → ((q : ℕ) → q < n → f q ≤ m) → (p : ℕ) → p < n → T (elem (anchors m n near f) (anchor n near f p))
  unfolding anchors
  anchors_all m top p l =
      let a : ℕ = anchor n near f p in
      elem-gather (suc m) (λ (t : ℕ). rising n (λ (p : ℕ). eqb (f p) t && eqb (anchor n near f p) p)) a (f a) (omega (arith, top a (anchor_below p l)))
      (elem-rising n (λ (p : ℕ). eqb (f p) (f a) && eqb (anchor n near f p) p) a (anchor_below p l)
      (both (eqb (f a) (f a)) (eqb (anchor n near f a) a) (eqb_refl (f a)) (rw (anchor_idempotent p l) (eqb_refl a))))
