-- Laws of regional maxima: those of an opening qualify, and the opening of f is the lightest plate that is nowhere lighter than f and whose regional
-- maxima all qualify; the test `maximum`.
use mathlib.Core.Path.{◌≡◌, sym, ◌∙◌}
use mathlib.Core.Logic.{inl, inr}
use mathlib.Core.Bool.{Bool, not, ◌&&◌}
use Prim.Native.Nat.{ℕ, ◌≤◌, ◌<◌}
use native.Mathlib.Nat.{le_refl}
use native.Mathlib.Decide.{dec_le}
use native.Mathlib.Omega.{arith}
use lib.Dec.{T, T_not, not_T, leb, leb→le, eqb, eqb→eq, eqb_refl}
use Rattle.meaning.specs.Maxima.{MaximaKept, Maximum, alike, flat_zone, maximum}
use Rattle.meaning.specs.Opening.{Criterion, lighter, opened_at, patch}
use Rattle.meaning.specs.Paths.{Grid, Joined, here, step}
use Rattle.meaning.specs.Plate.{Below}
use Rattle.meaning.specs.Sets.{Within, has, most, some}
use Rattle.theory_lists.specs.Members.{Top}
use Rattle.theory_connectivity.proofs.Component.{component_complete, component_sound}
use Rattle.theory_connectivity.proofs.Paths.{along, end_below, end_ok, joined_mono, joined_trans}
use Rattle.theory_lists.proofs.Sets.{some_elim, some_intro, top}
use Rattle.theory_lists.proofs.Tests.{choice, orders, tests}
use Rattle.theory_opening.proofs.Opening.{joined-patch, opened_kept, opened_least, patch-joined, patch_mono, patch-same}

-- a grey equal to that of p passes the test of p's flat zone
alike_eq : (g : ℕ → ℕ) (p q : ℕ) → g q ≡ g p → T (alike g p q)
alike_eq g p q e = rw e (eqb_refl (g p))

-- a flat zone is what paths over pixels of its grey reach
pub zone_joined : {n : ℕ} {near : ℕ → ℕ → Bool} (g : ℕ → ℕ) (p q : ℕ) → q < n → T (has (flat_zone n near g p) q) → Joined n near (alike g p) p q
unfolding flat_zone
zone_joined {n} {near} g p = component_sound n near (alike g p) p

pub joined_zone : {n : ℕ} {near : ℕ → ℕ → Bool} (g : ℕ → ℕ) (p q : ℕ) → Joined n near (alike g p) p q → T (has (flat_zone n near g p) q)
unfolding flat_zone
joined_zone {n} {near} g p = component_complete n near (alike g p) p

module _ {n : ℕ} {near : ℕ → ℕ → Bool} {keep : (ℕ → Bool) → Bool} (grid : Grid n near) (crit : Criterion n keep) where
  -- ---- the regional maxima of the opening are kept

  module _ (f : ℕ → ℕ) where
    abbrev g : ℕ → ℕ
    g = opened_at n near keep f

    -- all of the patch of p at p's grey in the opening is as light in the opening
    patch_light : (p : ℕ) → p < n → (q : ℕ) → Joined n near (lighter f (g p)) p q → g p ≤ g q
    patch_light p l q j =
        opened_least grid crit f (g p) q (leb→le (g p) (f q) (end_ok j))
        (crit.increasing (has (patch n near f (g p) p)) (has (patch n near f (g p) q))
        (patch-same grid f (g p) p q j)
        (opened_kept grid crit f (g p) p l (le_refl (g p))))

    -- from a regional maximum no path leads out
    patch_in_zone : (p : ℕ) → p < n → Maximum n near g p → Within n (has (patch n near f (g p) p)) (has (flat_zone n near g p))
    patch_in_zone p l m q k h =
        along (λ (a : ℕ). T (has (flat_zone n near g p) a))
        (joined_zone g p p (here l (eqb_refl (g p))))
        (λ a b i z u lb ok. elim (choice (has (flat_zone n near g p) b)) [
          | inl t ↦ t
          | inr e ↦
              let dark : g b < g p = m a b (end_below i) lb z u e in
              let light : g p ≤ g b = patch_light p l b (step i u lb ok) in
              absurd (omega arith)
        ])
        (patch-joined grid f (g p) p q k h)

    pub maxima_kept : MaximaKept n near keep g
    maxima_kept p l m =
        crit.increasing (has (patch n near f (g p) p)) (has (flat_zone n near g p)) (patch_in_zone p l m)
        (opened_kept grid crit f (g p) p l (le_refl (g p)))

  -- ---- no lighter picture has that property

  module _ (h : ℕ → ℕ) (p : ℕ) (l : p < n) where
    -- the patch of p at its own grey
    abbrev own : ℕ → Bool
    own = has (patch n near h (h p) p)

    -- a lightest pixel of it
    peak : Top n own h
    peak = top n own h p l (joined-patch grid h (h p) p p (here l (omega orders)))

    peak_joined : Joined n near (lighter h (h p)) p peak.at
    peak_joined = patch-joined grid h (h p) p peak.at peak.below peak.member

    peak_light : h p ≤ h peak.at
    peak_light = leb→le (h p) (h peak.at) (end_ok peak_joined)

    -- its flat zone lies in the patch
    zone_own : (q : ℕ) → Joined n near (alike h peak.at) peak.at q → Joined n near (lighter h (h p)) p q
    zone_own q j =
        joined_trans peak_joined
        (joined_mono (lighter h (h p))
        (λ r i t. let e : h r ≡ h peak.at = eqb→eq (h r) (h peak.at) t in omega (orders, peak_light)) j)

    -- and is a regional maximum
    peak_maximum : Maximum n near h peak.at
    peak_maximum a b la lb za u out = elim (dec_le (h peak.at) (h b)) [
      | yes k ↦
          let ja : Joined n near (alike h peak.at) peak.at a = zone_joined h peak.at a la za in
          let inside : T (own b) = joined-patch grid h (h p) p b (step (zone_own a ja) u lb (omega (orders, peak_light))) in
          let e : h b ≡ h peak.at = omega (arith, peak.most b lb inside) in
          absurd (out (joined_zone h peak.at b (step ja u lb (alike_eq h peak.at b e))))
      | no k ↦ omega arith
    ]

    own_kept : MaximaKept n near keep h → T (keep own)
    own_kept m =
        crit.increasing (has (flat_zone n near h peak.at)) own
        (λ q i z. joined-patch grid h (h p) p q (zone_own q (zone_joined h peak.at q i z)))
        (m peak.at peak.below peak_maximum)

  pub opened-lightest : (f h : ℕ → ℕ) → Below n h f → MaximaKept n near keep h → Below n h (opened_at n near keep f)
  opened-lightest f h w m p l =
      opened_least grid crit f (h p) p (w p l)
      (crit.increasing (own h p l) (has (patch n near f (h p) p))
      (patch_mono grid h f (h p) (h p) p (λ q i t. omega (orders, w q i)))
      (own_kept h p l m))

-- ---- only the greys of the grid's pixels count

zone_cong : {n : ℕ} (near : ℕ → ℕ → Bool) (g g' : ℕ → ℕ) → ((q : ℕ) → q < n → g q ≡ g' q) → (p : ℕ) → p < n
    → Within n (has (flat_zone n near g p)) (has (flat_zone n near g' p))
zone_cong near g g' e p l q lq t =
    joined_zone g' p q (joined_mono (alike g' p) (λ r i u. alike_eq g' p r (sym (e r i) ∙ eqb→eq (g r) (g p) u ∙ e p l)) (zone_joined g p q lq t))

pub maxima_cong : {n : ℕ} (near : ℕ → ℕ → Bool) {keep : (ℕ → Bool) → Bool} → Criterion n keep → (g g' : ℕ → ℕ) → ((q : ℕ) → q < n → g q ≡ g' q)
    → MaximaKept n near keep g → MaximaKept n near keep g'
maxima_cong {n} near crit g g' e kept p l m =
    crit.increasing (has (flat_zone n near g p)) (has (flat_zone n near g' p)) (zone_cong near g g' e p l)
    (kept p l (λ q r lq lr z u out.
    let dark : g' r < g' p = m q r lq lr (zone_cong near g g' e p l q lq z) u (λ t. out (zone_cong near g' g (λ a b. sym (e a b)) p l r lr t)) in
    omega (arith, e r lr, e p l)))

-- ---- a test that computes

module _ (n : ℕ) (near : ℕ → ℕ → Bool) (g : ℕ → ℕ) (p : ℕ) where
  abbrev zone : ℕ → Bool
  zone = has (flat_zone n near g p)

  abbrev light : ℕ → Bool
  light r = not (zone r) && leb (g p) (g r)

  abbrev leaks : ℕ → Bool
  leaks q = zone q && some n (λ (r : ℕ). near q r && light r)

  leak : (q r : ℕ) → q < n → r < n → T (zone q) → T (near q r) → (T (zone r) → ⊥) → g p ≤ g r → T (some n leaks)
  leak q r lq lr z u out h =
      let outside : T (not (zone r)) = not_T (zone r) out in
      let lit : T (leb (g p) (g r)) = omega orders in
      let one : T (some n (λ (r : ℕ). near q r && light r)) = some_intro n (λ (r : ℕ). near q r && light r) r lr (search tests) in
      some_intro n leaks q lq (search tests)

  pub maximum_sound : T (maximum n near g p) → Maximum n near g p
  unfolding maximum
  maximum_sound t q r lq lr z u out = elim (dec_le (g p) (g r)) [
    | yes h ↦ absurd (T_not (some n leaks) t (leak q r lq lr z u out h))
    | no h ↦ omega arith
  ]

  pub maximum_complete : Maximum n near g p → T (maximum n near g p)
  unfolding maximum
  maximum_complete m = not_T (some n leaks) (λ s.
      let a = some_elim n leaks s in
      let q : ℕ = a.0 in
      let b = some_elim n (λ (r : ℕ). near q r && light r) (search tests) in
      let r : ℕ = b.0 in
      let dark : g r < g p = m q r a.1 b.1 (search tests) (search tests) (T_not (zone r) (search tests)) in
      let lit : T (leb (g p) (g r)) = search tests in
      omega orders)
