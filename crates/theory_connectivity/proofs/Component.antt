-- The component of a pixel, computed: the set is grown from the pixel, by all that is near to it and passes, until nothing is added.
-- n rounds are enough.
-- Proved: a pixel is in the computed component if and only if a path joins it to p (component-sound, component-complete); tests that agree below n have
-- one component, as lists (component-same).
use mathlib.Core.Path.{◌≡◌, refl, sym, ap, ◌∙◌}
use mathlib.Core.Logic.{◌⊎◌, inl, inr, ◌↔◌}
use mathlib.Core.Bool.{Bool, true, false, ◌&&◌, ◌||◌}
use mathlib.Core.List.{List, [], ◌∷◌}
use Prim.Native.Nat.{ℕ, zero, suc, ◌≤◌, ◌<◌}
use native.Mathlib.Omega.{arith}
use lib.Dec.{T, eqb, eqb→eq, eqb_refl}
use Rattle.meaning.specs.Component.{alone, component, grown, same, settle}
use Rattle.meaning.specs.Paths.{Joined, here, step}
use Rattle.meaning.specs.Sets.{Within, area, has, pick, some, table}
use Rattle.theory_lists.proofs.Lists.{get_d_table, table_same}
use Rattle.theory_connectivity.proofs.Paths.{along, end_below, start_below, start_ok}
use Rattle.theory_lists.proofs.Sets.{area_full, area_grows, some_elim, some_intro}
use Rattle.theory_lists.proofs.Tests.{either_cases, tests}

-- ---- to stop where nothing changes is to go on for all k times

-- f, k times over
times : ℕ → (List Bool → List Bool) → List Bool → List Bool
times zero f s = s
times (suc k) f s = f (times k f s)

same_eq : (s s' : List Bool) → T (same s s') → s ≡ s'
unfolding same
same_eq [] [] t = refl
same_eq [] (y ∷ ys) t = absurd t
same_eq (x ∷ xs) [] t = absurd t
same_eq (true ∷ xs) (true ∷ ys) t = ap (λ (l : List Bool). true ∷ l) (same_eq xs ys t)
same_eq (true ∷ xs) (false ∷ ys) t = absurd t
same_eq (false ∷ xs) (true ∷ ys) t = absurd t
same_eq (false ∷ xs) (false ∷ ys) t = ap (λ (l : List Bool). false ∷ l) (same_eq xs ys t)

-- the first time may be taken first
times_first : (k : ℕ) (f : List Bool → List Bool) (s : List Bool) → times k f (f s) ≡ f (times k f s)
unfolding times
times_first zero f s = refl
times_first (suc k) f s = ap f (times_first k f s)

times_still : (k : ℕ) (f : List Bool → List Bool) (s : List Bool) → s ≡ f s → times k f s ≡ s
unfolding times
times_still zero f s e = refl
times_still (suc k) f s e = ap f (times_still k f s e) ∙ sym e

settle_times : (k : ℕ) (f : List Bool → List Bool) (s : List Bool) → settle k f s ≡ times k f s
unfolding settle times
settle_times zero f s = refl
settle_times (suc k) f s = go (same s (f s)) (same_eq s (f s)) (settle_times k f (f s) ∙ times_first k f s)
  where
    go : (b : Bool) → (T b → s ≡ f s) → settle k f (f s) ≡ f (times k f s) → pick b s (settle k f (f s)) ≡ f (times k f s)
    go true e ih = sym (times_still (suc k) f s (e tt))
    go false e ih = ih

-- a table, read as a set, has what passes its test
has-table : (n : ℕ) (f : ℕ → Bool) (q : ℕ) → q < n → T (has (table n f) q) ↔ T (f q)
has-table n f q l = (λ t. rw (get_d_table n f q false l) at t, λ t. rw (get_d_table n f q false l) t)

module _ (n : ℕ) (near : ℕ → ℕ → Bool) (ok : ℕ → Bool) where
  -- ---- one round

  -- q passes and is near to a member of s
  abbrev touches : List Bool → ℕ → Bool
  touches s q = some n (λ (r : ℕ). has s r && near r q)

  grown-has : (s : List Bool) (q : ℕ) → q < n → T (has (grown n near ok s) q) ↔ T (has s q || (ok q && touches s q))
  unfolding grown
  grown-has s = has-table n (λ (q : ℕ). has s q || (ok q && touches s q))

  grown_keeps : (s : List Bool) → Within n (has s) (has (grown n near ok s))
  grown_keeps s q l t = (grown-has s q l).1 (search tests)

  grown_adds : (s : List Bool) (r q : ℕ) → r < n → q < n → T (has s r) → T (near r q) → T (ok q) → T (has (grown n near ok s) q)
  grown_adds s r q lr lq t h k =
      let new : T (touches s q) = some_intro n (λ (r : ℕ). has s r && near r q) r lr (search tests) in
      (grown-has s q lq).1 (search tests)

  -- a pixel that a round adds passes, and is near to a member
  record Added (s : List Bool) (q : ℕ) : Type 0 where
    from : ℕ
    below : from < n
    member : T (has s from)
    touch : T (near from q)
    passes : T (ok q)

  grown-cases : (s : List Bool) (q : ℕ) → q < n → T (has (grown n near ok s) q) → T (has s q) ⊎ Added s q
  grown-cases s q l t = elim (either_cases (has s q) (ok q && touches s q) ((grown-has s q l).0 t)) [
    | inl a ↦ inl a
    | inr b ↦ inr (added b)
  ]
    where
      added : T (ok q && touches s q) → Added s q
      added b =
          let r = some_elim n (λ (r : ℕ). has s r && near r q) (search tests) in
          record {
            from = r.0;
            below = r.1;
            member = search tests;
            touch = search tests;
            passes = search tests;
          }

  grown_mono : (s s' : List Bool) → Within n (has s) (has s') → Within n (has (grown n near ok s)) (has (grown n near ok s'))
  grown_mono s s' w q l t = elim (grown-cases s q l t) [
    | inl a ↦ grown_keeps s' q l (w q l a)
    | inr b ↦ grown_adds s' b.from q b.below l (w b.from b.below b.member) b.touch b.passes
  ]

  -- ---- the rounds from p

  module _ (p : ℕ) where
    -- the set after k rounds
    round : ℕ → List Bool
    unfolding times
    round k = times k (grown n near ok) (alone n ok p)

    -- one round more
    next : ℕ → List Bool
    next k = grown n near ok (round k)

    -- k rounds have stopped growing, or have found k pixels
    settles : (k : ℕ) → Within n (has (next k)) (has (round k)) ⊎ (k ≤ area n (has (round k)))
    unfolding round next
    settles zero = inr (omega arith)
    settles (suc k) = go (settles k)
      where
        go : Within n (has (next k)) (has (round k)) ⊎ (k ≤ area n (has (round k)))
            → Within n (has (next (suc k))) (has (next k)) ⊎ (suc k ≤ area n (has (next k)))
        go (inl w) = inl (grown_mono (next k) (round k) w)
        go (inr l) = elim (area_grows n (has (round k)) (has (next k)) (grown_keeps (round k))) [
          | inl g ↦ inr (omega arith)
          | inr w ↦ inl (grown_mono (next k) (round k) w)
        ]

    -- so n rounds have stopped growing
    settled : Within n (has (next n)) (has (round n))
    settled = elim (settles n) [
      | inl w ↦ w
      | inr l ↦ λ q h t. area_full n (has (round n)) l q h
    ]

    -- what a round has is joined to p
    sound : (k q : ℕ) → q < n → T (has (round k) q) → Joined n near ok p q
    unfolding round alone
    sound zero q l t =
        let b : T (ok q && eqb p q) = (has-table n (λ (q : ℕ). ok q && eqb p q) q l).0 t in
        let e : p ≡ q = eqb→eq p q (search tests) in
        rw e (here l (search tests))
    sound (suc k) q l t = elim (grown-cases (round k) q l t) [
      | inl a ↦ sound k q l a
      | inr b ↦ step (sound k b.from b.below b.member) b.touch l b.passes
    ]

    -- p is in every round
    starts : p < n → T (ok p) → (k : ℕ) → T (has (round k) p)
    unfolding round alone
    starts l t zero = (has-table n (λ (q : ℕ). ok q && eqb p q) p l).1 (search (tests, eqb_refl))
    starts l t (suc k) = grown_keeps (round k) p l (starts l t k)

    pub component_sound : (q : ℕ) → q < n → T (has (component n near ok p) q) → Joined n near ok p q
    unfolding component round
    component_sound q l t = sound n q l (rw (settle_times n (grown n near ok) (alone n ok p)) at t)

    pub component_complete : (q : ℕ) → Joined n near ok p q → T (has (component n near ok p) q)
    unfolding component round next
    component_complete q j = rw (settle_times n (grown n near ok) (alone n ok p))
        (along (λ (a : ℕ). T (has (round n) a)) (starts (start_below j) (start_ok j) n)
        (λ a b i t h l k. settled b l (grown_adds (round n) a b (end_below i) l t h k)) j)

-- ---- the component depends only on which pixels pass

-- steps that do the same settle at the same
settle-same : (k : ℕ) (f f' : List Bool → List Bool) → ((s : List Bool) → f s ≡ f' s) → (s : List Bool) → settle k f s ≡ settle k f' s
unfolding settle
settle-same zero f f' e s = refl
settle-same (suc k) f f' e s = rw (e s, settle-same k f f' e (f' s))

pub component-same : (n : ℕ) (near : ℕ → ℕ → Bool) (ok ok' : ℕ → Bool) → ((q : ℕ) → q < n → ok q ≡ ok' q)
    → (p : ℕ) → component n near ok p ≡ component n near ok' p
unfolding component grown alone
component-same n near ok ok' e p =
    settle-same n (grown n near ok) (grown n near ok') turn (alone n ok p)
    ∙ ap (settle n (grown n near ok')) (table_same n (λ (q : ℕ). ok q && eqb p q) (λ (q : ℕ). ok' q && eqb p q) (λ q l. rw (e q l)))
  where
    reached : List Bool → ℕ → Bool
    reached s q = some n (λ (r : ℕ). has s r && near r q)

    turn : (s : List Bool) → grown n near ok s ≡ grown n near ok' s
    turn s =
        table_same n (λ (q : ℕ). has s q || (ok q && reached s q)) (λ (q : ℕ). has s q || (ok' q && reached s q)) (λ q l. rw (e q l))
