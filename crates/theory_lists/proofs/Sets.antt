-- Laws of sets of pixels: members below n, areas, the lightest and the lowest member, the greatest number that is good.
use mathlib.Core.Path.{◌≡◌, refl}
use mathlib.Core.Logic.{◌⊎◌, inl, inr, ◌↔◌}
use mathlib.Core.Bool.{Bool, true, false}
use Prim.Native.Nat.{ℕ, zero, suc, ◌+◌, ◌≤◌, ◌<◌}
use native.Mathlib.Nat.{le_antisymm, le_refl, not-suc-le-zero, le_of_suc-le-suc}
use native.Mathlib.Decide.{dec_le, ℕ_discrete}
use native.Mathlib.Omega.{arith}
use lib.Dec.{T}
use Rattle.meaning.specs.Sets.{Within, area, bit, greatest, lowest, most, pick, some}
use Rattle.theory_lists.specs.Members.{Lowest, Top}
use Rattle.theory_lists.proofs.Tests.{bit_no, bit-true, bit-yes, choice, either_cases, tests}

-- ---- numbers below suc n: those below n, and n

pub below_suc {ℓ} : {n : ℕ} (P : ℕ → Type ℓ) → ((q : ℕ) → q < n → P q) → P n → (q : ℕ) → q < suc n → P q
below_suc {n = zero} P f e zero h = e
below_suc {n = zero} P f e (suc q) h = absurd (not-suc-le-zero (le_of_suc-le-suc h))
below_suc {n = suc n} P f e zero h = f zero (omega arith)
below_suc {n = suc n} P f e (suc q) h = below_suc (λ (k : ℕ). P (suc k)) (λ k l. f (suc k) (omega arith)) e q (le_of_suc-le-suc h)

-- two numbers are equal or not
pub same_or_not : (a b : ℕ) → (a ≡ b) ⊎ (a ≡ b → ⊥)
same_or_not a b = elim (ℕ_discrete a b) [ yes e ↦ inl e | no e ↦ inr e ]

-- ---- is there a member

pub some_intro : (n : ℕ) (f : ℕ → Bool) (q : ℕ) → q < n → T (f q) → T (some n f)
unfolding some
some_intro zero f = λ q h t. absurd (not-suc-le-zero h)
some_intro (suc n) f =
    below_suc (λ (q : ℕ). T (f q) → T (some (suc n) f))
    (λ q h t. let u = some_intro n f q h t in search tests)
    (λ t. search tests)

pub some_elim : (n : ℕ) (f : ℕ → Bool) → T (some n f) → (q : ℕ) × (q < n) × T (f q)
unfolding some
some_elim zero f t = absurd t
some_elim (suc n) f t = elim (either_cases (f n) (some n f) t) [
  | inl a ↦ (n, omega arith, a)
  | inr b ↦ let r = some_elim n f b in (r.0, omega arith, r.2)
]

-- ---- area

bit_le : (a : Bool) → bit a ≤ 1
bit_le true = omega arith
bit_le false = omega arith

bit_mono : (a b : Bool) → (T a → T b) → bit a ≤ bit b
bit_mono true b f = omega (arith, bit-yes b (f tt))
bit_mono false b f = omega arith

-- an inclusion below suc n is one below n
shorten : {n : ℕ} (s s' : ℕ → Bool) → Within (suc n) s s' → Within n s s'
shorten s s' i q h = i q (omega arith)

pub area_mono : (n : ℕ) (s s' : ℕ → Bool) → Within n s s' → area n s ≤ area n s'
unfolding area
area_mono zero s s' i = omega arith
area_mono (suc n) s s' i = omega (arith, area_mono n s s' (shorten s s' i), bit_mono (s n) (s' n) (i n (omega arith)))

pub area_le : (n : ℕ) (s : ℕ → Bool) → area n s ≤ n
unfolding area
area_le zero s = omega arith
area_le (suc n) s = omega (arith, area_le n s, bit_le (s n))

-- a greater bound
pub area_bound_le : (k m : ℕ) (s : ℕ → Bool) → k ≤ m → area k s ≤ area m s
unfolding area
area_bound_le k zero s h = let e : k ≡ 0 = omega arith in rw e (omega arith)
area_bound_le k (suc m) s h = elim (dec_le k m) [
  | yes l ↦ omega (arith, area_bound_le k m s l)
  | no l ↦ let e : k ≡ suc m = omega arith in rw e (omega arith)
]

-- a bound above a member
pub area_bound_less : (k m : ℕ) (s : ℕ → Bool) → k < m → T (s k) → area k s < area m s
unfolding area
area_bound_less k m s h t = omega (arith, bit-yes (s k) t, area_bound_le (suc k) m s h)

-- a set of n members has every number below n
pub area_full : (n : ℕ) (s : ℕ → Bool) → n ≤ area n s → (q : ℕ) → q < n → T (s q)
unfolding area
area_full zero s h = λ q l. absurd (not-suc-le-zero l)
area_full (suc n) s h =
    below_suc (λ (q : ℕ). T (s q))
    (area_full n s (omega (arith, bit_le (s n))))
    (bit-true (s n) (omega (arith, area_le n s)))

pub area_all : (n : ℕ) (s : ℕ → Bool) → ((q : ℕ) → q < n → T (s q)) → area n s ≡ n
unfolding area
area_all zero s f = refl
area_all (suc n) s f = omega (arith, area_all n s (λ q h. f q (omega arith)), bit-yes (s n) (f n (omega arith)))

-- a set that lies within another is smaller, or the two are the same
pub area_grows : (n : ℕ) (s s' : ℕ → Bool) → Within n s s' → (area n s < area n s') ⊎ Within n s' s
unfolding area
area_grows zero s s' i = inr (λ q h t. absurd (not-suc-le-zero h))
area_grows (suc n) s s' i = go (area_grows n s s' (shorten s s' i)) (choice (s n)) (choice (s' n))
  where
    go : (area n s < area n s') ⊎ Within n s' s → T (s n) ⊎ (T (s n) → ⊥) → T (s' n) ⊎ (T (s' n) → ⊥)
        → (bit (s n) + area n s < bit (s' n) + area n s') ⊎ Within (suc n) s' s
    go (inl l) a b = inl (omega (arith, bit_mono (s n) (s' n) (i n (omega arith))))
    go (inr w) (inl a) b = inr (below_suc (λ (q : ℕ). T (s' q) → T (s q)) w (λ t. a))
    go (inr w) (inr a) (inl b) = inl (omega (arith, bit_no (s n) a, bit-yes (s' n) b, area_mono n s s' (shorten s s' i)))
    go (inr w) (inr a) (inr b) = inr (below_suc (λ (q : ℕ). T (s' q) → T (s q)) w (λ t. absurd (b t)))

-- ---- the lightest member

pub top_or_none : (n : ℕ) (s : ℕ → Bool) (h : ℕ → ℕ) → Top n s h ⊎ ((q : ℕ) → q < n → T (s q) → ⊥)
top_or_none zero s h = inr (λ q l t. not-suc-le-zero l)
top_or_none (suc n) s h = go (top_or_none n s h) (choice (s n))
  where
    -- n is a member, and as light as all the others
    new : T (s n) → ((q : ℕ) → q < n → T (s q) → h q ≤ h n) → Top (suc n) s h
    new t m = record { at = n; below = omega arith; member = t; most = below_suc (λ (q : ℕ). T (s q) → h q ≤ h n) m (λ u. omega arith) }

    -- the lightest so far, and n is no lighter member
    old : (r : Top n s h) → (T (s n) → h n ≤ h r.at) → Top (suc n) s h
    old r m = record { at = r.at; below = omega arith; member = r.member; most = below_suc (λ (q : ℕ). T (s q) → h q ≤ h r.at) r.most m }

    go : Top n s h ⊎ ((q : ℕ) → q < n → T (s q) → ⊥) → T (s n) ⊎ (T (s n) → ⊥) → Top (suc n) s h ⊎ ((q : ℕ) → q < suc n → T (s q) → ⊥)
    go (inl r) (inl t) = elim (dec_le (h n) (h r.at)) [
      | yes k ↦ inl (old r (λ u. k))
      | no k ↦ inl (new t (λ q l u. omega (arith, r.most q l u)))
    ]
    go (inl r) (inr f) = inl (old r (λ u. absurd (f u)))
    go (inr e) (inl t) = inl (new t (λ q l u. absurd (e q l u)))
    go (inr e) (inr f) = inr (below_suc (λ (q : ℕ). T (s q) → ⊥) e f)

-- a set with a member has a lightest one
pub top : (n : ℕ) (s : ℕ → Bool) (h : ℕ → ℕ) (p : ℕ) → p < n → T (s p) → Top n s h
top n s h p l t = elim (top_or_none n s h) [ inl r ↦ r | inr e ↦ absurd (e p l t) ]

pub most_ge : (n : ℕ) (h : ℕ → ℕ) (q : ℕ) → q < n → h q ≤ most n h
unfolding most
most_ge zero h = λ q l. absurd (not-suc-le-zero l)
most_ge (suc n) h = below_suc (λ (q : ℕ). h q ≤ most (suc n) h) (λ q l. omega (arith, most_ge n h q l)) (omega arith)

pub most_le : (n : ℕ) (h : ℕ → ℕ) (b : ℕ) → ((q : ℕ) → q < n → h q ≤ b) → most n h ≤ b
unfolding most
most_le zero h b f = omega arith
most_le (suc n) h b f = omega (arith, f n (omega arith), most_le n h b (λ q l. f q (omega arith)))

-- ---- the lowest member

pub lowest-is : (n : ℕ) (s : ℕ → Bool) → Lowest n s (lowest n s)
unfolding lowest
lowest-is zero s = record { bound = omega arith; passes = λ l. absurd (not-suc-le-zero l); least = λ q l t. absurd (not-suc-le-zero l) }
lowest-is (suc n) s = go (lowest n s) (lowest-is n s) (s (lowest n s)) refl
  where
    go : (r : ℕ) → Lowest n s r → (b : Bool) → s r ≡ b → Lowest (suc n) s (elim b [ true ↦ r | false ↦ suc n ])
    go r i true e = record {
      bound = omega arith;
      passes = λ l. rw e tt;
      least = below_suc (λ (q : ℕ). T (s q) → r ≤ q) i.least (λ t. i.bound);
    }
    go r i false e = record {
      bound = omega arith;
      passes = λ l. absurd (omega arith);
      least = below_suc (λ (q : ℕ). T (s q) → suc n ≤ q) (λ q l t. absurd (fails (omega (arith, i.least q l t)))) (λ t. absurd (fails' t));
    }
      where
        fails : r < n → ⊥
        fails l = rw e at (i.passes l)

        fails' : T (s n) → ⊥
        fails' t = elim (dec_le n r) [
          | yes h ↦ let u : n ≡ r = omega (arith, i.bound) in (rw (u, e) at t)
          | no h ↦ fails (omega arith)
        ]

-- the lowest of a set that has a member
pub lowest_below : (n : ℕ) (s : ℕ → Bool) (q : ℕ) → q < n → T (s q) → lowest n s < n
lowest_below n s q l t = omega (arith, (lowest-is n s).least q l t)

pub lowest_passes : (n : ℕ) (s : ℕ → Bool) (q : ℕ) → q < n → T (s q) → T (s (lowest n s))
lowest_passes n s q l t = (lowest-is n s).passes (lowest_below n s q l t)

-- the same members, the same lowest
lowest_within : (n : ℕ) (s s' : ℕ → Bool) → Within n s s' → lowest n s' ≤ lowest n s
lowest_within n s s' w = elim (dec_le n (lowest n s)) [
  | yes h ↦ omega (arith, (lowest-is n s').bound)
  | no h ↦
      let l : lowest n s < n = omega arith in
      (lowest-is n s').least (lowest n s) l (w (lowest n s) l ((lowest-is n s).passes l))
]

pub lowest-same : (n : ℕ) (s s' : ℕ → Bool) → Within n s s' → Within n s' s → lowest n s ≡ lowest n s'
lowest-same n s s' a b = le_antisymm (lowest_within n s' s b) (lowest_within n s s' a)

-- ---- the greatest number

pub greatest_le : (good : ℕ → Bool) (b : ℕ) → greatest good b ≤ b
unfolding greatest
greatest_le good zero = omega arith
greatest_le good (suc b) = go (good (suc b)) (greatest_le good b)
  where
    go : (t : Bool) → greatest good b ≤ b → pick t (suc b) (greatest good b) ≤ suc b
    go true h = omega arith
    go false h = omega arith

pub greatest_good : (good : ℕ → Bool) (b : ℕ) → T (good 0) → T (good (greatest good b))
unfolding greatest
greatest_good good zero z = z
greatest_good good (suc b) z = go (good (suc b)) refl (greatest_good good b z)
  where
    go : (t : Bool) → good (suc b) ≡ t → T (good (greatest good b)) → T (good (pick t (suc b) (greatest good b)))
    go true e h = rw e tt
    go false e h = h

pub greatest-most : (good : ℕ → Bool) (b t : ℕ) → t ≤ b → T (good t) → t ≤ greatest good b
unfolding greatest
greatest-most good zero t l g = l
greatest-most good (suc b) t l g = go (good (suc b)) refl (λ h. greatest-most good b t h g)
  where
    go : (x : Bool) → good (suc b) ≡ x → (t ≤ b → t ≤ greatest good b) → t ≤ pick x (suc b) (greatest good b)
    go true e ih = l
    go false e ih = elim (dec_le t b) [
      | yes h ↦ ih h
      | no h ↦ let u : t ≡ suc b = omega arith in absurd (rw (u, e) at g)
    ]

-- two numbers with the same numbers up to them are equal
pub same_below : (a b : ℕ) → ((t : ℕ) → t ≤ a ↔ t ≤ b) → a ≡ b
same_below a b f = le_antisymm ((f a).0 (le_refl a)) ((f b).1 (le_refl b))

-- tests that pass alike have one greatest number
pub greatest-same : (good good' : ℕ → Bool) (b : ℕ) → T (good 0) → T (good' 0)
    → ((t : ℕ) → t ≤ b → T (good t) → T (good' t)) → ((t : ℕ) → t ≤ b → T (good' t) → T (good t)) → greatest good b ≡ greatest good' b
greatest-same good good' b z z' to from =
    le_antisymm
    (greatest-most good' b (greatest good b) (greatest_le good b) (to (greatest good b) (greatest_le good b) (greatest_good good b z)))
    (greatest-most good b (greatest good' b) (greatest_le good' b) (from (greatest good' b) (greatest_le good' b) (greatest_good good' b z')))
