-- What is held against the limit: the area, or n for a set that holds a pixel of the edge. It is an attribute, and it is at least the limit exactly for a
-- set of at least the limit's pixels or one that reaches the edge; the specification's words for the opening follow: a connected set of distinct pixels.
use mathlib.Core.Logic.{◌↔◌, ◌⊎◌, inl, inr}
use mathlib.Core.Bool.{Bool, true, false, not, ◌&&◌}
use Prim.Native.Nat.{ℕ, ◌*◌, ◌≤◌, ◌<◌}
use native.Mathlib.Omega.{arith}
use mathlib.Core.Path.{◌≡◌, refl, subst}
use lib.Dec.{T, eqb, eqb→eq, leb→le, le→leb}
use lib.ListN.{length}
use Rattle.meaning.specs.Opening.{Attribute, Qualifying, Reaches, Region, at_least, attribute, opened_at, reaches}
use Rattle.meaning.specs.Paths.{Grid}
use Rattle.meaning.specs.Plate.{on_trim_edge}
use Rattle.meaning.specs.Sets.{Within, area, elem, pick, rising}
use Rattle.theory_lists.proofs.Lists.{distinct_area, elem-rising, members_distinct, rising-length, rising_sound}
use Rattle.theory_connectivity.proofs.Paths.{joined_mono}
use Rattle.theory_lists.proofs.Sets.{area_all, area_le, area_mono, some_elim, some_intro}
use Rattle.theory_lists.proofs.Sums.{area_pos}
use Rattle.theory_lists.proofs.Tests.{both, both_left, both_right, choice, pick_no, pick_yes, same_test}
use Rattle.theory_opening.proofs.Attribute.{attribute_criterion}
use Rattle.theory_opening.proofs.Opening.{opened-words}

-- a number below n is not n
off : (b : Bool) (n m a : ℕ) → a < n → eqb (pick b n m) a ≡ (not b && eqb m a)
off true n m a l = same_test (eqb n a) false (λ t. absurd (omega (arith, eqb→eq n a t))) (λ t. absurd t)
off false n m a l = refl

module _ (n : ℕ) (edge : ℕ → Bool) where
  -- ---- the test and the statement

  pub reaches-yes : (s : ℕ → Bool) → Reaches n edge s → T (reaches n edge s)
  unfolding reaches
  reaches-yes s r = some_intro n (λ (q : ℕ). s q && edge q) r.0 r.1 (both (s r.0) (edge r.0) r.2 r.3)

  pub reaches-only : (s : ℕ → Bool) → T (reaches n edge s) → Reaches n edge s
  unfolding reaches
  reaches-only s t =
      let r = some_elim n (λ (q : ℕ). s q && edge q) t in
      (r.0, r.1, both_left (s r.0) (edge r.0) r.2, both_right (s r.0) (edge r.0) r.2)

  -- ---- the attribute

  -- the area, or n for a set that reaches the edge
  abbrev pub area_or_all : (ℕ → Bool) → ℕ
  area_or_all s = pick (reaches n edge s) n (area n s)

  all_of : (s : ℕ → Bool) → T (reaches n edge s) → area_or_all s ≡ n
  all_of s = pick_yes (reaches n edge s) n (area n s)

  area_of : (s : ℕ → Bool) → (T (reaches n edge s) → ⊥) → area_or_all s ≡ area n s
  area_of s = pick_no (reaches n edge s) n (area n s)

  at_most : (s : ℕ → Bool) → area_or_all s ≤ n
  at_most s = elim (choice (reaches n edge s)) [ inl t ↦ omega (arith, all_of s t) | inr t ↦ omega (arith, area_of s t, area_le n s) ]

  at_area : (s : ℕ → Bool) → area n s ≤ area_or_all s
  at_area s = elim (choice (reaches n edge s)) [ inl t ↦ omega (arith, all_of s t, area_le n s) | inr t ↦ omega (arith, area_of s t) ]

  grows : (s s' : ℕ → Bool) → Within n s s' → area_or_all s ≤ area_or_all s'
  grows s s' w = elim (choice (reaches n edge s)) [
    | inl t ↦
        let r = reaches-only s t in
        omega (arith, at_most s, all_of s' (reaches-yes s' (r.0, r.1, w r.0 r.1 r.2, r.3)))
    | inr t ↦ omega (arith, area_of s t, area_mono n s s' w, at_area s')
  ]

  area_or_all_lem : Attribute n area_or_all
  area_or_all_lem = record {
    increasing = grows;
    positive = λ s q l t. omega (arith, area_pos n s q l t, at_area s);
    all = omega (arith, at_area (λ (q : ℕ). true), area_all n (λ (q : ℕ). true) (λ q l. tt));
  }

  -- it is at least the limit
  pub large_or_reaches : (limit : ℕ) → limit ≤ n → (s : ℕ → Bool) → limit ≤ area_or_all s ↔ ((limit ≤ area n s) ⊎ Reaches n edge s)
  large_or_reaches limit m s = (
    λ k. elim (choice (reaches n edge s)) [ inl t ↦ inr (reaches-only s t) | inr t ↦ inl (omega (arith, area_of s t)) ],
    λ r. elim r [ inl k ↦ omega (arith, at_area s) | inr b ↦ omega (arith, all_of s (reaches-yes s b)) ],
  )

  -- ---- the specification's words

  module _ {near : ℕ → ℕ → Bool} (f : ℕ → ℕ) (limit t p : ℕ) (m : limit ≤ n) where
    region_qualifying : Region n near edge f limit t p → Qualifying n near (at_least area_or_all limit) f t p
    region_qualifying r = record {
      set = elem r.pixels;
      holds = r.holds;
      kept = le→leb limit (area_or_all (elem r.pixels)) ((large_or_reaches limit m (elem r.pixels)).1 enough);
      light = λ q l u. r.light q u;
      connected = λ a b la lb u v. r.connected a b u v;
    }
      where
        enough : (limit ≤ area n (elem r.pixels)) ⊎ Reaches n edge (elem r.pixels)
        enough = elim r.qualifies [
          | inl k ↦ inl (omega (arith, distinct_area n r.pixels r.distinct r.inside))
          | inr b ↦ inr (b.0, r.inside b.0 b.1, b.1, b.2)
        ]

    qualifying_region : p < n → Qualifying n near (at_least area_or_all limit) f t p → Region n near edge f limit t p
    qualifying_region l s =
        let out : (q : ℕ) → T (elem (rising n s.set) q) → (q < n) × T (s.set q) = rising_sound n s.set in
        record {
          pixels = rising n s.set;
          distinct = members_distinct n s.set;
          inside = λ q u. (out q u).0;
          holds = elem-rising n s.set p l s.holds;
          qualifies = enough;
          light = λ q u. s.light q (out q u).0 (out q u).1;
          connected = λ a b u v.
              joined_mono (elem (rising n s.set)) (elem-rising n s.set)
              (s.connected a b (out a u).0 (out b v).0 (out a u).1 (out b v).1);
        }
      where
        enough : (limit ≤ length (rising n s.set)) ⊎ ((q : ℕ) × T (elem (rising n s.set) q) × T (edge q))
        enough = elim ((large_or_reaches limit m s.set).0 (leb→le limit (area_or_all s.set) s.kept)) [
          | inl k ↦ inl (rw (rising-length n s.set) k)
          | inr b ↦ inr (b.0, elem-rising n s.set b.0 b.1 b.2, b.3)
        ]

    -- some connected set that qualifies holds p and has no grey below t exactly when t is at most the opened value
    words : Grid n near → p < n → Region n near edge f limit t p ↔ t ≤ opened_at n near (at_least area_or_all limit) f p
    words grid l =
        let o = opened-words grid (attribute_criterion area_or_all_lem limit m) f t p l in
        (λ r. o.0 (region_qualifying r), λ k. qualifying_region l (o.1 k))

-- ---- a plate of n pixels, width w and height h

module _ {n : ℕ} (w h : ℕ) (e : n ≡ w * h) where
  pub trim_attribute : Attribute n (attribute w h)
  trim_attribute = subst (λ (m : ℕ). Attribute n (area_or_all m (on_trim_edge w h))) e (area_or_all_lem n (on_trim_edge w h))

  -- a set's attribute is at least the limit exactly when it has the limit's pixels or reaches the trim edge
  pub trim_limit : (limit : ℕ) → limit ≤ n → (s : ℕ → Bool)
      → limit ≤ attribute w h s ↔ ((limit ≤ area n s) ⊎ Reaches n (on_trim_edge w h) s)
  trim_limit limit m s =
      subst (λ (m : ℕ). limit ≤ area_or_all m (on_trim_edge w h) s ↔ ((limit ≤ area n s) ⊎ Reaches n (on_trim_edge w h) s)) e
      (large_or_reaches n (on_trim_edge w h) limit m s)

  -- below n it is the area of a set off the edge
  pub trim_area : (a : ℕ) → a < n → (s : ℕ → Bool) → eqb (attribute w h s) a ≡ (not (reaches n (on_trim_edge w h) s) && eqb (area n s) a)
  trim_area a l s =
      subst (λ (m : ℕ). eqb (area_or_all m (on_trim_edge w h) s) a ≡ (not (reaches n (on_trim_edge w h) s) && eqb (area n s) a)) e
      (off (reaches n (on_trim_edge w h) s) n (area n s) a l)

  pub trim_words : {near : ℕ → ℕ → Bool} (f : ℕ → ℕ) (limit t p : ℕ) → Grid n near → limit ≤ n → p < n
      → Region n near (on_trim_edge w h) f limit t p ↔ t ≤ opened_at n near (at_least (attribute w h) limit) f p
  trim_words {near} f limit t p grid m l =
      subst (λ (m : ℕ). Region n near (on_trim_edge w h) f limit t p ↔ t ≤ opened_at n near (at_least (area_or_all m (on_trim_edge w h)) limit) f p) e
      (words n (on_trim_edge w h) f limit t p m grid l)
