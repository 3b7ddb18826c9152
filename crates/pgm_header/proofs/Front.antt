-- How many bytes from a place on pass a test.
use mathlib.Core.Path.{◌≡◌, refl, ◌∙◌}
use mathlib.Core.Bool.{Bool, true, false}
use mathlib.Core.List.{List, [], ◌∷◌, ◌++◌}
use Prim.Native.Nat.{ℕ, zero, suc, ◌+◌, ◌≤◌, ◌<◌}
use native.Mathlib.Numerals.{add-one}
use native.Mathlib.Omega.{arith}
use lib.ListN.{length, take, drop, get_or, drop_of_length-le, length-drop}
use lib.Seq.{drop-cons, drop-drop, get_or-drop}
use Rattle.pgm_header.specs.Grammar.{front}

module _ (test : ℕ → Bool) where
  pub front_hit : (b : ℕ) (s : List ℕ) → test b ≡ true → front test (b ∷ s) ≡ suc (front test s)
  unfolding front
  front_hit b s e = rw (e, front)

  pub front_miss : (b : ℕ) (s : List ℕ) → test b ≡ false → front test (b ∷ s) ≡ 0
  unfolding front
  front_miss b s e = rw (e, front)

  pub front_end : (s : List ℕ) (i : ℕ) → length s ≤ i → front test (drop i s) ≡ 0
  unfolding front
  front_end s i h = rw (drop_of_length-le s h)

  pub front_stop : (s : List ℕ) (i : ℕ) → i < length s → test (get_or s i 0) ≡ false → front test (drop i s) ≡ 0
  front_stop s i h e = rw (drop-cons s i 0 h) (front_miss (get_or s i 0) (drop (suc i) s) e)

  pub front_more : (s : List ℕ) (i : ℕ) → i < length s → test (get_or s i 0) ≡ true
      → front test (drop i s) ≡ suc (front test (drop (i + 1) s))
  front_more s i h e = rw (add-one i, drop-cons s i 0 h) (front_hit (get_or s i 0) (drop (suc i) s) e)

-- ---- where the bytes that pass end

module _ (test : ℕ → Bool) (b : ℕ) (s : List ℕ) where
  within_cons : (t : Bool) → test b ≡ t → front test s ≤ length s → front test (b ∷ s) ≤ suc (length s)
  within_cons true e h = rw (front_hit test b s e) (omega arith)
  within_cons false e h = rw (front_miss test b s e) (omega arith)

  fails_cons : (t : Bool) → test b ≡ t → (front test s < length s → test (get_or s (front test s) 0) ≡ false)
      → front test (b ∷ s) < suc (length s) → test (get_or (b ∷ s) (front test (b ∷ s)) 0) ≡ false
  fails_cons true e tail h = rw (front_hit test b s e) (tail (let h' = rw (front_hit test b s e) at h in omega arith))
  fails_cons false e tail h = rw (front_miss test b s e) e

  passes_cons : (t : Bool) → test b ≡ t → ((k : ℕ) → k < front test s → test (get_or s k 0) ≡ true) → (k : ℕ) → k < front test (b ∷ s)
      → test (get_or (b ∷ s) k 0) ≡ true
  passes_cons true e tail zero h = e
  passes_cons true e tail (suc k) h = tail k (let h' = rw (front_hit test b s e) at h in omega arith)
  passes_cons false e tail k h = absurd (let h' = rw (front_miss test b s e) at h in omega arith)

  again_cons : (r : List ℕ) (t : Bool) → test b ≡ t → front test (take (front test s) s ++ r) ≡ front test s + front test r
      → front test (take (front test (b ∷ s)) (b ∷ s) ++ r) ≡ front test (b ∷ s) + front test r
  again_cons r true e tail = rw (front_hit test b s e) (omega (arith, front_hit test b (take (front test s) s ++ r) e, tail))
  again_cons r false e tail = rw (front_miss test b s e) (omega arith)

  past_cons : {X : Type 0} (f : List ℕ → X) → ((b : ℕ) (s : List ℕ) → test b ≡ true → f (b ∷ s) ≡ f s)
      → (t : Bool) → test b ≡ t → f s ≡ f (drop (front test s) s) → f (b ∷ s) ≡ f (drop (front test (b ∷ s)) (b ∷ s))
  past_cons f same true e tail = rw (front_hit test b s e) (same b s e ∙ tail)
  past_cons f same false e tail = rw (front_miss test b s e)

module _ (test : ℕ → Bool) where
  pub front_within : (s : List ℕ) → front test s ≤ length s
  unfolding front
  front_within [] = omega arith
  front_within (b ∷ s) = within_cons test b s (test b) refl (front_within s)

  front_fails : (s : List ℕ) → front test s < length s → test (get_or s (front test s) 0) ≡ false
  unfolding front
  front_fails [] h = absurd (omega arith)
  front_fails (b ∷ s) h = fails_cons test b s (test b) refl (front_fails s) h

  pub front_passes : (s : List ℕ) (k : ℕ) → k < front test s → test (get_or s k 0) ≡ true
  unfolding front
  front_passes [] k h = absurd (omega arith)
  front_passes (b ∷ s) k h = passes_cons test b s (test b) refl (front_passes s) k h

  -- the bytes at the front that pass, with others after them
  pub front-again : (s r : List ℕ) → front test (take (front test s) s ++ r) ≡ front test s + front test r
  unfolding front
  front-again [] r = omega arith
  front-again (b ∷ s) r = again_cons test b s r (test b) refl (front-again s r)

  past_front : {X : Type 0} (f : List ℕ → X) → ((b : ℕ) (s : List ℕ) → test b ≡ true → f (b ∷ s) ≡ f s) → (s : List ℕ)
      → f s ≡ f (drop (front test s) s)
  unfolding front
  past_front f same [] = refl
  past_front f same (b ∷ s) = past_cons test b s f same (test b) refl (past_front f same s)

-- i is the first place from `at` on whose byte does not pass, or the length
pub record Ends (test : ℕ → Bool) (s : List ℕ) (at i : ℕ) : Type 0 where
  pub from : at ≤ i
  pub within : i ≤ length s
  pub fails : i < length s → test (get_or s i 0) ≡ false

module _ (test : ℕ → Bool) (s : List ℕ) (at i : ℕ) (is : i ≡ at + front test (drop at s)) where
  pub ends : at ≤ length s → Ends test s at i
  ends h = record {
    from = omega arith;
    within = let m = front_within test (drop at s) in omega (arith, length-drop at s);
    fails = λ l. rw (is, ← get_or-drop) (front_fails test (drop at s) (omega (arith, length-drop at s)));
  }

  -- what a byte that passes does not change is the same at both places
  pub past : {X : Type 0} (f : List ℕ → X) → ((b : ℕ) (s : List ℕ) → test b ≡ true → f (b ∷ s) ≡ f s) → f (drop at s) ≡ f (drop i s)
  past f same = past_front test f same (drop at s) ∙ rw (is, drop-drop)
