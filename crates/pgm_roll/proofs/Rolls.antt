-- A roll from plate to plate: no bytes are a roll of none; a plate at the front is the first of the roll, and the roll of the bytes behind it has
-- the others; a fault at the front refuses it. And what is at the front, from what the roll is.
use mathlib.Core.Path.{◌≡◌, refl, sym, ap, ◌∙◌}
use mathlib.Core.List.{List, [], ◌∷◌, ◌++◌, append_assoc}
use Prim.Native.Nat.{ℕ, zero, suc, ◌≤◌, ◌<◌}
use native.Mathlib.Omega.{arith}
use borrow.Author.Tests.{eq-eqb, ne_eqb}
use lib.ListN.{length}
use Rattle.pgm_header.proofs.Prefix.{apart}
use Rattle.pgm_roll.specs.Roll.{FirstPlate, Image, Roll, before, fault, first_plate, on_plate, plate_then, plates, refused, roll, roll_up_to}
use Rattle.pgm_roll.proofs.Plates.{Found, found, found_first, found_shorter}

-- ---- plates in front of a roll

pub before-none : (r : Roll) → before [] r ≡ r
before-none (plates ps) = refl
before-none (refused n) = refl

pub before-before : (ps qs : List Image) (r : Roll) → before ps (before qs r) ≡ before (ps ++ qs) r
before-before ps qs (plates rs) = ap plates (sym (append_assoc ps qs rs))
before-before ps qs (refused n) = refl

-- ---- as many plates as are looked at

up_none : (most : ℕ) (s : List ℕ) → length s ≡ 0 → roll_up_to most s ≡ plates []
unfolding roll_up_to
up_none zero s z = refl
up_none (suc most) s z = rw (eq-eqb (length s) 0 z, roll_up_to)

up_some : (most : ℕ) (s : List ℕ) → (length s ≡ 0 → ⊥) → roll_up_to (suc most) s ≡ on_plate (first_plate s) (λ after. roll_up_to most after)
unfolding roll_up_to
up_some most s x = rw (ne_eqb (length s) 0 x, roll_up_to)

-- what goes on after a plate matters only there
on_same : (t : FirstPlate) (f g : List ℕ → Roll) → ((p : Image) (after : List ℕ) → t ≡ plate_then p after → f after ≡ g after)
    → on_plate t f ≡ on_plate t g
on_same (plate_then p after) f g same = ap (before (p ∷ [])) (same p after refl)
on_same (fault n) f g same = refl

-- there are no more plates than bytes
up_enough : (m k : ℕ) (s : List ℕ) → length s ≤ m → length s ≤ k → roll_up_to m s ≡ roll_up_to k s
up_enough zero k s a b = up_none zero s (omega arith) ∙ sym (up_none k s (omega arith))
up_enough (suc m) zero s a b = up_none (suc m) s (omega arith) ∙ sym (up_none zero s (omega arith))
up_enough (suc m) (suc k) [] a b = up_none (suc m) [] refl ∙ sym (up_none (suc k) [] refl)
up_enough (suc m) (suc k) (x ∷ s) a b =
    let shorter : (p : Image) (after : List ℕ) → first_plate (x ∷ s) ≡ plate_then p after → length after < length (x ∷ s) =
    λ p after e. omega (arith, found_shorter (found (x ∷ s) e)) in
    up_some m (x ∷ s) (λ z. omega arith)
    ∙ on_same (first_plate (x ∷ s)) (λ after. roll_up_to m after) (λ after. roll_up_to k after)
    (λ p after e. up_enough m k after (omega (arith, shorter p after e)) (omega (arith, shorter p after e)))
    ∙ sym (up_some k (x ∷ s) (λ z. omega arith))

-- ---- a roll

pub roll-none : (s : List ℕ) → length s ≡ 0 → roll s ≡ plates []
unfolding roll
roll-none s z = up_none (length s) s z

roll-some : (s : List ℕ) → (length s ≡ 0 → ⊥) → roll s ≡ on_plate (first_plate s) (λ after. roll_up_to (length s) after)
unfolding roll
roll-some s x = up_enough (length s) (suc (length s)) s (omega arith) (omega arith) ∙ up_some (length s) s x

-- a plate at the front
pub roll_plate : {s after : List ℕ} {p : Image} → Found s p after → roll s ≡ before (p ∷ []) (roll after)
unfolding roll
roll_plate {s} {after} {p} k =
    let shorter = found_shorter k in
    roll-some s (λ z. omega (arith, shorter, z))
    ∙ ap (λ (t : FirstPlate). on_plate t (λ after. roll_up_to (length s) after)) (found_first k)
    ∙ ap (before (p ∷ [])) (up_enough (length s) (length after) after (omega (arith, shorter)) (omega arith))

-- a fault at the front
pub roll_fault : (s : List ℕ) {n : ℕ} → (length s ≡ 0 → ⊥) → first_plate s ≡ fault n → roll s ≡ refused n
roll_fault s x e = roll-some s x ∙ ap (λ (t : FirstPlate). on_plate t (λ after. roll_up_to (length s) after)) e

-- ---- what is at the front

-- no bytes, a plate or a fault
pub data Front (s : List ℕ) : Type 0 where
  nothing : s ≡ [] → Front s
  plate : (p : Image) (after : List ℕ) → Found s p after → Front s
  faulty : (n : ℕ) → (length s ≡ 0 → ⊥) → first_plate s ≡ fault n → Front s

pub front : (s : List ℕ) → Front s
front [] = nothing refl
front (b ∷ s) = by_first (first_plate (b ∷ s)) refl
  where
    by_first : (t : FirstPlate) → first_plate (b ∷ s) ≡ t → Front (b ∷ s)
    by_first (plate_then p after) e = plate p after (found (b ∷ s) e)
    by_first (fault n) e = faulty n (λ z. omega (arith, z)) e

-- a roll of none is no bytes
pub roll_empty : (s : List ℕ) → roll s ≡ plates [] → s ≡ []
roll_empty s e = by_front (front s)
  where
    by_front : Front s → s ≡ []
    by_front (nothing z) = z
    by_front (plate p after k) = by_rest (roll after) (sym (roll_plate k) ∙ e)
      where
        by_rest : (r : Roll) → before (p ∷ []) r ≡ plates [] → s ≡ []
        by_rest (plates qs) f = apart cc
        by_rest (refused n) f = apart cc
    by_front (faulty n x f) = let stops = roll_fault s x f in apart cc

-- the bytes s begin with the plate p, and the bytes behind it are a roll of the plates ps
pub record Opens (s : List ℕ) (p : Image) (ps : List Image) : Type 0 where
  pub after : List ℕ
  pub there : Found s p after
  pub rest : roll after ≡ plates ps

-- a roll of some plates begins with the first of them
pub roll_opens : (s : List ℕ) {p : Image} {ps : List Image} → roll s ≡ plates (p ∷ ps) → Opens s p ps
roll_opens s {p} {ps} e = by_front (front s)
  where
    by_front : Front s → Opens s p ps
    by_front (nothing z) = let none = roll-none s (ap length z) in apart cc
    by_front (plate q after k) = by_rest (roll after) refl (sym (roll_plate k) ∙ e)
      where
        by_rest : (r : Roll) → roll after ≡ r → before (q ∷ []) r ≡ plates (p ∷ ps) → Opens s p ps
        by_rest (plates qs) i f =
            let q-is : q ≡ p = cc in
            let qs-is : qs ≡ ps = cc in
            record { after = after; there = rw q-is at k; rest = i ∙ ap plates qs-is }
        by_rest (refused n) i f = apart cc
    by_front (faulty n x f) = let stops = roll_fault s x f in apart cc
