-- Whether a list begins with another.
use mathlib.Core.Path.{◌≡◌, refl, sym}
use mathlib.Core.Bool.{Bool, true, false, ◌&&◌}
use mathlib.Core.List.{List, [], ◌∷◌, ◌++◌}
use Prim.Native.Nat.{ℕ, zero, suc, ◌≤◌}
use native.Mathlib.Omega.{arith}
use lib.ListN.{length, get_or, drop}
use lib.Seq.{drop-nil}
use lib.Dec.{eqb, ltb, leb-suc-suc}
use borrow.Author.Tests.{eq-eqb, eqb-true, lt-ltb, le-ltb}
use Rattle.record_varint.specs.Field.{starts}

pub and_left : (a b : Bool) → (a && b) ≡ true → a ≡ true
and_left true b e = refl
and_left false b e = e

pub and_right : (a b : Bool) → (a && b) ≡ true → b ≡ true
and_right true b e = e
and_right false b e = let z : ◌≡◌ {A = ℕ} 0 1 = cc in absurd (omega arith)

pub and-not : (a b : Bool) → (a ≡ true → b ≡ true → ⊥) → (a && b) ≡ false
and-not true true f = absurd (f refl refl)
and-not true false f = refl
and-not false b f = refl

and_assoc : (a b c : Bool) → ((a && b) && c) ≡ (a && (b && c))
and_assoc true b c = refl
and_assoc false b c = refl

pub starts_cons : (x : ℕ) (p l : List ℕ) → starts p l ≡ true → starts (x ∷ p) (x ∷ l) ≡ true
unfolding starts
starts_cons x p l e = rw (eq-eqb x x refl) e

pub starts_self : (p r : List ℕ) → starts p (p ++ r) ≡ true
unfolding starts
starts_self [] r = refl
starts_self (x ∷ p) r = starts_cons x p (p ++ r) (starts_self p r)

pub starts-yes : (p l : List ℕ) → starts p l ≡ true → l ≡ p ++ drop (length p) l
unfolding starts
starts-yes [] l e = refl
starts-yes (x ∷ p) [] e = let z : ◌≡◌ {A = ℕ} 0 1 = cc in absurd (omega arith)
starts-yes (x ∷ p) (b ∷ l) e =
    let here : b ≡ x = eqb-true b x (and_left (eqb b x) (starts p l) e) in
    let rest : l ≡ p ++ drop (length p) l = starts-yes p l (and_right (eqb b x) (starts p l) e) in
    cc

-- a list that begins with one as long is that one
pub starts-whole : (p l : List ℕ) → starts p l ≡ true → length l ≤ length p → l ≡ p
unfolding starts
starts-whole [] [] e h = refl
starts-whole [] (b ∷ l) e h = absurd (omega arith)
starts-whole (x ∷ p) [] e h = let z : ◌≡◌ {A = ℕ} 0 1 = cc in absurd (omega arith)
starts-whole (x ∷ p) (b ∷ l) e h =
    let here : b ≡ x = eqb-true b x (and_left (eqb b x) (starts p l) e) in
    let rest : l ≡ p = starts-whole p l (and_right (eqb b x) (starts p l) e) (omega arith) in
    cc

pub starts_append : (p q l : List ℕ) → starts (p ++ q) l ≡ (starts p l && starts q (drop (length p) l))
unfolding starts
starts_append [] q l = refl
starts_append (x ∷ p) q [] = refl
starts_append (x ∷ p) q (b ∷ l) = rw (starts_append p q l) (sym (and_assoc (eqb b x) (starts p l) (starts q (drop (length p) l))))

-- the list from the place i on: its first entry is x, and the rest follows
pub starts_at : (x : ℕ) (p s : List ℕ) (i : ℕ) → starts (x ∷ p) (drop i s) ≡ ((ltb i (length s) && eqb (get_or s i 0) x) && starts p (drop (suc i) s))
unfolding starts
starts_at x p [] i = rw (drop-nil i, le-ltb i 0 (omega arith))
starts_at x p (b ∷ s) zero = rw (lt-ltb 0 (suc (length s)) (omega arith))
starts_at x p (b ∷ s) (suc i) = rw (leb-suc-suc (suc i) (length s)) (starts_at x p s i)
