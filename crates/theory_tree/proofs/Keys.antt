-- The order of the pixels by grey, and at one grey by pixel, as one number: the key f q * n + q.
-- A pixel before another has the smaller key, and the other way round (key-before).
use mathlib.Core.Path.{◌≡◌, ap}
use mathlib.Core.Logic.{inl, inr, ◌↔◌}
use Prim.Native.Nat.{ℕ, ◌*◌, ◌≤◌, ◌<◌}
use native.Mathlib.Nat.{suc-mul, mul-le-mul_right}
use native.Mathlib.Decide.{dec_le}
use native.Mathlib.Omega.{arith}
use Rattle.theory_tree.specs.Tree.{Before, key}

module _ (n : ℕ) (f : ℕ → ℕ) where
  pub key-grey : (a b : ℕ) → a < n → f a < f b → key n f a < key n f b
  unfolding key
  key-grey a b l h = omega (arith, suc-mul (f a) n, mul-le-mul_right n h)

  pub key_pixel : (a b : ℕ) → f a ≡ f b → a < b → key n f a < key n f b
  unfolding key
  key_pixel a b e h = omega (arith, ap (λ (x : ℕ). x * n) e)

  pub grey-key : (a b : ℕ) → b < n → key n f a ≤ key n f b → f a ≤ f b
  grey-key a b l h = elim (dec_le (f a) (f b)) [
    | yes k ↦ k
    | no k ↦ absurd (let u : f b < f a = omega arith in omega (arith, key-grey b a l u))
  ]

  pub pixel_before : (a b : ℕ) → f a ≡ f b → key n f a < key n f b → a < b
  unfolding key
  pixel_before a b e h = omega (arith, ap (λ (x : ℕ). x * n) e)

  pub key-before : (a b : ℕ) → a < n → b < n → Before f a b ↔ key n f a < key n f b
  key-before a b la lb = (to, from)
    where
      to : Before f a b → key n f a < key n f b
      to (inl h) = key-grey a b la h
      to (inr h) = key_pixel a b h.0 h.1

      from : key n f a < key n f b → Before f a b
      from h = elim (dec_le (f b) (f a)) [
        | yes k ↦
            let u : f a ≤ f b = grey-key a b lb (omega arith) in
            let e : f a ≡ f b = omega arith in
            inr (e, pixel_before a b e h)
        | no k ↦ inl (omega arith)
      ]
