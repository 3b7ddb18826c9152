-- Comparing bytes with a number's form byte by byte: what is left to be compared decides.
use mathlib.Core.Path.{◌≡◌, refl, ap}
use mathlib.Core.Bool.{Bool, true, false, ◌&&◌}
use mathlib.Core.List.{List, []}
use Prim.Native.Nat.{ℕ, suc, ◌+◌, ◌/◌, ◌%◌, ◌≤◌, ◌<◌}
use native.Mathlib.Omega.{arith}
use native.Mathlib.Numerals.{add-one}
use lib.Dec.{ltb, eqb}
use lib.ListN.{length, get_or, drop}
use borrow.Author.Tests.{lt-ltb, le-ltb, eq-eqb, eqb-true}
use Rattle.meaning.specs.Record.{varint}
use Rattle.record_varint.specs.Field.{starts, field_bound, accepted, refused, same_at}
use Rattle.record_varint.proofs.Groups.{varint_low, varint_high}
use Rattle.record_varint.proofs.Starts.{and-not, starts_at}

-- the bytes from `at` on begin with the form of v if and only if those from i on begin with that of x
pub record Compared (s : List ℕ) (at v i x : ℕ) : Type 0 where
  pub small : x < field_bound
  pub ends : i + length (varint x) ≡ at + length (varint v)
  pub decides : starts (varint x) (drop i s) ≡ starts (varint v) (drop at s)

pub compared-first : (s : List ℕ) (at v : ℕ) → v < field_bound → Compared s at v at v
compared-first s at v h = record { small = h; ends = refl; decides = refl }

-- the byte at i, as a test
byte_is : List ℕ → ℕ → ℕ → Bool
byte_is s i b = ltb i (length s) && eqb (get_or s i 0) b

module _ (s : List ℕ) (i b : ℕ) where
  is_byte : i < length s → get_or s i 0 ≡ b → byte_is s i b ≡ true
  unfolding byte_is
  is_byte h e = rw (lt-ltb i (length s) h) (eq-eqb (get_or s i 0) b e)

  other_byte : (get_or s i 0 ≡ b → ⊥) → byte_is s i b ≡ false
  unfolding byte_is
  other_byte n = and-not (ltb i (length s)) (eqb (get_or s i 0) b) (λ h e. n (eqb-true (get_or s i 0) b e))

  past_byte : length s ≤ i → byte_is s i b ≡ false
  unfolding byte_is
  past_byte h = rw (le-ltb i (length s) h)

module _ (s : List ℕ) (at v i x : ℕ) (p : Compared s at v i x) where
  module _ (high : 127 < x) where
    step : (byte_is s i (128 + x % 128) && starts (varint (x / 128)) (drop (suc i) s)) ≡ starts (varint v) (drop at s)
    unfolding byte_is
    step = rw (varint_high x high p.small, starts_at (128 + x % 128) (varint (x / 128)) s i) at p.decides

    pub compared-more : i < length s → get_or s i 0 ≡ 128 + x % 128 → Compared s at v (i + 1) (x / 128)
    compared-more h is = record {
      small = omega (arith, p.small);
      ends = omega (arith, p.ends, ap length (varint_high x high p.small));
      decides = rw add-one (rw (is_byte s i (128 + x % 128) h is) at step);
    }

    differs : byte_is s i (128 + x % 128) ≡ false → refused 24 ≡ same_at s at v
    differs e = let none : false ≡ starts (varint v) (drop at s) = rw e at step in rw (← none)

    pub compared_past : length s ≤ i → refused 24 ≡ same_at s at v
    compared_past h = differs (past_byte s i (128 + x % 128) h)

    pub compared_differs : (get_or s i 0 ≡ 128 + x % 128 → ⊥) → refused 24 ≡ same_at s at v
    compared_differs n = differs (other_byte s i (128 + x % 128) n)

  module _ (low : x ≤ 127) where
    last : (byte_is s i x && true) ≡ starts (varint v) (drop at s)
    unfolding starts byte_is
    last = rw (varint_low x (omega arith), starts_at x [] s i) at p.decides

    pub compared_same : i < length s → get_or s i 0 ≡ x → accepted v (i + 1) ≡ same_at s at v
    compared_same h is =
        let found : true ≡ starts (varint v) (drop at s) = rw (is_byte s i x h is) at last in
        let e : i + 1 ≡ at + length (varint v) = rw (varint_low x (omega arith)) at p.ends in
        rw (← found, e)

    last_differs : byte_is s i x ≡ false → refused 24 ≡ same_at s at v
    last_differs e = let none : false ≡ starts (varint v) (drop at s) = rw e at last in rw (← none)

    pub compared_last_past : length s ≤ i → refused 24 ≡ same_at s at v
    compared_last_past h = last_differs (past_byte s i x h)

    pub compared_last_differs : (get_or s i 0 ≡ x → ⊥) → refused 24 ≡ same_at s at v
    compared_last_differs n = last_differs (other_byte s i x n)
