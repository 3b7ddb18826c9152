-- The needs of open_level. s₁, s₂, s₃: the slice after the store in each layer; r₁, r₂, r₃: m's word there was 0.
use mathlib.Core.Path.{◌≡◌, sym, ap, ◌∙◌}
use mathlib.Core.Bool.{Bool, true, false}
use mathlib.Core.List.{List}
use Prim.Native.Nat.{ℕ, ◌+◌, ◌/◌, ◌%◌, ◌^◌, ◌<◌}
use native.Mathlib.Omega.{arith}
use lib.Pow.{pow_pos}
use Rattle.meaning.specs.Sets.{nth}
use Rattle.flood_open_levels.specs.Levels.{signum, words, middle, is_open, Changed, Openable}
use Rattle.flood_open_levels.specs.Words.{word_of, BitIs, Added}
use Rattle.flood_open_levels.proofs.Words.{part_in, signum_positive, signum-zero, zero_word, nonzero_word}
use Rattle.flood_open_levels.proofs.Layered.{LayerUpdated, bit_in_layer, layer_set, middle-bit, middle_word, root-bit}
use Rattle.flood_open_levels.proofs.Layered.{changed_one, changed_two, changed_three}

-- a word is not 0 after its bit is added
grown : (x j : ℕ) → 1 ≡ signum (x + 2 ^ j)
grown x j = sym (signum_positive (x + 2 ^ j) (omega (arith, pow_pos j)))

-- and was not 0 before
as_before : (x j : ℕ) → 0 < x → signum (x + 2 ^ j) ≡ signum x
as_before x j l = sym (grown x j) ∙ sym (signum_positive x l)

module _ {s : List ℕ} {m : ℕ} (o : Openable s m) where
  pub asked : BitIs s 0 m 0
  unfolding is_open
  asked = record { inside = omega (arith, o.small, o.layers.room); is = sym (bit_in_layer 0 1024 s m (omega (arith, o.small))) ∙ o.fresh }

  here : nth (words s) (m / 64) ≡ word_of s 0 m
  here = part_in 0 1024 s (m / 64) (omega (arith, o.small))

  module _ {s₁ : List ℕ} {r₁ : Bool} (a : Added s s₁ 0 m r₁) where
    first : LayerUpdated 0 1024 s s₁ m 1 (word_of s 0 m + 2 ^ (m % 64))
    first = layer_set asked a (omega (arith, o.layers.room)) (omega (arith, o.small))

    pub opened : r₁ ≡ false → Changed s s₁ m 1
    opened n = changed_one o.layers first (as_before (word_of s 0 m) (m % 64) (nonzero_word a.word n) ∙ ap signum (sym here))

    above : nth (middle s) (m / 64 / 64) ≡ word_of s₁ 1024 (m / 64)
    above = middle_word first o.small

    module _ (z : r₁ ≡ true) where
      pub asked₂ : BitIs s₁ 1024 (m / 64) 0
      asked₂ = record {
        inside = omega (arith, o.small, o.layers.room, first.len);
        is = middle-bit o.layers first o.small ∙ signum-zero (nth (words s) (m / 64)) (here ∙ zero_word a.word z);
      }

      module _ {s₂ : List ℕ} {r₂ : Bool} (b : Added s₁ s₂ 1024 (m / 64) r₂) where
        next : LayerUpdated 1024 16 s₁ s₂ (m / 64) 1 (word_of s₁ 1024 (m / 64) + 2 ^ (m / 64 % 64))
        next = layer_set asked₂ b (omega (arith, o.layers.room, first.len)) (omega (arith, o.small))

        pub opened₂ : r₂ ≡ false → Changed s s₂ m 1
        opened₂ n =
            changed_two o.layers first next (grown (word_of s 0 m) (m % 64))
            (as_before (word_of s₁ 1024 (m / 64)) (m / 64 % 64) (nonzero_word b.word n) ∙ ap signum (sym above))

        module _ (y : r₂ ≡ true) where
          pub asked₃ : BitIs s₂ 1040 (m / 64 / 64) 0
          asked₃ = record {
            inside = omega (arith, o.small, o.layers.room, first.len, next.len);
            is = root-bit o.layers first next o.small ∙ signum-zero (nth (middle s) (m / 64 / 64)) (above ∙ zero_word b.word y);
          }

          pub opened₃ : {s₃ : List ℕ} {r₃ : Bool} → Added s₂ s₃ 1040 (m / 64 / 64) r₃ → Changed s s₃ m 1
          opened₃ d =
              changed_three o.layers first next (layer_set asked₃ d (omega (arith, o.layers.room, first.len, next.len)) (omega (arith, o.small)))
              (grown (word_of s 0 m) (m % 64)) (grown (word_of s₁ 1024 (m / 64)) (m / 64 % 64))
