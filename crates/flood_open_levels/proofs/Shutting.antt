-- The needs of shut_level. s₁, s₂, s₃: the slice after the store in each layer; r₁, r₂, r₃: h's word there is 0 then.
use mathlib.Core.Path.{◌≡◌, sym, ap, ◌∙◌}
use mathlib.Core.Bool.{Bool, true, false}
use mathlib.Core.List.{List}
use Prim.Native.Nat.{ℕ, ◌+◌, ◌-◌, ◌/◌, ◌%◌, ◌^◌, ◌<◌}
use native.Mathlib.Omega.{arith}
use Rattle.meaning.specs.Sets.{nth}
use Rattle.flood_open_levels.specs.Levels.{signum, member, words, middle, root, Layers, is_open, Changed, Shuttable, Shut}
use Rattle.flood_open_levels.specs.Words.{word_of, BitIs, Removed, Nonempty, Highest, LightestUpTo}
use Rattle.flood_open_levels.proofs.Words.{signum_positive, signum-zero, zero_word, nonzero_word, member_nonzero, member_above, highest_member, highest_most}
use Rattle.flood_open_levels.proofs.Layered.{LayerUpdated, bit_in_layer, highest_in_layer, layer_cleared, middle-bit, root-bit, summary_nonzero}
use Rattle.flood_open_levels.proofs.Layered.{changed_one, changed_two, changed_three, shut_middle, shut_none, shut_word}
use Rattle.flood_open_levels.proofs.Laws.{bounded}

module _ {s : List ℕ} {h : ℕ} (o : Shuttable s h) where
  held : member (words s) h ≡ 1
  unfolding is_open
  held = let q : h + 1 - 1 ≡ h = omega arith in ap (is_open s) (sym q) ∙ o.lightest.held (omega arith)

  pub small : h < 65536
  unfolding is_open
  small = bounded o.layers h held

  -- h's words were not 0
  word_full : signum (nth (words s) (h / 64)) ≡ 1
  word_full = signum_positive (nth (words s) (h / 64)) (member_nonzero (words s) h held)

  middle_full : signum (nth (middle s) (h / 64 / 64)) ≡ 1
  middle_full = signum_positive (nth (middle s) (h / 64 / 64)) (member_nonzero (middle s) (h / 64) (member_above o.layers.mid h held))

  pub asked : BitIs s 0 h 1
  asked = record { inside = omega (arith, small, o.layers.room); is = sym (bit_in_layer 0 1024 s h (omega (arith, small))) ∙ held }

  module _ {s₁ : List ℕ} {r₁ : Bool} (a : Removed s s₁ 0 h r₁) where
    abbrev x₁ : ℕ
    x₁ = word_of s 0 h - 2 ^ (h % 64)

    first : LayerUpdated 0 1024 s s₁ h 0 x₁
    first = layer_cleared asked a (omega (arith, o.layers.room)) (omega (arith, small))

    -- the word of h has another level
    module _ (n : r₁ ≡ false) where
      pub word_nonempty : Nonempty s₁ 0 (h / 64)
      word_nonempty = record {
        inside = omega (arith, small, o.layers.room, first.len);
        small = omega (arith, small);
        some = omega (arith, first.raw, nonzero_word a.word n);
      }

      pub shut₁ : {r : ℕ} → Highest (nth s₁ (0 + h / 64)) (h / 64) r → Shut s s₁ h (r + 1)
      shut₁ t = shut_word o.lightest (changed_one o.layers first (signum_positive x₁ (nonzero_word a.word n) ∙ sym word_full)) small t

    pub asked₂ : BitIs s₁ 1024 (h / 64) 1
    asked₂ = record {
      inside = omega (arith, small, o.layers.room, first.len);
      is = middle-bit o.layers first small ∙ word_full;
    }

    module _ (z : r₁ ≡ true) {s₂ : List ℕ} {r₂ : Bool} (b : Removed s₁ s₂ 1024 (h / 64) r₂) where
      abbrev x₂ : ℕ
      x₂ = word_of s₁ 1024 (h / 64) - 2 ^ (h / 64 % 64)

      next : LayerUpdated 1024 16 s₁ s₂ (h / 64) 0 x₂
      next = layer_cleared asked₂ b (omega (arith, o.layers.room, first.len)) (omega (arith, small))

      -- the middle word of h has another word
      module _ (n : r₂ ≡ false) where
        changed₂ : Changed s s₂ h 0
        changed₂ = changed_two o.layers first next (sym (signum-zero x₁ (zero_word a.word z))) (signum_positive x₂ (nonzero_word b.word n) ∙ sym middle_full)

        pub middle_nonempty : Layers s₂ × ((h / 64 / 64 < 16) × (0 < nth s₂ (1024 + h / 64 / 64)))
        middle_nonempty = (changed₂.layers, (omega (arith, small), omega (arith, next.raw, nonzero_word b.word n)))

        pub shut₂ : {r : ℕ} → LightestUpTo s₂ (h / 64 / 64) r → Shut s s₂ h (r + 1)
        shut₂ t = shut_middle o.lightest changed₂ (λ l e i. omega arith) t

      pub asked₃ : BitIs s₂ 1040 (h / 64 / 64) 1
      asked₃ = record {
        inside = omega (arith, small, o.layers.room, first.len, next.len);
        is = root-bit o.layers first next small ∙ middle_full;
      }

      module _ (y : r₂ ≡ true) {s₃ : List ℕ} {r₃ : Bool} (d : Removed s₂ s₃ 1040 (h / 64 / 64) r₃) where
        abbrev x₃ : ℕ
        x₃ = word_of s₂ 1040 (h / 64 / 64) - 2 ^ (h / 64 / 64 % 64)

        last : LayerUpdated 1040 1 s₂ s₃ (h / 64 / 64) 0 x₃
        last = layer_cleared asked₃ d (omega (arith, o.layers.room, first.len, next.len)) (omega (arith, small))

        changed₃ : Changed s s₃ h 0
        changed₃ = changed_three o.layers first next last (sym (signum-zero x₁ (zero_word a.word z))) (sym (signum-zero x₂ (zero_word b.word y)))

        root_word : nth s₃ (1040 + 0) ≡ x₃
        root_word = let q : 1040 + 0 ≡ 1040 + h / 64 / 64 / 64 = omega (arith, small) in ap (nth s₃) q ∙ last.raw

        pub shut₀ : r₃ ≡ true → Shut s s₃ h 0
        shut₀ x = shut_none o.lightest changed₃ small (root_word ∙ zero_word d.word x)

        pub root_nonempty : r₃ ≡ false → Nonempty s₃ 1040 0
        root_nonempty n = record {
          inside = omega (arith, changed₃.layers.room);
          small = omega arith;
          some = omega (arith, root_word, nonzero_word d.word n);
        }

        -- g is the greatest member of the root
        module _ {g : ℕ} (t : Highest (nth s₃ (1040 + 0)) 0 g) where
          root_highest : Highest (nth (root s₃) 0) 0 g
          root_highest = highest_in_layer 1040 1 s₃ {a = 0} {r = g} (omega arith) t

          pub middle_nonempty₃ : Layers s₃ × ((g < 16) × (0 < nth s₃ (1024 + g)))
          middle_nonempty₃ =
              let o₃ = changed₃.layers in
              (o₃, summary_nonzero 1024 16 s₃ (root s₃) g (omega (arith, o₃.room)) o₃.top (highest_member (root s₃) root_highest))

          pub shut₃ : {r : ℕ} → LightestUpTo s₃ g r → Shut s s₃ h (r + 1)
          unfolding is_open
          shut₃ u =
              let o₃ = changed₃.layers in
              shut_middle o.lightest changed₃
              (λ l e i.
              let k : member (root s₃) (l / 64 / 64) ≡ 1 = member_above o₃.top (l / 64) (member_above o₃.mid l e) in
              highest_most (root s₃) root_highest (l / 64 / 64) k (omega (arith, small)))
              u
