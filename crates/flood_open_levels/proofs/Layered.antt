-- Laws of the three layers: a store in one layer, a level added or removed by stores in one to three layers, the lightest level that is left.
use mathlib.Core.Path.{◌≡◌, refl, sym, ap, ◌∙◌, subst}
use mathlib.Core.Bool.{Bool}
use mathlib.Core.List.{List}
use Prim.Native.Nat.{ℕ, ◌+◌, ◌-◌, ◌/◌, ◌%◌, ◌^◌, ◌≤◌, ◌<◌}
use native.Mathlib.Decide.{dec_le}
use native.Mathlib.Omega.{arith}
use lib.ListN.{length, set, drop, length-set}
use lib.Seq.{get_or-set_same, drop-set-lt}
use Rattle.meaning.specs.Sets.{nth}
use Rattle.flood_open_levels.specs.Levels.{bit_at, signum, member, part, words, middle, root, Summary, Layers, is_open, Lightest, Changed, Shut}
use Rattle.flood_open_levels.specs.Words.{word_of, BitIs, Added, Removed, Nonempty, Highest, LightestUpTo}
use Rattle.flood_open_levels.proofs.Words.{Updated, member_above, member_nonzero, part_after, part-before, part_in, part_length, part_out, part-set}
use Rattle.flood_open_levels.proofs.Words.{highest_member, highest_most, positive_signum, summary_updated, updated_cleared, updated_set}

-- ---- a store in one layer, of n words from word b on

-- s' is s with v as the bit of j in that layer; x is the word of j in s'
pub record LayerUpdated (b n : ℕ) (s s' : List ℕ) (j v x : ℕ) : Type 0 where
  pub updated : Updated (part b n s) (part b n s') j v
  pub word : nth (part b n s') (j / 64) ≡ x
  pub raw : nth s' (b + j / 64) ≡ x
  pub len : length s' ≡ length s
  pub left : (e k : ℕ) → e + k ≤ b → part e k s' ≡ part e k s
  pub right : (e k : ℕ) → b + n ≤ e → part e k s' ≡ part e k s
  pub tail : b + n ≤ 1041 → drop 1041 s' ≡ drop 1041 s

-- the bit of j in the layer
pub bit_in_layer : (b n : ℕ) (s : List ℕ) (j : ℕ) → j / 64 < n → member (part b n s) j ≡ bit_at (word_of s b j) (j % 64)
unfolding member
bit_in_layer b n s j l = ap (λ (y : ℕ). bit_at y (j % 64)) (part_in b n s (j / 64) l)

layer_updated : (b n : ℕ) (s s' : List ℕ) (j v x : ℕ) → b + n ≤ length s → j / 64 < n → s' ≡ set s (b + j / 64) x
    → Updated (part b n s) (set (part b n s) (j / 64) x) j v → LayerUpdated b n s s' j v x
layer_updated b n s s' j v x f l e m =
    let p : part b n s' ≡ set (part b n s) (j / 64) x = ap (part b n) e ∙ part-set b n s (j / 64) x l in
    record {
      updated = subst (λ (g : List ℕ). Updated (part b n s) g j v) (sym p) m;
      word = ap (λ (g : List ℕ). nth g (j / 64)) p ∙ get_or-set_same (part b n s) (j / 64) x 0 (omega (arith, part_length b n s f));
      raw = ap (λ (g : List ℕ). nth g (b + j / 64)) e ∙ get_or-set_same s (b + j / 64) x 0 (omega arith);
      len = ap length e ∙ length-set s (b + j / 64) x;
      left = λ o k h. ap (part o k) e ∙ part_after o k s (b + j / 64) x (omega arith);
      right = λ o k h. ap (part o k) e ∙ part-before o k s (b + j / 64) x (omega arith);
      tail = λ h. ap (drop 1041) e ∙ drop-set-lt 1041 s (b + j / 64) x (omega arith);
    }

pub layer_set : {n : ℕ} {s s' : List ℕ} {b j : ℕ} {r : Bool} → BitIs s b j 0 → Added s s' b j r → b + n ≤ length s → j / 64 < n
    → LayerUpdated b n s s' j 1 (word_of s b j + 2 ^ (j % 64))
layer_set {n} {s} {s'} {b} {j} h a f l =
    let m = updated_set (part b n s) j (omega (arith, part_length b n s f)) (bit_in_layer b n s j l ∙ h.is) in
    layer_updated b n s s' j 1 (word_of s b j + 2 ^ (j % 64)) f l a.stored
    (subst (λ (y : ℕ). Updated (part b n s) (set (part b n s) (j / 64) (y + 2 ^ (j % 64))) j 1) (part_in b n s (j / 64) l) m)

pub layer_cleared : {n : ℕ} {s s' : List ℕ} {b j : ℕ} {r : Bool} → BitIs s b j 1 → Removed s s' b j r → b + n ≤ length s → j / 64 < n
    → LayerUpdated b n s s' j 0 (word_of s b j - 2 ^ (j % 64))
layer_cleared {n} {s} {s'} {b} {j} h a f l =
    let m = updated_cleared (part b n s) j (omega (arith, part_length b n s f)) (bit_in_layer b n s j l ∙ h.is) in
    layer_updated b n s s' j 0 (word_of s b j - 2 ^ (j % 64)) f l a.stored
    (subst (λ (y : ℕ). Updated (part b n s) (set (part b n s) (j / 64) (y - 2 ^ (j % 64))) j 0) (part_in b n s (j / 64) l) m)

-- ---- a summary after a store

pub summary_same : {f f' g g' : List ℕ} → f' ≡ f → g' ≡ g → Summary f g → Summary f' g'
summary_same p q o = record {
  tells = λ a. ap (λ (h : List ℕ). member h a) q ∙ o.tells a ∙ ap (λ (h : List ℕ). signum (nth h a)) (sym p);
}

-- the word below is 0 in both, or in neither
summary_kept : {f f' g g' : List ℕ} {j v : ℕ} → Summary f g → Updated f f' j v → g' ≡ g
    → signum (nth f' (j / 64)) ≡ signum (nth f (j / 64)) → Summary f' g'
summary_kept {j = j} o m q e =
    summary_updated (j / 64) o m.apart (λ a _. ap (λ (h : List ℕ). member h a) q)
    (ap (λ (h : List ℕ). member h (j / 64)) q ∙ o.tells (j / 64) ∙ sym e)

-- the bit of the word below is v
summary_passed : {f f' g g' : List ℕ} {j v : ℕ} → Summary f g → Updated f f' j v → Updated g g' (j / 64) v
    → v ≡ signum (nth f' (j / 64)) → Summary f' g'
summary_passed {j = j} o m q e = summary_updated (j / 64) o m.apart q.other (q.here ∙ e)

-- ---- a level is added (v is 1) or removed (v is 0) by a store in the words; in the middle too; in all three

changed : {s s' t : List ℕ} {m v x : ℕ} → LayerUpdated 0 1024 s s' m v x → words t ≡ words s' → length t ≡ length s'
    → drop 1041 t ≡ drop 1041 s' → Layers t → Changed s t m v
unfolding is_open
changed {m = m} a w l d r = record {
  layers = r;
  len = l ∙ a.len;
  tail = d ∙ a.tail (omega arith);
  here = ap (λ (f : List ℕ). member f m) w ∙ a.updated.here;
  other = λ k n. ap (λ (f : List ℕ). member f k) w ∙ a.updated.other k n;
}

pub changed_one : {s s₁ : List ℕ} {m v x : ℕ} → Layers s → LayerUpdated 0 1024 s s₁ m v x → signum x ≡ signum (nth (words s) (m / 64)) → Changed s s₁ m v
changed_one r a e = changed a refl refl refl (record {
  room = omega (arith, a.len, r.room);
  mid = summary_kept r.mid a.updated (a.right 1024 16 (omega arith)) (ap signum a.word ∙ e);
  top = summary_same (a.right 1024 16 (omega arith)) (a.right 1040 1 (omega arith)) r.top;
})

pub changed_two : {s s₁ s₂ : List ℕ} {m v x y : ℕ} → Layers s → LayerUpdated 0 1024 s s₁ m v x → LayerUpdated 1024 16 s₁ s₂ (m / 64) v y
    → v ≡ signum x → signum y ≡ signum (nth (middle s) (m / 64 / 64)) → Changed s s₂ m v
changed_two {s} {s₁} {s₂} {m} {v} r a b e g =
    let w : words s₂ ≡ words s₁ = b.left 0 1024 (omega arith) in
    let p : middle s₁ ≡ middle s = a.right 1024 16 (omega arith) in
    let q : root s₂ ≡ root s = b.right 1040 1 (omega arith) ∙ a.right 1040 1 (omega arith) in
    let m₁ : Updated (words s) (words s₂) m v = subst (λ (f : List ℕ). Updated (words s) f m v) (sym w) a.updated in
    let m₂ : Updated (middle s) (middle s₂) (m / 64) v = subst (λ (f : List ℕ). Updated f (middle s₂) (m / 64) v) p b.updated in
    changed a w b.len (b.tail (omega arith)) (record {
      room = omega (arith, a.len, b.len, r.room);
      mid = summary_passed r.mid m₁ m₂ (e ∙ ap signum (sym (ap (λ (f : List ℕ). nth f (m / 64)) w ∙ a.word)));
      top = summary_kept r.top m₂ q (ap signum b.word ∙ g);
    })

pub changed_three : {s s₁ s₂ s₃ : List ℕ} {m v x y z : ℕ} → Layers s → LayerUpdated 0 1024 s s₁ m v x → LayerUpdated 1024 16 s₁ s₂ (m / 64) v y
    → LayerUpdated 1040 1 s₂ s₃ (m / 64 / 64) v z → v ≡ signum x → v ≡ signum y → Changed s s₃ m v
changed_three {s} {s₁} {s₂} {s₃} {m} {v} r a b t e g =
    let w : words s₃ ≡ words s₁ = t.left 0 1024 (omega arith) ∙ b.left 0 1024 (omega arith) in
    let p : middle s₁ ≡ middle s = a.right 1024 16 (omega arith) in
    let p' : middle s₃ ≡ middle s₂ = t.left 1024 16 (omega arith) in
    let q : root s₂ ≡ root s = b.right 1040 1 (omega arith) ∙ a.right 1040 1 (omega arith) in
    let m₁ : Updated (words s) (words s₃) m v = subst (λ (f : List ℕ). Updated (words s) f m v) (sym w) a.updated in
    let m₂ : Updated (middle s) (middle s₃) (m / 64) v =
    subst (λ (f : List ℕ). Updated (middle s) f (m / 64) v) (sym p') (subst (λ (f : List ℕ). Updated f (middle s₂) (m / 64) v) p b.updated) in
    let m₃ : Updated (root s) (root s₃) (m / 64 / 64) v = subst (λ (f : List ℕ). Updated f (root s₃) (m / 64 / 64) v) q t.updated in
    changed a w (t.len ∙ b.len) (t.tail (omega arith) ∙ b.tail (omega arith)) (record {
      room = omega (arith, a.len, b.len, t.len, r.room);
      mid = summary_passed r.mid m₁ m₂ (e ∙ ap signum (sym (ap (λ (f : List ℕ). nth f (m / 64)) w ∙ a.word)));
      top = summary_passed r.top m₂ m₃ (g ∙ ap signum (sym (ap (λ (f : List ℕ). nth f (m / 64 / 64)) p' ∙ b.word)));
    })

-- a layer that no store has changed yet
pub middle-bit : {s s₁ : List ℕ} {m v x : ℕ} → Layers s → LayerUpdated 0 1024 s s₁ m v x → m < 65536
    → bit_at (word_of s₁ 1024 (m / 64)) (m / 64 % 64) ≡ signum (nth (words s) (m / 64))
middle-bit {s} {s₁} {m} r a l =
    sym (bit_in_layer 1024 16 s₁ (m / 64) (omega arith)) ∙ ap (λ (f : List ℕ). member f (m / 64)) (a.right 1024 16 (omega arith))
    ∙ r.mid.tells (m / 64)

pub root-bit : {s s₁ s₂ : List ℕ} {m v x y : ℕ} → Layers s → LayerUpdated 0 1024 s s₁ m v x → LayerUpdated 1024 16 s₁ s₂ (m / 64) v y → m < 65536
    → bit_at (word_of s₂ 1040 (m / 64 / 64)) (m / 64 / 64 % 64) ≡ signum (nth (middle s) (m / 64 / 64))
root-bit {s} {s₁} {s₂} {m} r a b l =
    sym (bit_in_layer 1040 1 s₂ (m / 64 / 64) (omega arith))
    ∙ ap (λ (f : List ℕ). member f (m / 64 / 64)) (b.right 1040 1 (omega arith) ∙ a.right 1040 1 (omega arith))
    ∙ r.top.tells (m / 64 / 64)

pub middle_word : {s s₁ : List ℕ} {m v x : ℕ} → LayerUpdated 0 1024 s s₁ m v x → m < 65536
    → nth (middle s) (m / 64 / 64) ≡ word_of s₁ 1024 (m / 64)
middle_word {s} {s₁} {m} a l =
    ap (λ (f : List ℕ). nth f (m / 64 / 64)) (sym (a.right 1024 16 (omega arith))) ∙ part_in 1024 16 s₁ (m / 64 / 64) (omega arith)

-- ---- the lightest level that is left

-- the word of a member of the summary is not 0
pub summary_nonzero : (b n : ℕ) (s g : List ℕ) (a : ℕ) → b + n ≤ length s → Summary (part b n s) g → member g a ≡ 1
    → (a < n) × (0 < nth s (b + a))
summary_nonzero b n s g a f o e =
    let p : 0 < nth (part b n s) a = positive_signum (nth (part b n s) a) (sym (o.tells a) ∙ e) in
    elim (dec_le n a) [
      | yes h ↦ omega (arith, part_out b n s a f h)
      | no h ↦ (omega arith, omega (arith, part_in b n s a (omega arith)))
    ]

-- a word of the slice as a word of the layer
pub highest_in_layer : (b n : ℕ) (s : List ℕ) {a r : ℕ} → a < n → Highest (nth s (b + a)) a r → Highest (nth (part b n s) a) a r
highest_in_layer b n s {a} {r} l t = subst (λ (x : ℕ). Highest x a r) (sym (part_in b n s a l)) t

-- the word that the greatest member of a middle word tells of is not 0
pub word_named : {s : List ℕ} {b c : ℕ} → Layers s → b < 16 → Highest (nth s (1024 + b)) b c → Nonempty s 0 c
word_named {s} {b} {c} o l t =
    let k : member (middle s) c ≡ 1 = highest_member (middle s) (highest_in_layer 1024 16 s {a = b} {r = c} l t) in
    let f = summary_nonzero 0 1024 s (middle s) c (omega (arith, o.room)) o.mid k in
    record { inside = omega (arith, f.0, o.room); small = f.0; some = f.1 }

-- a level that is left was open, and is not h
rest : {s s' : List ℕ} {h : ℕ} → Lightest s (h + 1) → Changed s s' h 0 → (l : ℕ) → is_open s' l ≡ 1 → l < h
rest {s} {s'} {h} a b l e =
    let d : l ≡ h → ⊥ = λ q. let z : ◌≡◌ {A = ℕ} 0 1 = sym b.here ∙ ap (is_open s') (sym q) ∙ e in omega arith in
    let u : l < h + 1 = a.above l (sym (b.other l d) ∙ e) in
    elim (dec_le h l) [ yes g ↦ absurd (d (omega arith)) | no g ↦ omega arith ]

shut_lightest : {s s' : List ℕ} {h : ℕ} → Lightest s (h + 1) → Changed s s' h 0 → (r : ℕ) → member (words s') r ≡ 1
    → ((l : ℕ) → member (words s') l ≡ 1 → l < h → l ≤ r) → Shut s s' h (r + 1)
unfolding is_open
shut_lightest {s} {s'} a b r e m = record {
  changed = b;
  lightest = record {
    above = λ l o. omega (arith, m l o (rest a b l o));
    held = λ _. let q : r + 1 - 1 ≡ r = omega arith in ap (is_open s') q ∙ e;
  };
  lower = omega (arith, rest a b r e);
}

-- one that is in the word of h
pub shut_word : {s s' : List ℕ} {h r : ℕ} → Lightest s (h + 1) → Changed s s' h 0 → h < 65536
    → Highest (nth s' (0 + h / 64)) (h / 64) r → Shut s s' h (r + 1)
shut_word {s} {s'} {h} {r} a b l t =
    let t₁ = highest_in_layer 0 1024 s' {a = h / 64} {r = r} (omega arith) t in
    shut_lightest a b r (highest_member (words s') t₁) (λ k e i. highest_most (words s') t₁ k e (omega arith))

-- the lightest below 4096 (b + 1), where none is above
pub shut_middle : {s s' : List ℕ} {h b r : ℕ} → Lightest s (h + 1) → Changed s s' h 0
    → ((l : ℕ) → is_open s' l ≡ 1 → l < h → l / 64 / 64 ≤ b) → LightestUpTo s' b r → Shut s s' h (r + 1)
unfolding is_open
shut_middle {r = r} a b n t = shut_lightest a b r t.held (λ k e i. t.most k e (n k e i))

-- the lightest level by the greatest members of a middle word and of a word
pub lightest_up_to : {s : List ℕ} {b c r : ℕ} → Layers s → b < 16 → Highest (nth s (1024 + b)) b c
    → Highest (nth s (0 + c)) c r → LightestUpTo s b r
unfolding is_open
lightest_up_to {s} {b} {c} {r} o l t u =
    let t₁ = highest_in_layer 1024 16 s {a = b} {r = c} l t in
    let i : c < 1024 = omega (arith, t.word) in
    let u₁ = highest_in_layer 0 1024 s {a = c} {r = r} i u in
    record {
      small = omega (arith, u.word);
      held = highest_member (words s) u₁;
      most = λ k e g. highest_most (words s) u₁ k e (highest_most (middle s) t₁ (k / 64) (member_above o.mid k e) g);
    }

-- none is left
pub shut_none : {s s' : List ℕ} {h : ℕ} → Lightest s (h + 1) → Changed s s' h 0 → h < 65536 → nth s' (1040 + 0) ≡ 0 → Shut s s' h 0
unfolding is_open
shut_none {s} {s'} {h} a b l z = record {
  changed = b;
  lightest = record {
    above = λ k e.
        let i : k < h = rest a b k e in
        let n : k / 64 / 64 / 64 ≡ 0 = omega arith in
        omega (
          arith,
          member_nonzero (root s') (k / 64 / 64) (member_above b.layers.top (k / 64) (member_above b.layers.mid k e)),
          ap (nth (root s')) n,
          part_in 1040 1 s' 0 (omega arith),
        );
    held = λ p. omega arith;
  };
  lower = omega arith;
}
