-- Laws for callers of open_level and shut_level: the empty set, bounds, the lightest level after a level is opened, words after the layers.
use mathlib.Core.Path.{◌≡◌, sym, ap, ◌∙◌, fun_ext}
use mathlib.Core.List.{List}
use Prim.Native.Nat.{ℕ, ◌+◌, ◌-◌, ◌/◌, ◌%◌, ◌≤◌, ◌<◌}
use native.Mathlib.Nat.{le_antisymm, mod-lt}
use native.Mathlib.Decide.{dec_le, ℕ_discrete}
use native.Mathlib.Omega.{arith}
use lib.ListN.{set, replicate, length-set, length-replicate, get_or-replicate}
use lib.Seq.{get_or-drop}
use Rattle.meaning.specs.Sets.{nth}
use Rattle.flood_open_levels.specs.Levels.{bit_at, signum, member, part, words, Layers, is_open, Lightest, Changed}
use Rattle.flood_open_levels.proofs.Bits.{zero_bit}
use Rattle.flood_open_levels.proofs.Words.{part_in, part_out, part_after, member_inside}
use Rattle.flood_open_levels.proofs.Layered.{summary_same}

-- a slice of zeros holds the empty set
zero-part : (b n k : ℕ) → b + n ≤ k → (a : ℕ) → nth (part b n (replicate k 0)) a ≡ 0
zero-part b n k l a =
    let s : List ℕ = replicate k 0 in
    elim (dec_le n a) [
      | yes h ↦ part_out b n s a (omega (arith, length-replicate {A = ℕ} k 0)) h
      | no h ↦ part_in b n s a (omega arith) ∙ get_or-replicate k (b + a) 0 0 (omega arith)
    ]

zero-member : (b n k : ℕ) → b + n ≤ k → (j : ℕ) → member (part b n (replicate k 0)) j ≡ 0
unfolding member
zero-member b n k l j = ap (λ (x : ℕ). bit_at x (j % 64)) (zero-part b n k l (j / 64)) ∙ zero_bit (j % 64)

pub empty : (k : ℕ) → 1041 ≤ k → Layers (replicate k 0)
empty k l = record {
  room = omega (arith, length-replicate {A = ℕ} k 0);
  mid = record { tells = λ a. zero-member 1024 16 k (omega arith) a ∙ ap signum (sym (zero-part 0 1024 k (omega arith) a)) };
  top = record { tells = λ a. zero-member 1040 1 k (omega arith) a ∙ ap signum (sym (zero-part 1024 16 k (omega arith) a)) };
}

pub empty_none : (k : ℕ) → 1041 ≤ k → (m : ℕ) → is_open (replicate k 0) m ≡ 0
unfolding is_open
empty_none k l m = zero-member 0 1024 k (omega arith) m

pub empty_lightest : (k : ℕ) → 1041 ≤ k → Lightest (replicate k 0) 0
empty_lightest k l = record { above = λ m e. omega (arith, empty_none k l m); held = λ p. omega arith }

-- is_open is 0 or 1
pub open_or_not : (s : List ℕ) (m : ℕ) → is_open s m < 2
unfolding is_open member bit_at
open_or_not s m = mod-lt _ (omega arith)

-- the open levels are below 65,536
pub bounded : {s : List ℕ} → Layers s → (m : ℕ) → is_open s m ≡ 1 → m < 65536
unfolding is_open
bounded {s} r m e = omega (arith, member_inside 0 1024 s m (omega (arith, r.room)) e)

-- the lightest after the level m is opened: m, or as before
pub raised : {s s' : List ℕ} {m u : ℕ} → Changed s s' m 1 → Lightest s u → u ≤ m → Lightest s' (m + 1)
raised {s} {s'} {m} {u} b a l = record {
  above = λ k e. elim (ℕ_discrete k m) [
    | yes q ↦ omega arith
    | no d ↦ omega (arith, a.above k (sym (b.other k d) ∙ e))
  ];
  held = λ _. let q : m + 1 - 1 ≡ m = omega arith in ap (is_open s') q ∙ b.here;
}

pub lightest-stays : {s s' : List ℕ} {m u : ℕ} → Changed s s' m 1 → Lightest s u → m < u → Lightest s' u
lightest-stays {s} {s'} {m} {u} b a l = record {
  above = λ k e. elim (ℕ_discrete k m) [
    | yes q ↦ omega arith
    | no d ↦ a.above k (sym (b.other k d) ∙ e)
  ];
  held = λ p. elim (ℕ_discrete (u - 1) m) [
    | yes q ↦ ap (is_open s') q ∙ b.here
    | no d ↦ b.other (u - 1) d ∙ a.held p
  ];
}

-- the lightest is unique
pub lightest_one : {s : List ℕ} {u v : ℕ} → Lightest s u → Lightest s v → u ≡ v
lightest_one {s} {u} {v} a b = le_antisymm (up_to a b) (up_to b a)
  where
    up_to : {u v : ℕ} → Lightest s u → Lightest s v → u ≤ v
    up_to {u} {v} a b = elim (dec_le u 0) [
      | yes h ↦ omega arith
      | no h ↦ omega (arith, b.above (u - 1) (a.held (omega arith)))
    ]

-- ---- the words after the layers

-- opening and shutting a level leave them
pub word_stays : {s s' : List ℕ} {m v : ℕ} → Changed s s' m v → (i : ℕ) → 1041 ≤ i → nth s' i ≡ nth s i
word_stays {s} {s'} c i l =
    let q : 1041 + (i - 1041) ≡ i = omega arith in
    ap (nth s') (sym q) ∙ sym (get_or-drop 1041 s' (i - 1041) 0) ∙ ap (λ (t : List ℕ). nth t (i - 1041)) c.tail
    ∙ get_or-drop 1041 s (i - 1041) 0 ∙ ap (nth s) q

-- a store there leaves the set
module _ (s : List ℕ) (i x : ℕ) (l : 1041 ≤ i) where
  words_beside : words (set s i x) ≡ words s
  words_beside = part_after 0 1024 s i x (omega arith)

  pub layers_beside : Layers s → Layers (set s i x)
  layers_beside r = record {
    room = omega (arith, length-set s i x, r.room);
    mid = summary_same words_beside (part_after 1024 16 s i x (omega arith)) r.mid;
    top = summary_same (part_after 1024 16 s i x (omega arith)) (part_after 1040 1 s i x (omega arith)) r.top;
  }

  pub open_beside : is_open (set s i x) ≡ is_open s
  unfolding is_open
  open_beside = fun_ext (λ (m : ℕ). ap (λ (f : List ℕ). member f m) words_beside)

  pub lightest_beside : {u : ℕ} → Lightest s u → Lightest (set s i x) u
  lightest_beside {u} a = record {
    above = λ k e. a.above k (ap (λ (f : ℕ → ℕ). f k) (sym open_beside) ∙ e);
    held = λ p. ap (λ (f : ℕ → ℕ). f (u - 1)) open_beside ∙ a.held p;
  }
