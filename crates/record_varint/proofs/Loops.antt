-- Loops over the fields of a record, each with a number by place: measuring the bytes, writing them, comparing them.
use mathlib.Core.Path.{◌≡◌, refl, sym, ap, ◌∙◌}
use mathlib.Core.Bool.{Bool, true, false, ◌&&◌}
use mathlib.Core.List.{List, [], ◌∷◌, ◌++◌}
use Prim.Native.Nat.{ℕ, suc, ◌+◌, ◌*◌, ◌≤◌, ◌<◌}
use native.Mathlib.Nat.{zero-add, add-zero}
use native.Mathlib.Omega.{arith}
use native.Mathlib.Numerals.{add-one}
use lib.ListN.{length, get_or, set, take, drop, length-append}
use lib.Seq.{sets, sets-eq, length-sets, drop-drop}
use Rattle.meaning.specs.Sets.{pick}
use Rattle.meaning.specs.Record.{varint, encode}
use Rattle.meaning.specs.Answers.{over}
use Rattle.record_varint.specs.Field.{starts, accepted, refused, same_at}
use Rattle.record_varint.proofs.Groups.{varint-most}
use Rattle.record_varint.proofs.Starts.{starts_append}
use Rattle.record_varint.proofs.Encode.{encode-more, encode-none}

-- ---- measuring: the first i fields have `size` bytes
pub record Measured (fs : List ℕ) (i size : ℕ) : Type 0 where
  pub most : size ≤ 5 * i
  pub rest : size + length (encode (drop i fs)) ≡ length (encode fs)

pub measured_first : (fs : List ℕ) → Measured fs 0 0
measured_first fs = record { most = omega arith; rest = zero-add (length (encode fs)) }

module _ (fs : List ℕ) (i size : ℕ) (m : Measured fs i size) where
  pub measured_more : (n : ℕ) → i < length fs → n ≡ length (varint (get_or fs i 0)) → Measured fs (i + 1) (size + n)
  measured_more n h is = record {
    most = omega (arith, m.most, varint-most (get_or fs i 0));
    rest =
        rw add-one (omega (arith, m.rest, length-append (varint (get_or fs i 0)) (encode (drop (suc i) fs)), ap length (encode-more fs i h)));
  }

  pub measured_done : length fs ≤ i → size ≡ length (encode fs)
  measured_done h = omega (arith, m.rest, ap length (encode-none fs i h))

-- ---- writing: the first i fields stand in o, which was d, before the position `at`
pub record Wrote (fs d o : List ℕ) (i at : ℕ) : Type 0 where
  pub same : length o ≡ length d
  pub rest : at + length (encode (drop i fs)) ≡ length (encode fs)
  pub gives : sets o at (encode (drop i fs)) ≡ sets d 0 (encode fs)

pub wrote_first : (fs d : List ℕ) → Wrote fs d d 0 0
wrote_first fs d = record { same = refl; rest = zero-add (length (encode fs)); gives = refl }

sets_append : (xs ys l : List ℕ) (i : ℕ) → sets l i (xs ++ ys) ≡ sets (sets l i xs) (i + length xs) ys
sets_append [] ys l i = rw add-zero
sets_append (x ∷ xs) ys l i = let e : i + suc (length xs) ≡ suc i + length xs = omega arith in rw e (sets_append xs ys (set l i x) (suc i))

module _ (fs d o : List ℕ) (i at : ℕ) (w : Wrote fs d o i at) (room : length (encode fs) ≤ length d) where
  -- the next form has room
  pub wrote_room : i < length fs → at + length (varint (get_or fs i 0)) ≤ length o
  wrote_room h =
      omega (arith, w.rest, w.same, length-append (varint (get_or fs i 0)) (encode (drop (suc i) fs)), ap length (encode-more fs i h))

  pub wrote_more : (o' : List ℕ) (v next : ℕ) → i < length fs → v ≡ get_or fs i 0 → next ≡ at + length (varint v)
      → o' ≡ take at o ++ varint v ++ drop (at + length (varint v)) o → Wrote fs d o' (i + 1) next
  wrote_more o' v next h is after e =
      let r : at + length (varint v) ≤ length o = rw is (wrote_room h) in
      let stored : o' ≡ sets o at (varint v) = e ∙ sym (sets-eq (varint v) o at r) in
      let c : encode (drop i fs) ≡ varint v ++ encode (drop (suc i) fs) = rw is (encode-more fs i h) in
      record {
        same = ap length stored ∙ length-sets o at (varint v) ∙ w.same;
        rest = rw (add-one, after) (omega (arith, w.rest, length-append (varint v) (encode (drop (suc i) fs)), ap length c));
        gives = rw (add-one, after, stored, ← sets_append (varint v) (encode (drop (suc i) fs)) o at, ← c) w.gives;
      }

  pub wrote_done : length fs ≤ i → o ≡ over (encode fs) d
  wrote_done h =
      let g : o ≡ sets d 0 (encode fs) = rw (encode-none fs i h) at w.gives in
      g ∙ sets-eq (encode fs) d 0 (omega arith) ∙ rw zero-add

-- ---- comparing: the bytes s begin with the first i fields, which end at `at`, so that the rest decides
pub record Matched (fs s : List ℕ) (i at : ℕ) : Type 0 where
  pub rest : at + length (encode (drop i fs)) ≡ length (encode fs)
  pub decides : starts (encode (drop i fs)) (drop at s) ≡ starts (encode fs) s

pub matched_first : (fs s : List ℕ) → Matched fs s 0 0
matched_first fs s = record { rest = zero-add (length (encode fs)); decides = refl }

pick_same : (b : Bool) (v q v' q' n : ℕ) → pick b (accepted v q) (refused n) ≡ accepted v' q' → (b ≡ true) × (q ≡ q')
pick_same true v q v' q' n e = (refl, cc)
pick_same false v q v' q' n e = let z : ◌≡◌ {A = ℕ} 0 1 = cc in absurd (omega arith)

pick_other : (b : Bool) (v q n : ℕ) → pick b (accepted v q) (refused n) ≡ refused n → b ≡ false
pick_other true v q n e = let z : ◌≡◌ {A = ℕ} 0 1 = cc in absurd (omega arith)
pick_other false v q n e = refl

module _ (fs s : List ℕ) (i at : ℕ) (m : Matched fs s i at) where
  module _ (v : ℕ) (h : i < length fs) (is : v ≡ get_or fs i 0) where
    form : encode (drop i fs) ≡ varint v ++ encode (drop (suc i) fs)
    form = rw is (encode-more fs i h)

    step : (starts (varint v) (drop at s) && starts (encode (drop (suc i) fs)) (drop (length (varint v)) (drop at s))) ≡ starts (encode fs) s
    step = rw (form, starts_append (varint v) (encode (drop (suc i) fs)) (drop at s)) at m.decides

    pub matched_more : (next : ℕ) → accepted v next ≡ same_at s at v → Matched fs s (i + 1) next
    matched_more next e =
        let found = pick_same (starts (varint v) (drop at s)) v (at + length (varint v)) v next 24 (sym e) in
        let same : starts (varint v) (drop at s) ≡ true = found.0 in
        let after : next ≡ at + length (varint v) = sym found.1 in
        record {
          rest = rw (add-one, after) (omega (arith, m.rest, length-append (varint v) (encode (drop (suc i) fs)), ap length form));
          decides = rw (add-one, after, ← drop-drop (length (varint v)) at s) (rw same at step);
        }

    -- the bytes do not begin with the fields
    pub matched_differs : refused 24 ≡ same_at s at v → starts (encode fs) s ≡ false
    matched_differs e = sym (rw (pick_other (starts (varint v) (drop at s)) v (at + length (varint v)) 24 (sym e)) at step)

  pub matched_done : length fs ≤ i → (at ≡ length (encode fs)) × (starts (encode fs) s ≡ true)
  unfolding starts
  matched_done h = (omega (arith, m.rest, ap length (encode-none fs i h)), sym (rw (encode-none fs i h) at m.decides))
