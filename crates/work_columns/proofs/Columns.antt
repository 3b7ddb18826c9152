-- Laws of columns: a store at an entry of a column changes only that place; frames compose, and so do changes of one column; two columns that agree
-- are equal.
use mathlib.Core.Path.{◌≡◌, refl, sym, ap, ◌∙◌, fun_ext}
use mathlib.Core.Logic.{inl, inr}
use mathlib.Core.Bool.{Bool, true, false}
use mathlib.Core.List.{List, ◌++◌}
use Prim.Native.Nat.{ℕ, suc, ◌+◌, ◌-◌, ◌*◌, ◌%◌, ◌<◌}
use native.Mathlib.Nat.{mul-le-mul_right, suc-mul}
use native.Mathlib.Decide.{dec_le, dec_lt}
use native.Mathlib.Omega.{arith}
use lib.Dec.{T, eqb, eqb→eq, ltb, ltb→lt, lt→ltb, nltb→le, not_T}
use Rattle.std.proofs.lemmas.Bool.{eq-eqb, false≢true}
use lib.ListN.{length, drop, get_or, replicate, set, length-set, get_or-eq_default}
use lib.Seq.{get_or-set_same, get_or-set_other, drop-set-lt}
use Rattle.meaning.specs.Answers.{work_after}
use Rattle.meaning.specs.Plate.{grey}
use Rattle.meaning.specs.Sets.{pick}
use Rattle.theory_lists.proofs.Sets.{same_or_not}
use Rattle.theory_lists.proofs.Tests.{choice, pick_no, pick_yes}
use Rattle.work_columns.specs.Columns.{CellStored, Frame, Only, Put, Room, Stored, cell, col, pair_at}
use Rattle.work_columns.specs.Layout.{GREY, level_in}

pub frame-refl : (n : ℕ) (w : List ℕ) → Frame n w w
frame-refl n w = record { len = refl; tail = refl }

pub frame_trans : {n : ℕ} {w w' w'' : List ℕ} → Frame n w w' → Frame n w' w'' → Frame n w w''
frame_trans a b = record { len = b.len ∙ a.len; tail = b.tail ∙ a.tail }

-- the slice has room as long as it keeps its length
pub frame_room : {n : ℕ} {w w' : List ℕ} → Room w n → Frame n w w' → Room w' n
frame_room r a = record { small = r.small; room = omega (arith, a.len, r.room) }

-- the columns of w' set to zero, by what the work space w was at the start
pub cleared : {n : ℕ} {w w' w'' : List ℕ} → Frame n w w' → w'' ≡ replicate (8 * n) 0 ++ drop (8 * n) w' → w'' ≡ work_after true n w
cleared {n} f e = e ∙ ap (λ (t : List ℕ). replicate (8 * n) 0 ++ t) f.tail

pub col_in : (c n : ℕ) (w : List ℕ) (i : ℕ) → i < n → col c n w i ≡ get_or w (c * n + i) 0
unfolding col
col_in c n w i l = pick_yes (ltb i n) (get_or w (c * n + i) 0) 0 (lt→ltb i n l)

-- a pixel's level is where its entry in GREY is
pub levels_same : (n : ℕ) (w w' : List ℕ) → col GREY n w' ≡ col GREY n w → level_in n w' ≡ level_in n w
unfolding level_in
levels_same n w w' e = ap (λ (g : ℕ → ℕ). λ (p : ℕ). g p % 65536) e

-- it is the entry itself where that is below 65,536
pub low_level : (n : ℕ) (w : List ℕ) (p : ℕ) → col GREY n w p < 65536 → level_in n w p ≡ col GREY n w p
unfolding level_in
low_level n w p l = omega arith

-- two columns that agree are equal
pub col-same : (c n : ℕ) (w w' : List ℕ) → ((i : ℕ) → i < n → get_or w' (c * n + i) 0 ≡ get_or w (c * n + i) 0) → col c n w' ≡ col c n w
unfolding col
col-same c n w w' e = fun_ext go
  where
    go : (i : ℕ) → pick (ltb i n) (get_or w' (c * n + i) 0) 0 ≡ pick (ltb i n) (get_or w (c * n + i) 0) 0
    go i = elim (choice (ltb i n)) [
      | inl t ↦ pick_yes (ltb i n) (get_or w' (c * n + i) 0) 0 t ∙ e i (ltb→lt i n t) ∙ sym (pick_yes (ltb i n) (get_or w (c * n + i) 0) 0 t)
      | inr t ↦ pick_no (ltb i n) (get_or w' (c * n + i) 0) 0 t ∙ sym (pick_no (ltb i n) (get_or w (c * n + i) 0) 0 t)
    ]

-- an entry of one of eight columns stands before the end of the columns
pub before : (n c i : ℕ) → c < 8 → i < n → c * n + i < 8 * n
before n c i hc hi = omega (arith, mul-le-mul_right {m = c} {n = 7} n (omega arith))

-- entries of two columns have two places
places : (n d c p i : ℕ) → (d ≡ c → ⊥) → p < n → i < n → d * n + p ≡ c * n + i → ⊥
places n d c p i x lp li e = elim (dec_le d c) [
  | yes h ↦ omega (arith, mul-le-mul_right {m = suc d} {n = c} n (omega arith), suc-mul d n)
  | no h ↦ omega (arith, mul-le-mul_right {m = suc c} {n = d} n (omega arith), suc-mul c n)
]

-- the one place where a store is a `set` of a list
pub stored : {w : List ℕ} {n : ℕ} → Room w n → (c i v : ℕ) → c < 8 → i < n → Stored w (set w (c * n + i) v) n c i v
stored {w} {n} r c i v hc hi = record {
  frame = record { len = length-set w (c * n + i) v; tail = drop-set-lt (8 * n) w (c * n + i) v (before n c i hc hi) };
  put = record {
    here = col_in c n (set w (c * n + i) v) i hi ∙ get_or-set_same w (c * n + i) v 0 (omega (arith, before n c i hc hi, r.room));
    other = λ j l d.
        col_in c n (set w (c * n + i) v) j l ∙ get_or-set_other w (c * n + i) (c * n + j) v 0 (λ e. d (omega arith)) ∙ sym (col_in c n w j l);
  };
  off = λ d b x. col-same d n w (set w (c * n + i) v) (λ p l. get_or-set_other w (c * n + i) (d * n + p) v 0 (places n d c p i x l hi));
}

-- ---- one column that changes

pub only-refl : (c n : ℕ) (w : List ℕ) → Only c n w w
only-refl c n w = record { frame = frame-refl n w; off = λ d l x. refl }

pub only_trans : {c n : ℕ} {w w' w'' : List ℕ} → Only c n w w' → Only c n w' w'' → Only c n w w''
only_trans a b = record { frame = frame_trans a.frame b.frame; off = λ d l x. b.off d l x ∙ a.off d l x }

pub only_store : {c n i v : ℕ} {w w' : List ℕ} → Stored w w' n c i v → Only c n w w'
only_store s = record { frame = s.frame; off = s.off }

-- ---- columns that are filled, or that are a plate

-- beyond its pixels a plate is 0, as a column is beyond its end
pub column_plate : (c n : ℕ) (w f : List ℕ) → length f ≡ n → ((p : ℕ) → p < n → col c n w p ≡ grey f p) → col c n w ≡ grey f
unfolding col
column_plate c n w f e agree = fun_ext go
  where
    go : (p : ℕ) → col c n w p ≡ grey f p
    go p = elim (choice (ltb p n)) [
      | inl t ↦ agree p (ltb→lt p n t)
      | inr t ↦ pick_no (ltb p n) (get_or w (c * n + p) 0) 0 t ∙ sym (get_or-eq_default f 0 {n = p} (omega (arith, nltb→le p n (not_T (ltb p n) t))))
    ]

-- one more entry of a column that agrees with g from its front
pub column-more : {w w' : List ℕ} {n c i v : ℕ} (g : ℕ → ℕ) → Stored w w' n c i v → i < n → v ≡ g i
    → ((j : ℕ) → j < i → col c n w j ≡ g j) → (j : ℕ) → j < i + 1 → col c n w' j ≡ g j
column-more {i = i} g s l e done j h = elim (dec_lt j i) [
  | yes k ↦ s.put.other j (omega arith) (λ x. omega arith) ∙ done j k
  | no k ↦ (let x : j ≡ i = omega arith in rw x (s.put.here ∙ e))
]

-- ---- two columns side by side

pub pair_in : (k n : ℕ) (w : List ℕ) (i : ℕ) → i < n → pair_at k n w i ≡ get_or w (5 * n + (2 * i + k)) 0
unfolding pair_at
pair_in k n w i l = pick_yes (ltb i n) (get_or w (5 * n + (2 * i + k)) 0) 0 (lt→ltb i n l)

-- two pairs that agree are equal
pair_same : (k n : ℕ) (w w' : List ℕ) → ((i : ℕ) → i < n → get_or w' (5 * n + (2 * i + k)) 0 ≡ get_or w (5 * n + (2 * i + k)) 0) → pair_at k n w' ≡ pair_at k n w
unfolding pair_at
pair_same k n w w' e = fun_ext go
  where
    go : (i : ℕ) → pick (ltb i n) (get_or w' (5 * n + (2 * i + k)) 0) 0 ≡ pick (ltb i n) (get_or w (5 * n + (2 * i + k)) 0) 0
    go i = elim (choice (ltb i n)) [
      | inl t ↦
          pick_yes (ltb i n) (get_or w' (5 * n + (2 * i + k)) 0) 0 t ∙ e i (ltb→lt i n t) ∙ sym (pick_yes (ltb i n) (get_or w (5 * n + (2 * i + k)) 0) 0 t)
      | inr t ↦ pick_no (ltb i n) (get_or w' (5 * n + (2 * i + k)) 0) 0 t ∙ sym (pick_no (ltb i n) (get_or w (5 * n + (2 * i + k)) 0) 0 t)
    ]

pick_other : {X : Type 0} (b : Bool) (x y : X) → (T b → ⊥) → pick b x y ≡ y
pick_other true x y f = absurd (f tt)
pick_other false x y f = refl

-- the other columns are columns
pub cell-plain : (d n : ℕ) (w : List ℕ) → (d ≡ 5 → ⊥) → (d ≡ 6 → ⊥) → cell d n w ≡ col d n w
cell-plain d n w e f =
    pick_other (eqb d 5) (pair_at 1 n w) (pick (eqb d 6) (pair_at 0 n w) (col d n w)) (λ t. e (eqb→eq d 5 t))
    ∙ pick_other (eqb d 6) (pair_at 0 n w) (col d n w) (λ t. f (eqb→eq d 6 t))

-- which cells a store may change
cells_kept : (n : ℕ) (w w' : List ℕ) (d : ℕ)
    → (d ≡ 5 → (i : ℕ) → i < n → get_or w' (5 * n + (2 * i + 1)) 0 ≡ get_or w (5 * n + (2 * i + 1)) 0)
    → (d ≡ 6 → (i : ℕ) → i < n → get_or w' (5 * n + (2 * i + 0)) 0 ≡ get_or w (5 * n + (2 * i + 0)) 0)
    → ((d ≡ 5 → ⊥) → (d ≡ 6 → ⊥) → col d n w' ≡ col d n w) → cell d n w' ≡ cell d n w
cells_kept n w w' d five six plain = elim (same_or_not d 5) [
  | inl e ↦ rw e (pair_same 1 n w w' (five e))
  | inr e ↦ elim (same_or_not d 6) [
    | inl f ↦ rw f (pair_same 0 n w w' (six f))
    | inr f ↦ cell-plain d n w' e f ∙ plain e f ∙ sym (cell-plain d n w e f)
  ]
]

-- a store in another column
pub plain_stored : {w w' : List ℕ} {n c i v : ℕ} → Stored w w' n c i v → (c ≡ 5 → ⊥) → (c ≡ 6 → ⊥) → CellStored w w' n c i v
plain_stored {w} {w'} {n} {c} {i} {v} s e f = record {
  frame = s.frame;
  put = rw (cell-plain c n w e f, cell-plain c n w' e f) s.put;
  off = λ d l x. cells_kept n w w' d (λ a j b. entry (2 * j + 1) (omega arith)) (λ a j b. entry (2 * j + 0) (omega arith)) (λ a b. s.off d l x);
}
  where
    -- an entry of the columns 5 and 6
    entry : (j : ℕ) → j < 2 * n → get_or w' (5 * n + j) 0 ≡ get_or w (5 * n + j) 0
    entry j l = elim (dec_lt j n) [
      | yes k ↦ sym (col_in 5 n w' j k) ∙ ap (λ (g : ℕ → ℕ). g j) (s.off 5 (omega arith) (λ x. e (sym x))) ∙ col_in 5 n w j k
      | no k ↦
          let at : 5 * n + j ≡ 6 * n + (j - n) = omega arith in
          let b : j - n < n = omega arith in
          ap (λ (q : ℕ). get_or w' q 0) at ∙ sym (col_in 6 n w' (j - n) b)
          ∙ ap (λ (g : ℕ → ℕ). g (j - n)) (s.off 6 (omega arith) (λ x. f (sym x))) ∙ col_in 6 n w (j - n) b ∙ ap (λ (q : ℕ). get_or w q 0) (sym at)
    ]

-- the same for a column that is a numeral: both tests are `refl`
pub put_stored : {w w' : List ℕ} {n c i v : ℕ} → Stored w w' n c i v → eqb c 5 ≡ false → eqb c 6 ≡ false → CellStored w w' n c i v
put_stored {c = c} s e f = plain_stored s (λ q. false≢true (sym e ∙ eq-eqb c 5 q)) (λ q. false≢true (sym f ∙ eq-eqb c 6 q))

-- a store in a pair
module _ {w : List ℕ} {n : ℕ} (r : Room w n) (i v : ℕ) (l : i < n) where
  pair_place : (k : ℕ) → k < 2 → 5 * n + (2 * i + k) < length w
  pair_place k h = omega (arith, r.room)

  pair-frame : (k : ℕ) → k < 2 → Frame n w (set w (5 * n + (2 * i + k)) v)
  pair-frame k h = record {
    len = length-set w (5 * n + (2 * i + k)) v;
    tail = drop-set-lt (8 * n) w (5 * n + (2 * i + k)) v (omega arith);
  }

  pair_put : (k : ℕ) → k < 2 → Put n (pair_at k n w) (pair_at k n (set w (5 * n + (2 * i + k)) v)) i v
  pair_put k h = record {
    here = pair_in k n (set w (5 * n + (2 * i + k)) v) i l ∙ get_or-set_same w (5 * n + (2 * i + k)) v 0 (pair_place k h);
    other = λ j b d.
        pair_in k n (set w (5 * n + (2 * i + k)) v) j b
        ∙ get_or-set_other w (5 * n + (2 * i + k)) (5 * n + (2 * j + k)) v 0 (λ e. d (omega arith))
        ∙ sym (pair_in k n w j b);
  }

  pair_other : (k k' : ℕ) → k < 2 → k' < 2 → (k' ≡ k → ⊥) → (j : ℕ)
      → get_or (set w (5 * n + (2 * i + k)) v) (5 * n + (2 * j + k')) 0 ≡ get_or w (5 * n + (2 * j + k')) 0
  pair_other k k' h h' d j = get_or-set_other w (5 * n + (2 * i + k)) (5 * n + (2 * j + k')) v 0 (λ e. d (omega arith))

  pair-plain : (k d : ℕ) → k < 2 → d < 8 → (d ≡ 5 → ⊥) → (d ≡ 6 → ⊥) → col d n (set w (5 * n + (2 * i + k)) v) ≡ col d n w
  pair-plain k d h b e f =
      col-same d n w (set w (5 * n + (2 * i + k)) v)
      (λ p lp. get_or-set_other w (5 * n + (2 * i + k)) (d * n + p) v 0 (λ z. elim (dec_le d 4) [
        | yes y ↦ omega (arith, mul-le-mul_right {m = d} {n = 4} n y)
        | no y ↦ omega (arith, mul-le-mul_right {m = 7} {n = d} n (omega arith))
      ]))

  pub first_stored : CellStored w (set w (5 * n + (2 * i + 0)) v) n 6 i v
  first_stored = record {
    frame = pair-frame 0 (omega arith);
    put = pair_put 0 (omega arith);
    off = λ d b x.
        cells_kept n w (set w (5 * n + (2 * i + 0)) v) d
        (λ e j h. pair_other 0 1 (omega arith) (omega arith) (λ z. omega arith) j)
        (λ e j h. absurd (x e))
        (λ e f. pair-plain 0 d (omega arith) b e f);
  }

  pub second_stored : CellStored w (set w (5 * n + (2 * i + 1)) v) n 5 i v
  second_stored = record {
    frame = pair-frame 1 (omega arith);
    put = pair_put 1 (omega arith);
    off = λ d b x.
        cells_kept n w (set w (5 * n + (2 * i + 1)) v) d
        (λ e j h. absurd (x e))
        (λ e j h. pair_other 1 0 (omega arith) (omega arith) (λ z. omega arith) j)
        (λ e f. pair-plain 1 d (omega arith) b e f);
  }

  -- of column c, 5 or 6
  pub pair_stored : (c : ℕ) → 4 < c → c < 7 → CellStored w (set w (5 * n + (2 * i + (6 - c))) v) n c i v
  pair_stored c a b = elim (same_or_not c 5) [
    | inl e ↦ rw e second_stored
    | inr e ↦ let f : c ≡ 6 = omega arith in rw f first_stored
  ]

-- an entry of column c, 5 or 6
pub pair_entry : (n : ℕ) (w : List ℕ) (i c : ℕ) → i < n → 4 < c → c < 7 → cell c n w i ≡ get_or w (5 * n + (2 * i + (6 - c))) 0
pair_entry n w i c l a b = elim (same_or_not c 5) [
  | inl e ↦ rw e (pair_in 1 n w i l)
  | inr e ↦ let f : c ≡ 6 = omega arith in rw f (pair_in 0 n w i l)
]
