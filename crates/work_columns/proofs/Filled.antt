-- A part of a column is written as one part of the slice: k entries of column c from its front are v, and nothing else changes.
use mathlib.Core.Path.{◌≡◌, sym, ◌∙◌}
use mathlib.Core.List.{List}
use Prim.Native.Nat.{ℕ, suc, ◌+◌, ◌*◌, ◌≤◌, ◌<◌}
use native.Mathlib.Nat.{mul-le-mul_right, suc-mul}
use native.Mathlib.Decide.{dec_lt}
use native.Mathlib.Omega.{arith}
use borrow.Author.Rules.{rules}
use borrow.Rule.Slice.PartMut.{put_mid}
use lib.ListN.{length, drop, take, get_or, length-replicate, replicate}
use Rattle.std.proofs.lemmas.List.{places}
use Rattle.std.proofs.lemmas.Slice.{drop-put_mid}
use Rattle.work_columns.specs.Columns.{Filled, Room}
use Rattle.work_columns.proofs.Columns.{col_in, col-same}

-- w' is what a write to the part leaves
module _ {w : List ℕ} {n : ℕ} (r : Room w n) (c k v : ℕ) (hc : c < 8) (hk : k ≤ n) where
  abbrev w' : List ℕ
  w' = put_mid (c * n) k w (replicate k v)

  column_fits : c * n + n ≤ 8 * n
  column_fits = omega (arith, mul-le-mul_right {m = c} {n = 7} n (omega arith))

  part_fits : c * n + k ≤ length w
  part_fits = omega (arith, column_fits, r.room)

  part_length : length w' ≡ length w
  part_length = let f = part_fits in search (rules, places)

  part_new : (i : ℕ) → i < k → get_or w' (c * n + i) 0 ≡ v
  part_new i l = let f = part_fits in search (rules, places)

  part_before : (i : ℕ) → i < c * n → get_or w' i 0 ≡ get_or w i 0
  part_before i l = let f = part_fits in search (rules, places)

  part_after : (i : ℕ) → c * n + k ≤ i → get_or w' i 0 ≡ get_or w i 0
  part_after i l = let f = part_fits in search (rules, places)

  pub filled : Filled w w' n c k v
  filled = record {
    only = record {
      frame = record {
        len = part_length;
        tail = drop-put_mid (c * n) k w (replicate k v) (8 * n) (omega (arith, column_fits)) (omega (arith, part_fits)) (length-replicate k v);
      };
      off = λ d b x. col-same d n w w' (λ p l. elim (dec_lt d c) [
        | yes h ↦ part_before (d * n + p) (omega (arith, mul-le-mul_right {m = suc d} {n = c} n (omega arith), suc-mul d n))
        | no h ↦ part_after (d * n + p) (omega (arith, mul-le-mul_right {m = suc c} {n = d} n (omega arith), suc-mul c n))
      ]);
    };
    here = λ i l. col_in c n w' i (omega arith) ∙ part_new i l;
    rest = λ i l h. col_in c n w' i h ∙ part_after (c * n + i) (omega arith) ∙ sym (col_in c n w i h);
  }

-- the same where the part and what it holds go by other names
pub part_filled : {w ys : List ℕ} {n : ℕ} (c k v m : ℕ) → Room w n → c < 8 → k ≤ n → m ≡ k
    → ys ≡ replicate (length (take m (drop (c * n) w))) v → Filled w (put_mid (c * n) m w ys) n c k v
part_filled {w} {ys} {n} c k v m r hc hk e u =
    let f = part_fits r c k v hc hk in
    let len : length (take k (drop (c * n) w)) ≡ k = search (rules, places) in
    rw (u, e, len) (filled r c k v hc hk)
