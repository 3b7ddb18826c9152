-- A plate's cut and its size list, by their definitions, are what demand 3 says of them.
use mathlib.Core.Path.{◌≡◌, ap, ◌∙◌}
use mathlib.Core.Bool.{Bool, not, ◌&&◌}
use mathlib.Core.List.{List}
use Prim.Native.Nat.{ℕ, suc, ◌-◌, ◌*◌, ◌≤◌, ◌<◌}
use native.Mathlib.Nat.{le_refl, mul_comm}
use native.Mathlib.Omega.{arith}
use lib.Dec.{eqb}
use lib.ListN.{length, take, drop, get_or-append}
use lib.Seq.{take_at}
use Rattle.meaning.specs.Answers.{over}
use Rattle.meaning.specs.Cut.{count_at, counts, cut, darkest, held, losses, lost_at, total}
use Rattle.meaning.specs.Nodes.{area_of, holds, nodes_of}
use Rattle.meaning.specs.Opening.{attribute, reaches}
use Rattle.meaning.specs.Plate.{Plate, grey, on_trim_edge, touch}
use Rattle.meaning.specs.Sets.{area, nth, sum, table}
use Rattle.theory_lists.proofs.Lists.{get_d_table, length-table}
use Rattle.theory_lists.proofs.Sums.{sum_cong}
use Rattle.theorems.proofs.Plates.{plate_sizes}
use Rattle.theorems.proofs.Theorems.{counted_off_edge, cut_equals_opened, held_makes_cut, losses_make_total, lost_makes_cut}
use Rattle.theorems.proofs.Theorems.{opened-is-lightest, opened_large_maxima, opened_nowhere_lighter}
use Rattle.demands.specs.Claims.{IsCut, IsSizeList}

-- ---- what stands in front of the excess

pub over-take : (xs out : List ℕ) (n : ℕ) → length xs ≡ n → take n (over xs out) ≡ xs
over-take xs out n e = take_at xs (drop (length xs) out) n e

pub over-nth : (xs out : List ℕ) (i : ℕ) → i < length xs → nth (over xs out) i ≡ nth xs i
over-nth xs out i l = get_or-append xs (drop (length xs) out) 0 i l

over-table : (m : ℕ) (g : ℕ → ℕ) (out : List ℕ) (i : ℕ) → i < m → nth (over (table m g) out) i ≡ g i
over-table m g out i l = over-nth (table m g) out i (omega (arith, length-table m g)) ∙ get_d_table m g i 0 l

module _ {k w h M : ℕ} {f : List ℕ} (pl : Plate k w h M f) where
  abbrev n : ℕ
  n = length f

  abbrev near : ℕ → ℕ → Bool
  near = touch k w

  abbrev xs : List ℕ
  xs = nodes_of k w f

  pub is_cut : (limit : ℕ) → limit ≤ w * h → IsCut k w h limit f (cut k w h limit f)
  is_cut limit m =
      let fits : limit ≤ n = omega (arith, pl.long) in
      rw (cut_equals_opened pl limit fits) (record {
        nowhere_lighter = opened_nowhere_lighter pl limit fits;
        large_maxima = opened_large_maxima pl limit fits;
        lightest = opened-is-lightest pl limit fits;
      })

  over-pixels : n * darkest f ≡ darkest f * (w * h)
  over-pixels = mul_comm n (darkest f) ∙ ap (λ (m : ℕ). darkest f * m) pl.long

  -- ---- the size list, whatever stands after the tables

  module _ (counted lost : List ℕ) where
    count_is : (i : ℕ) → i < w * h - 1
        → nth (over (counts k w h f) counted) i
        ≡ area (length xs) (λ (j : ℕ). not (reaches n (on_trim_edge w h) (holds n near (grey f) xs j)) && eqb (area_of n near (grey f) xs j) (suc i))
    unfolding counts
    count_is i l =
        over-table (n - 1) (λ (i : ℕ). count_at n near (grey f) xs (attribute w h) (suc i)) counted i (omega (arith, pl.long))
        ∙ counted_off_edge pl (suc i) (omega (arith, pl.long))

    abbrev lost_of : ℕ → ℕ
    lost_of i = lost_at n near (grey f) xs (attribute w h) (suc i)

    loss_is : (i : ℕ) → i < w * h - 1 → nth (over (losses k w h f) lost) i ≡ lost_of i
    unfolding losses
    loss_is i l = over-table (n - 1) lost_of lost i (omega (arith, pl.long))

    -- the totals may be given in any way
    pub is_list : (cut_total : ℕ → ℕ) → ((a : ℕ) → 1 ≤ a → a ≤ w * h → cut_total a ≡ total (cut k w h a f))
        → IsSizeList k w h f (over (counts k w h f) counted) (over (losses k w h f) lost) (darkest f) (held k w h f) cut_total
    is_list cut_total is = record {
      node_counts = λ a l m. let e : suc (a - 1) ≡ a = omega arith in rw e at (count_is (a - 1) (omega arith));
      grey_lost = λ a l m.
          let e : suc (a - 1) ≡ a = omega arith in
          omega (
            arith,
            loss_is (a - 1) (omega arith),
            ap (lost_at n near (grey f) xs (attribute w h)) e,
            lost_makes_cut pl a (omega (arith, pl.long)),
            is a l (omega arith),
            is (suc a) (omega arith) m,
          );
      grey-held =
          let full : total (cut k w h n f) ≡ total (cut k w h (w * h) f) = ap (λ (m : ℕ). total (cut k w h m f)) pl.long in
          omega (arith, held_makes_cut pl, over-pixels, full, is (w * h) (plate_sizes pl).some-pixels (le_refl (w * h)));
      whole =
          omega (
            arith,
            sum_cong (w * h - 1) (nth (over (losses k w h f) lost)) lost_of loss_is,
            ap (λ (m : ℕ). sum (m - 1) lost_of) pl.long,
            over-pixels,
            losses_make_total pl,
          );
    }
