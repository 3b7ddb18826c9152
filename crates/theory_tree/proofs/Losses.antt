-- Totals of cuts, and what each value of the attribute takes away. Proved for every attribute: the cut of the tree is the opening (cut_opened); the total
-- of the cut at a limit is the sum, over the nodes that qualify, of area times rise (total-nodes); the grey lost at a is that sum over the nodes whose
-- attribute is a (lost-nodes), and with the total at a + 1 it makes the total at a (total-lost); the losses at 1 .. n - 1 and the total at n make the
-- plate's total (losses-total); the total at a limit is the root's level times n and that sum over the qualifying nodes after the root (total-rest).
use mathlib.Core.Path.{◌≡◌, sym, ap, ◌∙◌}
use mathlib.Core.Bool.{Bool, true}
use mathlib.Core.List.{List}
use Prim.Native.Nat.{ℕ, suc, ◌+◌, ◌-◌, ◌*◌, ◌≤◌, ◌<◌}
use native.Mathlib.Nat.{le_trans, le_of_eq, le_antisymm}
use native.Mathlib.Decide.{dec_le}
use native.Mathlib.Omega.{arith}
use lib.Dec.{T, leb, le→leb, eqb, eqb→eq, eqb_refl}
use lib.ListN.{length}
use Rattle.meaning.specs.Component.{same}
use Rattle.meaning.specs.Cut.{cut_at, lost_at}
use Rattle.meaning.specs.Nodes.{area_of, holds, level_of, rise}
use Rattle.meaning.specs.Opening.{Attribute, Criterion, at_least, opened_at}
use Rattle.meaning.specs.Paths.{Grid}
use Rattle.meaning.specs.Plate.{Below}
use Rattle.meaning.specs.Sets.{nth, pick, sum}
use Rattle.theory_lists.proofs.Sets.{area_all, most_ge, most_le}
use Rattle.theory_lists.proofs.Sums.{sum_add, sum_cong, sum_first, sum-steps}
use Rattle.theory_lists.proofs.Tests.{orders, pick_le, pick_no, pick_yes}
use Rattle.theory_opening.proofs.Attribute.{attribute_criterion, attribute-falls, attribute_one}
use Rattle.theory_tree.specs.Tree.{Nodes, live}
use Rattle.theory_tree.proofs.Nodes.{over_holds, root_over, some-node}
use Rattle.theory_tree.proofs.Rises.{live_hit, live_level, total-sum}

-- ---- the cut of the tree is the opening

module _ {n : ℕ} {near : ℕ → ℕ → Bool} {keep : (ℕ → Bool) → Bool} (grid : Grid n near) (crit : Criterion n keep)
    {f : ℕ → ℕ} {xs : List ℕ} (nodes : Nodes n near f xs) where
  pub cut_opened : (p : ℕ) → p < n → cut_at n near f xs keep p ≡ opened_at n near keep f p
  unfolding cut_at live
  cut_opened p l =
      let g : ℕ → ℕ = λ (j : ℕ). pick (live n near f xs keep p j) (level_of n near f xs j) 0 in
      let r = live_hit grid crit nodes p l in
      le_antisymm
      (most_le (length xs) g (opened_at n near keep f p)
      (λ j m. pick_le (live n near f xs keep p j) (f (nth xs j)) (opened_at n near keep f p) (live_level grid crit nodes p j l)))
      (le_trans (le_of_eq (sym r.3 ∙ sym (pick_yes (live n near f xs keep p r.0) (f (nth xs r.0)) 0 r.2))) (most_ge (length xs) g r.0 r.1))

-- ---- one node: at least a is at least a + 1, or exactly a

split : (a s r : ℕ) → pick (leb a s) r 0 ≡ pick (leb (suc a) s) r 0 + pick (eqb s a) r 0
split a s r = elim (dec_le a s) [
  | yes h ↦ elim (dec_le s a) [
    | yes k ↦
        let e : s ≡ a = omega arith in
        omega (
          arith,
          pick_yes (leb a s) r 0 (omega orders),
          pick_no (leb (suc a) s) r 0 (λ t. omega orders),
          pick_yes (eqb s a) r 0 (rw e (eqb_refl a)),
        )
    | no k ↦
        omega (
          arith,
          pick_yes (leb a s) r 0 (omega orders),
          pick_yes (leb (suc a) s) r 0 (omega orders),
          pick_no (eqb s a) r 0 (λ t. omega (arith, eqb→eq s a t)),
        )
  ]
  | no h ↦
      omega (
        arith,
        pick_no (leb a s) r 0 (λ t. omega orders),
        pick_no (leb (suc a) s) r 0 (λ t. omega orders),
        pick_no (eqb s a) r 0 (λ t. omega (arith, eqb→eq s a t)),
      )
]

module _ {n : ℕ} {near : ℕ → ℕ → Bool} {att : (ℕ → Bool) → ℕ} (grid : Grid n near) (at : Attribute n att)
    {f : ℕ → ℕ} {xs : List ℕ} (nodes : Nodes n near f xs) where
  abbrev cut_total : ℕ → ℕ
  cut_total limit = sum n (cut_at n near f xs (at_least att limit))

  -- area times rise
  abbrev part : ℕ → ℕ
  part j = area_of n near f xs j * rise n near f xs j

  cut_limit : (limit : ℕ) → limit ≤ n → (p : ℕ) → p < n → cut_at n near f xs (at_least att limit) p ≡ opened_at n near (at_least att limit) f p
  cut_limit limit h = cut_opened grid (attribute_criterion at limit h) nodes

  pub total-nodes : (limit : ℕ) → limit ≤ n
      → sum n (cut_at n near f xs (at_least att limit))
      ≡ sum (length xs) (λ (j : ℕ). pick (leb limit (att (holds n near f xs j))) (area_of n near f xs j * rise n near f xs j) 0)
  total-nodes limit h =
      sum_cong n (cut_at n near f xs (at_least att limit)) (opened_at n near (at_least att limit) f) (cut_limit limit h)
      ∙ total-sum grid (attribute_criterion at limit h) nodes

  pub total_lost : (a : ℕ) → a < n → cut_total a ≡ cut_total (suc a) + lost_at n near f xs att a
  unfolding lost_at
  total_lost a h =
      let low : ℕ → ℕ = cut_at n near f xs (at_least att (suc a)) in
      let high : ℕ → ℕ = cut_at n near f xs (at_least att a) in
      let falls : Below n low high = λ p l.
      omega (arith, cut_limit (suc a) h p l, cut_limit a (omega arith) p l, attribute-falls grid at a (suc a) (omega arith) h f p l) in
      sum_cong n high (λ (p : ℕ). low p + (high p - low p)) (λ p l. omega (arith, falls p l)) ∙ sum_add n low (λ (p : ℕ). high p - low p)

  pub lost_nodes : (a : ℕ) → a < n
      → lost_at n near f xs att a ≡ sum (length xs) (λ (j : ℕ). pick (eqb (att (holds n near f xs j)) a) (area_of n near f xs j * rise n near f xs j) 0)
  lost_nodes a h =
      let s : ℕ → ℕ = λ (j : ℕ). att (holds n near f xs j) in
      let high : ℕ → ℕ = λ (j : ℕ). pick (leb (suc a) (s j)) (part j) 0 in
      let same : ℕ → ℕ = λ (j : ℕ). pick (eqb (s j) a) (part j) 0 in
      omega (
        arith,
        total_lost a h,
        total-nodes a (omega arith),
        total-nodes (suc a) h,
        sum_cong (length xs) (λ (j : ℕ). pick (leb a (s j)) (part j) 0) (λ (j : ℕ). high j + same j) (λ j l. split a (s j) (part j)),
        sum_add (length xs) high same,
      )

  pub total_one : cut_total 1 ≡ sum n f
  total_one = sum_cong n (cut_at n near f xs (at_least att 1)) f (λ p l. cut_limit 1 (omega arith) p l ∙ attribute_one grid at f p l)

  -- the losses at 1 .. n - 1, and the total at n, make the plate's total
  pub losses-total : 0 < n → sum (n - 1) (λ (i : ℕ). lost_at n near f xs att (suc i)) + cut_total n ≡ sum n f
  losses-total h =
      let e : suc (n - 1) ≡ n = omega arith in
      omega (
        arith,
        sum-steps (λ (i : ℕ). cut_total (suc i)) (λ (i : ℕ). lost_at n near f xs att (suc i)) (n - 1) (λ i l. total_lost (suc i) (omega arith)),
        ap cut_total e,
        total_one,
      )

  -- ---- the root

  root-whole : (q : ℕ) → q < n → T (holds n near f xs 0 q)
  root-whole q l = over_holds grid nodes 0 q (root_over grid nodes q l)

  root-area : area_of n near f xs 0 ≡ n
  unfolding area_of
  root-area = area_all n (holds n near f xs 0) root-whole

  root_qualifies : (limit : ℕ) → limit ≤ n → T (leb limit (att (holds n near f xs 0)))
  root_qualifies limit h =
      le→leb limit (att (holds n near f xs 0))
      (omega (arith, at.all, at.increasing (λ (q : ℕ). true) (holds n near f xs 0) (λ q l t. root-whole q l)))

  -- the root's level is in every pixel of a cut, and the other nodes that qualify add to it
  pub total_rest : 0 < n → (limit : ℕ) → limit ≤ n
      → cut_total limit ≡ n * f (nth xs 0) + sum (length xs - 1) (λ (j : ℕ). pick (leb limit (att (holds n near f xs (suc j)))) (part (suc j)) 0)
  unfolding rise
  total_rest some limit h =
      let g : ℕ → ℕ = λ (j : ℕ). pick (leb limit (att (holds n near f xs j))) (part j) 0 in
      let e : length xs ≡ suc (length xs - 1) = omega (arith, some-node grid nodes 0 some) in
      let root : g 0 ≡ n * f (nth xs 0) =
      pick_yes (leb limit (att (holds n near f xs 0))) (part 0) 0 (root_qualifies limit h) ∙ rw root-area in
      total-nodes limit h ∙ ap (λ (c : ℕ). sum c g) e ∙ sum_first (length xs - 1) g ∙ rw root
