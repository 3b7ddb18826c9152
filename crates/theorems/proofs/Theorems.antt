-- The theorems about plates, proved; specs/Theorems.antt says what each states. Each cites the general law, which holds for any symmetric adjacency, any
-- greys and any increasing criterion or attribute (crates theory_connectivity, theory_opening and theory_tree).
use mathlib.Core.Path.{◌≡◌, refl, sym, ap, ◌∙◌}
use mathlib.Core.Logic.{◌⊎◌}
use mathlib.Core.Bool.{Bool, true, false, not, ◌&&◌}
use mathlib.Core.List.{List}
use Prim.Native.Nat.{ℕ, suc, ◌+◌, ◌-◌, ◌*◌, ◌≤◌, ◌<◌, max}
use native.Mathlib.Nat.{le_refl, mul_comm}
use native.Mathlib.Omega.{arith}
use lib.Dec.{eqb, leb, leb→le, le→leb}
use lib.ListN.{length}
use Rattle.meaning.specs.Cut.{count_at, cut, darkest, held, total}
use Rattle.meaning.specs.Maxima.{LargeMaxima, MaximaKept, Maximum, flat_zone, marks, maximum}
use Rattle.meaning.specs.Nodes.{area_of, holds, nodes_of, own, rise}
use Rattle.meaning.specs.Opening.{Reaches, at_least, attribute, cleaned, closed, dark_side, opened, opened_at, reaches}
use Rattle.meaning.specs.Plate.{NowhereLighter, Plate, grey, negative, on_trim_edge, touch}
use Rattle.meaning.specs.Sets.{area, bit, has, nth, pick, sum, table}
use Rattle.theory_connectivity.proofs.Component.{component_complete, component_sound}
use Rattle.theory_connectivity.proofs.Touch.{touch-sym, touch-whole}
use Rattle.theory_lists.proofs.Lists.{get_d_table, table_same}
use Rattle.theory_lists.proofs.Sums.{area_cong}
use Rattle.theory_lists.proofs.Tests.{bit_no, bit-true, bit-yes}
use Rattle.theory_opening.proofs.Absorb.{opened_cong}
use Rattle.theory_opening.proofs.Attribute.{attribute_one, attribute_twice}
use Rattle.theory_opening.proofs.Maxima.{maxima_cong, maxima_kept, maximum_complete, maximum_sound, opened-lightest}
use Rattle.theory_opening.proofs.Opening.{opened_increasing}
use Rattle.theory_opening.proofs.TrimEdge.{trim_area, trim_limit, trim_words}
use Rattle.theory_tree.specs.Tree.{live}
use Rattle.theory_tree.proofs.Leaves.{leaf_maximum, maximum_leaf}
use Rattle.theory_tree.proofs.Losses.{cut_opened, losses-total, lost_nodes, total_lost, total-nodes, total_rest}
use Rattle.theory_tree.proofs.NodeSets.{anchor_holds, anchor-lowest, level_least, node-number, nodes_chain, number-node, number-only, parent_holds}
use Rattle.theory_tree.proofs.Nodes.{
  holds_over,
  nested_or_apart,
  nodes-before,
  nth_inside,
  over_holds,
  own_below,
  own_level,
  own_over,
  parent_area,
  parent_below,
  parent_smallest,
  root_over,
}
use Rattle.theory_tree.proofs.Rises.{opened-sum}
use Rattle.theorems.specs.Theorems.{
  AnchorInNode,
  AnchorIsLowest,
  CleanedGrows,
  CleanedTwiceIsOnce,
  ClosedIsLeast,
  ComponentPaths,
  CountedOffEdge,
  CutEqualsOpened,
  CutIsSum,
  CutTotal,
  GridConnected,
  HeldIsSum,
  HeldMakesCut,
  LevelIsLeast,
  LossesMakeTotal,
  LostIsSum,
  LostMakesCut,
  MarkIsOne,
  MarkIsZero,
  MaximumIsLeaf,
  NeighboursMutual,
  NestedOrDisjoint,
  NodesAreChain,
  NodesHaveNumbers,
  NumbersAreNodes,
  NumbersRise,
  OneNumber,
  OpenedAtOne,
  OpenedGrows,
  OpenedIsGreatest,
  OpenedIsLightest,
  OpenedLargeMaxima,
  OpenedNowhereLighter,
  OpenedTwiceIsOnce,
  OwnNode,
  ParentBefore,
  ParentContains,
  ParentIsSmallest,
  ParentLarger,
  RootIsDarkest,
  RootIsWhole,
}
use Rattle.theorems.proofs.Dual.{dual_grows, dual_twice}
use Rattle.theorems.proofs.Plates.{
  at_limit,
  closed-grey,
  cut-grey,
  cut-is-opened,
  darkest-root,
  negative-length,
  negative_plate,
  opened_below_plate,
  opened-grey,
  opened-length,
  opened_plate,
  plate_attribute,
  plate_grid,
  plate_nodes,
  plate_some,
  table-grey,
  total-cut,
}

-- ---- 1. paths and components

pub component_paths : ComponentPaths
component_paths n near ok p q l = (component_sound n near ok p q l, component_complete n near ok p q)

-- ---- 2. neighbours

pub neighbours_mutual : NeighboursMutual
neighbours_mutual = touch-sym

pub grid_connected : GridConnected
grid_connected = touch-whole

module _ {k w h M : ℕ} {f : List ℕ} (plate : Plate k w h M f) where
  abbrev n : ℕ
  n = length f

  abbrev near : ℕ → ℕ → Bool
  near = touch k w

  abbrev xs : List ℕ
  xs = nodes_of k w f

  -- ---- 3. the opened value

  pub opened-is-greatest : OpenedIsGreatest k w h f
  opened-is-greatest limit t p m l = rw (opened-grey plate limit p l) (trim_words w h plate.long (grey f) limit t p (plate_grid plate) m l)

  pub closed-is_least : ClosedIsLeast k w h f M
  closed-is_least limit t p m l =
      let neg : Plate k w h M (negative M f) = negative_plate plate in
      let e : length (negative M f) ≡ n = negative-length M f in
      let o : grey (opened k w h limit (negative M f)) p ≤ M =
      (opened_plate neg limit (omega arith)).greys p (omega (arith, opened-length neg limit)) in
      let c : M - grey (closed k w h M limit f) p ≡ opened_at n near (at_least (attribute w h) limit) (grey (negative M f)) p =
      (omega (arith, closed-grey plate limit p l))
      ∙ opened-grey neg limit p (omega arith)
      ∙ ap (λ (m : ℕ). opened_at m near (at_least (attribute w h) limit) (grey (negative M f)) p) e in
      rw c (trim_words w h plate.long (grey (negative M f)) limit t p (plate_grid plate) m l)

  -- ---- 4. the opening

  pub opened_nowhere_lighter : OpenedNowhereLighter k w h f
  opened_nowhere_lighter limit m = (opened-length plate limit, λ p l. opened_below_plate plate limit p m l)

  -- a plate's maxima by the function of its greys, and by its list
  large_kept : (limit : ℕ) → limit ≤ n → (g : List ℕ) → length g ≡ n → LargeMaxima k w h limit g
      → MaximaKept n near (at_least (attribute w h) limit) (grey g)
  large_kept limit b g e m =
      λ p l x.
      let zone : ℕ → Bool = has (flat_zone n near (grey g) p) in
      le→leb limit (attribute w h zone) ((trim_limit w h plate.long limit b zone).1 ((rw e at m) p l x))

  kept_large : (limit : ℕ) → limit ≤ n → (g : List ℕ) → length g ≡ n
      → MaximaKept n near (at_least (attribute w h) limit) (grey g) → LargeMaxima k w h limit g
  kept_large limit b g e m =
      let large : (p : ℕ) → p < n → Maximum n near (grey g) p
      → (limit ≤ area n (has (flat_zone n near (grey g) p))) ⊎ Reaches n (on_trim_edge w h) (has (flat_zone n near (grey g) p)) =
      λ p l x.
      let zone : ℕ → Bool = has (flat_zone n near (grey g) p) in
      (trim_limit w h plate.long limit b zone).0 (leb→le limit (attribute w h zone) (m p l x)) in
      rw e large

  pub opened_large_maxima : OpenedLargeMaxima k w h f
  opened_large_maxima limit m =
      kept_large limit m (opened k w h limit f) (opened-length plate limit)
      (maxima_cong near (at_limit plate limit m) (opened_at n near (at_least (attribute w h) limit) (grey f)) (grey (opened k w h limit f))
      (λ p l. sym (opened-grey plate limit p l))
      (maxima_kept (plate_grid plate) (at_limit plate limit m) (grey f)))

  pub opened-is-lightest : OpenedIsLightest k w h f
  opened-is-lightest limit m g b x = (
    b.0 ∙ sym (opened-length plate limit),
    λ p l.
        let lp : p < n = rw (opened-length plate limit) at l in
        rw (opened-grey plate limit p lp)
        (opened-lightest (plate_grid plate) (at_limit plate limit m) (grey f) (grey g) b.1 (large_kept limit m g b.0 x) p lp),
  )

  pub opened_at_one : OpenedAtOne k w h f
  unfolding opened
  opened_at_one =
      table_same n (opened_at n near (at_least (attribute w h) 1) (grey f)) (grey f)
      (attribute_one (plate_grid plate) (plate_attribute plate) (grey f))
      ∙ table-grey f

  pub opened_twice_is_once : OpenedTwiceIsOnce k w h f
  unfolding opened
  opened_twice_is_once a b ha hb =
      opened_of b (opened k w h a f) n (opened-length plate a)
      ∙ table_same n (opened_at n near (at_least (attribute w h) b) (grey (opened k w h a f))) (opened_at n near (at_least (attribute w h) (max a b)) (grey f))
      (λ p l.
      opened_cong (plate_grid plate) (at_limit plate b hb) (grey (opened k w h a f)) (opened_at n near (at_least (attribute w h) a) (grey f))
      (opened-grey plate a) p l
      ∙ attribute_twice (plate_grid plate) (plate_attribute plate) a b ha hb (grey f) p l)
      ∙ sym (opened_of (max a b) f n refl)
    where
      -- the opening of a list of m greys
      opened_of : (limit : ℕ) (g : List ℕ) (m : ℕ) → length g ≡ m
          → opened k w h limit g ≡ table m (opened_at m near (at_least (attribute w h) limit) (grey g))
      opened_of limit g m e = rw (← e)

  pub opened_grows : OpenedGrows k w h f M
  opened_grows limit m g other b = (
    opened-length other limit ∙ b.0 ∙ sym (opened-length plate limit),
    λ p l.
        let lp : p < n = rw (opened-length plate limit) at l in
        let e : grey (opened k w h limit g) p ≡ opened_at n near (at_least (attribute w h) limit) (grey g) p =
        opened-grey other limit p (omega (arith, b.0)) ∙ ap (λ (m : ℕ). opened_at m near (at_least (attribute w h) limit) (grey g) p) b.0 in
        omega (arith, e, opened-grey plate limit p lp, opened_increasing (plate_grid plate) (at_limit plate limit m) (grey g) (grey f) b.1 p lp),
  )

  -- ---- 5. the tree

  pub numbers_are_nodes : NumbersAreNodes k w h f
  numbers_are_nodes = number-node (plate_grid plate) (plate_nodes plate)

  pub nodes_have_numbers : NodesHaveNumbers k w h f
  nodes_have_numbers s = node-number (plate_grid plate) (plate_nodes plate)

  pub one_number : OneNumber k w h f
  one_number = number-only (plate_grid plate) (plate_nodes plate)

  pub level_is_least : LevelIsLeast k w h f
  level_is_least = level_least (plate_grid plate) (plate_nodes plate)

  pub anchor-is-lowest : AnchorIsLowest k w h f
  anchor-is-lowest = anchor-lowest (plate_grid plate) (plate_nodes plate)

  pub anchor_in_node : AnchorInNode k w h f
  anchor_in_node = anchor_holds (plate_grid plate) (plate_nodes plate)

  pub numbers_rise : NumbersRise k w h f
  numbers_rise = nodes-before (plate_grid plate) (plate_nodes plate)

  pub nested_or_disjoint : NestedOrDisjoint k w h f
  nested_or_disjoint = nested_or_apart (plate_grid plate) (plate_nodes plate)

  pub parent_before : ParentBefore k w h f
  parent_before = parent_below (plate_grid plate) (plate_nodes plate)

  pub parent_contains : ParentContains k w h f
  parent_contains i l p m t = parent_holds (plate_grid plate) (plate_nodes plate) i p l m t

  pub parent_larger : ParentLarger k w h f
  parent_larger = parent_area (plate_grid plate) (plate_nodes plate)

  pub parent_is_smallest : ParentIsSmallest k w h f
  parent_is_smallest i j li lj other w =
      let inside : nth xs i < n = nth_inside (plate_grid plate) (plate_nodes plate) i li in
      parent_smallest (plate_grid plate) (plate_nodes plate) i j li lj other
      (holds_over (plate_grid plate) (plate_nodes plate) j (nth xs i) inside (w (nth xs i) inside (anchor_in_node i li)))

  pub own_node : OwnNode k w h f
  own_node p l = (
    own_below (plate_grid plate) (plate_nodes plate) p l,
    over_holds (plate_grid plate) (plate_nodes plate) (own n near (grey f) xs p) p (own_over (plate_grid plate) (plate_nodes plate) p l),
    own_level (plate_grid plate) (plate_nodes plate) p l,
  )

  pub nodes_are_chain : NodesAreChain k w h f
  nodes_are_chain = nodes_chain (plate_grid plate) (plate_nodes plate)

  pub root-is-whole : RootIsWhole k w h f
  root-is-whole p l = over_holds (plate_grid plate) (plate_nodes plate) 0 p (root_over (plate_grid plate) (plate_nodes plate) p l)

  pub root-is-darkest : RootIsDarkest k w h f
  root-is-darkest = sym (darkest-root plate)

  pub maximum-is_leaf : MaximumIsLeaf k w h f
  maximum-is_leaf p l = (maximum_leaf (plate_grid plate) (plate_nodes plate) p l, leaf_maximum (plate_grid plate) (plate_nodes plate) p l)

  -- ---- 6. the cut

  pub cut_equals_opened : CutEqualsOpened k w h f
  cut_equals_opened = cut-is-opened plate

  -- ---- 7. sums

  pub cut-is-sum : CutIsSum k w h f
  unfolding live
  cut-is-sum limit p m l =
      cut-grey plate limit p l
      ∙ cut_opened (plate_grid plate) (at_limit plate limit m) (plate_nodes plate) p l
      ∙ opened-sum (plate_grid plate) (at_limit plate limit m) (plate_nodes plate) p l

  pub cut-total : CutTotal k w h f
  cut-total limit m = total-cut plate limit ∙ total-nodes (plate_grid plate) (plate_attribute plate) (plate_nodes plate) limit m

  pub lost_is-sum : LostIsSum k w h f
  lost_is-sum = lost_nodes (plate_grid plate) (plate_attribute plate) (plate_nodes plate)

  pub lost_makes_cut : LostMakesCut k w h f
  lost_makes_cut a h =
      omega (arith, total-cut plate a, total-cut plate (suc a), total_lost (plate_grid plate) (plate_attribute plate) (plate_nodes plate) a h)

  -- the nodes after the root whose attribute is all the pixels
  abbrev rest : ℕ
  rest =
      sum (length xs - 1) (λ (j : ℕ).
      pick (leb n (attribute w h (holds n near (grey f) xs (suc j)))) (area_of n near (grey f) xs (suc j) * rise n near (grey f) xs (suc j)) 0)

  full_cut : total (cut k w h n f) ≡ rest + n * darkest f
  full_cut =
      omega (
        arith,
        total-cut plate n,
        total_rest (plate_grid plate) (plate_attribute plate) (plate_nodes plate) (plate_some plate) n (le_refl n),
        ap (λ (d : ℕ). n * d) (darkest-root plate),
      )

  held_cut : held k w h f ≡ total (cut k w h (w * h) f) - darkest f * (w * h)
  unfolding held
  held_cut = refl

  pub held-is-sum : HeldIsSum k w h f
  held-is-sum =
      let e : total (cut k w h n f) ≡ total (cut k w h (w * h) f) = ap (λ (m : ℕ). total (cut k w h m f)) plate.long in
      let c : n * darkest f ≡ darkest f * (w * h) = mul_comm n (darkest f) ∙ ap (λ (m : ℕ). darkest f * m) plate.long in
      omega (arith, held_cut, e, c, full_cut)

  pub held_makes_cut : HeldMakesCut k w h f
  held_makes_cut = omega (arith, held-is-sum, full_cut)

  pub losses_make_total : LossesMakeTotal k w h f
  unfolding total
  losses_make_total =
      omega (
        arith,
        losses-total (plate_grid plate) (plate_attribute plate) (plate_nodes plate) (plate_some plate),
        total-cut plate n,
        held_makes_cut,
      )

  pub counted_off_edge : CountedOffEdge k w h f
  unfolding count_at area_of
  counted_off_edge a l =
      area_cong (length xs)
      (λ (i : ℕ). eqb (attribute w h (holds n near (grey f) xs i)) a)
      (λ (i : ℕ). not (reaches n (on_trim_edge w h) (holds n near (grey f) xs i)) && eqb (area_of n near (grey f) xs i) a)
      (λ i m. trim_area w h plate.long a l (holds n near (grey f) xs i))

  -- ---- 8. marks

  mark_is : (p : ℕ) → p < n → nth (marks k w f) p ≡ bit (maximum n near (grey f) p)
  unfolding marks
  mark_is p l = get_d_table n (λ (q : ℕ). bit (maximum n near (grey f) q)) p 0 l

  pub mark_is_one : MarkIsOne k w h f
  mark_is_one p l = (
    λ e. maximum_sound n near (grey f) p (bit-true (maximum n near (grey f) p) (omega (arith, mark_is p l))),
    λ m. mark_is p l ∙ bit-yes (maximum n near (grey f) p) (maximum_complete n near (grey f) p m),
  )

  pub mark_is-zero : MarkIsZero k w h f
  mark_is-zero p l = (
    λ e m. absurd (omega (arith, (mark_is_one p l).1 m)),
    λ other. mark_is p l ∙ bit_no (maximum n near (grey f) p) (λ t. other (maximum_sound n near (grey f) p t)),
  )

-- ---- 9. cleaning, on either side: opening on the light one, its dual on the dark one

module _ {k w h M : ℕ} {f : List ℕ} (plate : Plate k w h M f) where
  -- a limit that fits this plate fits every plate of its sizes
  fits : {g : List ℕ} (limit : ℕ) → limit ≤ length f → Plate k w h M g → limit ≤ length g
  fits limit m p = omega (arith, plate.long, p.long)

  cleaned_twice : (negated : Bool) (a b : ℕ) → a ≤ length f → b ≤ length f
      → let once = pick negated (closed k w h M a f) (opened k w h a f) in
      pick negated (closed k w h M b once) (opened k w h b once) ≡ pick negated (closed k w h M (max a b) f) (opened k w h (max a b) f)
  unfolding closed
  cleaned_twice true a b ha hb =
      dual_twice k w h M (opened k w h a) (opened k w h b) (opened k w h (max a b))
      (λ g p. opened_plate p a (fits a ha p))
      (λ g p. opened_twice_is_once p a b (fits a ha p) (fits b hb p))
      f plate
  cleaned_twice false a b ha hb = opened_twice_is_once plate a b ha hb

  pub cleaned_twice_is_once : CleanedTwiceIsOnce k w h f M
  unfolding cleaned
  cleaned_twice_is_once side = cleaned_twice (eqb side dark_side)

  cleaned_order : (negated : Bool) (limit : ℕ) → limit ≤ length f → (g : List ℕ) → Plate k w h M g → NowhereLighter g f
      → NowhereLighter (pick negated (closed k w h M limit g) (opened k w h limit g)) (pick negated (closed k w h M limit f) (opened k w h limit f))
  unfolding closed
  cleaned_order true limit m g other b =
      dual_grows k w h M (opened k w h limit)
      (λ g p. opened_plate p limit (fits limit m p))
      (λ f g pf pg b. opened_grows pf limit (fits limit m pf) g pg b)
      f g plate other b
  cleaned_order false limit m g other b = opened_grows plate limit m g other b

  pub cleaned_grows : CleanedGrows k w h f M
  unfolding cleaned
  cleaned_grows side = cleaned_order (eqb side dark_side)
