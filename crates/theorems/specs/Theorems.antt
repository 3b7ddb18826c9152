-- The theorems about plates, in the specification's words: what a reader may rely on. A plate is a `Plate k w h M f`: connectivity k, width w, height h,
-- greatest grey M, greys f. proofs/Theorems.antt proves each under the same name.
use Rattle.std.specs.Prelude.{◌≡◌, ◌⊎◌, ◌↔◌, Bool, true, not, ◌&&◌, List, ℕ, suc, ◌+◌, ◌-◌, ◌*◌, ◌≤◌, ◌<◌, max, T, eqb, leb, length}
use Rattle.meaning.specs.Component.{component}
use Rattle.meaning.specs.Cut.{count_at, cut, darkest, held, lost_at, total}
use Rattle.meaning.specs.Maxima.{LargeMaxima, Maximum, marks, maximum}
use Rattle.meaning.specs.Nodes.{NodeSet, Same, area_of, holds, level_of, nodes_of, own, parent, rise}
use Rattle.meaning.specs.Opening.{Region, attribute, cleaned, closed, opened, reaches}
use Rattle.meaning.specs.Paths.{Joined}
use Rattle.meaning.specs.Plate.{NowhereLighter, Plate, grey, negative, on_trim_edge, touch}
use Rattle.meaning.specs.Sets.{Within, area, has, nth, pick, sum}
use Rattle.theory_tree.specs.Tree.{Ancestor, Before}

-- ---- 1. paths and components

-- the computed component is exactly what paths reach
abbrev pub ComponentPaths : Type 0
ComponentPaths =
    (n : ℕ) (near : ℕ → ℕ → Bool) (ok : ℕ → Bool) (p q : ℕ) → q < n → T (has (component n near ok p) q) ↔ Joined n near ok p q

-- ---- 2. neighbours, with each kind of connectivity on every grid of w columns and h rows

-- they are mutual
abbrev pub NeighboursMutual : Type 0
NeighboursMutual = (k w p q : ℕ) → T (touch k w p q) → T (touch k w q p)

-- a path leads from each pixel to each
abbrev pub GridConnected : Type 0
GridConnected = (k w h p q : ℕ) → p < w * h → q < w * h → Joined (w * h) (touch k w) (λ (r : ℕ). true) p q

module _ (k w h : ℕ) (f : List ℕ) where
  abbrev n : ℕ
  n = length f

  abbrev near : ℕ → ℕ → Bool
  near = touch k w

  abbrev xs : List ℕ
  xs = nodes_of k w f

  -- ---- 3. the opened value

  -- a connected set that has at least the limit's pixels or holds one of the trim edge contains p and has no grey below t exactly when t ≤ the opened
  -- value
  abbrev pub OpenedIsGreatest : Type 0
  OpenedIsGreatest = (limit t p : ℕ) → limit ≤ n → p < n → Region n near (on_trim_edge w h) (grey f) limit t p ↔ t ≤ grey (opened k w h limit f) p

  -- the closed value is the greatest grey minus the opened value on the negative
  abbrev pub ClosedIsLeast : ℕ → Type 0
  ClosedIsLeast M =
      (limit t p : ℕ) → limit ≤ n → p < n
      → Region n near (on_trim_edge w h) (grey (negative M f)) limit t p ↔ t ≤ M - grey (closed k w h M limit f) p

  -- ---- 4. the opening

  -- the opening is nowhere lighter than the plate
  abbrev pub OpenedNowhereLighter : Type 0
  OpenedNowhereLighter = (limit : ℕ) → limit ≤ n → NowhereLighter (opened k w h limit f) f

  -- every regional maximum of the opening has at least the limit's pixels or reaches the trim edge
  abbrev pub OpenedLargeMaxima : Type 0
  OpenedLargeMaxima = (limit : ℕ) → limit ≤ n → LargeMaxima k w h limit (opened k w h limit f)

  -- every plate with those two properties is nowhere lighter than the opening
  abbrev pub OpenedIsLightest : Type 0
  OpenedIsLightest =
      (limit : ℕ) → limit ≤ n → (g : List ℕ) → NowhereLighter g f → LargeMaxima k w h limit g → NowhereLighter g (opened k w h limit f)

  -- limit 1 changes nothing
  abbrev pub OpenedAtOne : Type 0
  OpenedAtOne = opened k w h 1 f ≡ f

  -- opening at a and then at b is opening at the greater
  abbrev pub OpenedTwiceIsOnce : Type 0
  OpenedTwiceIsOnce = (a b : ℕ) → a ≤ n → b ≤ n → opened k w h b (opened k w h a f) ≡ opened k w h (max a b) f

  -- the opening is increasing in the plate
  abbrev pub OpenedGrows : ℕ → Type 0
  OpenedGrows M =
      (limit : ℕ) → limit ≤ n → (g : List ℕ) → Plate k w h M g → NowhereLighter g f → NowhereLighter (opened k w h limit g) (opened k w h limit f)

  -- ---- 5. the tree

  -- each number below the count is a node in the specification's sense, and each node has exactly one number
  abbrev pub NumbersAreNodes : Type 0
  NumbersAreNodes = (i : ℕ) → i < length xs → NodeSet n near (grey f) (holds n near (grey f) xs i)

  abbrev pub NodesHaveNumbers : Type 0
  NodesHaveNumbers = (s : ℕ → Bool) → NodeSet n near (grey f) s → (i : ℕ) × (i < length xs) × Same n s (holds n near (grey f) xs i)

  abbrev pub OneNumber : Type 0
  OneNumber = (i j : ℕ) → i < length xs → j < length xs → Same n (holds n near (grey f) xs i) (holds n near (grey f) xs j) → i ≡ j

  -- a node's level is the least grey in it, and its anchor the lowest pixel of that level in it
  abbrev pub LevelIsLeast : Type 0
  LevelIsLeast = (i q : ℕ) → q < n → T (holds n near (grey f) xs i q) → level_of n near (grey f) xs i ≤ grey f q

  abbrev pub AnchorIsLowest : Type 0
  AnchorIsLowest = (i q : ℕ) → i < length xs → q < n → T (holds n near (grey f) xs i q) → grey f q ≡ level_of n near (grey f) xs i → nth xs i ≤ q

  abbrev pub AnchorInNode : Type 0
  AnchorInNode = (i : ℕ) → i < length xs → T (holds n near (grey f) xs i (nth xs i))

  -- nodes are numbered by level rising, then anchor rising
  abbrev pub NumbersRise : Type 0
  NumbersRise = (i j : ℕ) → i < j → j < length xs → Before (grey f) (nth xs i) (nth xs j)

  -- two nodes are nested or disjoint
  abbrev pub NestedOrDisjoint : Type 0
  NestedOrDisjoint =
      (i j : ℕ)
      → Within n (holds n near (grey f) xs i) (holds n near (grey f) xs j)
      ⊎ (Within n (holds n near (grey f) xs j) (holds n near (grey f) xs i)
      ⊎ ((p : ℕ) → p < n → T (holds n near (grey f) xs i p) → T (holds n near (grey f) xs j p) → ⊥))

  -- the parent has a smaller number, strictly contains the node, and lies within every other node that contains it
  abbrev pub ParentBefore : Type 0
  ParentBefore = (i : ℕ) → 0 < i → parent n near (grey f) xs i < i

  abbrev pub ParentContains : Type 0
  ParentContains = (i : ℕ) → i < length xs → Within n (holds n near (grey f) xs i) (holds n near (grey f) xs (parent n near (grey f) xs i))

  abbrev pub ParentLarger : Type 0
  ParentLarger = (i : ℕ) → 0 < i → i < length xs → area_of n near (grey f) xs i < area_of n near (grey f) xs (parent n near (grey f) xs i)

  abbrev pub ParentIsSmallest : Type 0
  ParentIsSmallest =
      (i j : ℕ) → i < length xs → j < length xs → (j ≡ i → ⊥) → Within n (holds n near (grey f) xs i) (holds n near (grey f) xs j)
      → Within n (holds n near (grey f) xs (parent n near (grey f) xs i)) (holds n near (grey f) xs j)

  -- a pixel's own node holds it and has its grey for its level; its nodes are that one and its ancestors
  abbrev pub OwnNode : Type 0
  OwnNode =
      (p : ℕ) → p < n
      → (own n near (grey f) xs p < length xs)
      × T (holds n near (grey f) xs (own n near (grey f) xs p) p)
      × (level_of n near (grey f) xs (own n near (grey f) xs p) ≡ grey f p)

  abbrev pub NodesAreChain : Type 0
  NodesAreChain =
      (j p : ℕ) → j < length xs → p < n → T (holds n near (grey f) xs j p) ↔ Ancestor (parent n near (grey f) xs) (own n near (grey f) xs p) j

  -- the root is the whole plate, and its level the darkest grey
  abbrev pub RootIsWhole : Type 0
  RootIsWhole = (p : ℕ) → p < n → T (holds n near (grey f) xs 0 p)

  abbrev pub RootIsDarkest : Type 0
  RootIsDarkest = level_of n near (grey f) xs 0 ≡ darkest f

  -- a pixel is in a regional maximum exactly when its own node has no child
  abbrev pub MaximumIsLeaf : Type 0
  MaximumIsLeaf =
      (p : ℕ) → p < n
      → T (maximum n near (grey f) p) ↔ ((i : ℕ) → 0 < i → i < length xs → parent n near (grey f) xs i ≡ own n near (grey f) xs p → ⊥)

  -- ---- 6. the cut of the tree is the opening

  abbrev pub CutEqualsOpened : Type 0
  CutEqualsOpened = (limit : ℕ) → limit ≤ n → cut k w h limit f ≡ opened k w h limit f

  -- ---- 7. sums

  -- the cut at p is the sum of the rises of the qualifying nodes that hold p
  abbrev pub CutIsSum : Type 0
  CutIsSum =
      (limit p : ℕ) → limit ≤ n → p < n
      → grey (cut k w h limit f) p
      ≡ sum (length xs) (λ (j : ℕ).
      pick (holds n near (grey f) xs j p && leb limit (attribute w h (holds n near (grey f) xs j))) (rise n near (grey f) xs j) 0)

  -- the total of a cut is the sum over the qualifying nodes of area times rise
  abbrev pub CutTotal : Type 0
  CutTotal =
      (limit : ℕ) → limit ≤ n
      → total (cut k w h limit f)
      ≡ sum (length xs) (λ (j : ℕ). pick (leb limit (attribute w h (holds n near (grey f) xs j))) (area_of n near (grey f) xs j * rise n near (grey f) xs j) 0)

  -- the grey lost at a is that sum over the nodes whose attribute is a; with the total of the cut at a + 1 it makes the total of the cut at a
  abbrev pub LostIsSum : Type 0
  LostIsSum =
      (a : ℕ) → a < n
      → lost_at n near (grey f) xs (attribute w h) a
      ≡ sum (length xs) (λ (j : ℕ). pick (eqb (attribute w h (holds n near (grey f) xs j)) a) (area_of n near (grey f) xs j * rise n near (grey f) xs j) 0)

  abbrev pub LostMakesCut : Type 0
  LostMakesCut = (a : ℕ) → a < n → lost_at n near (grey f) xs (attribute w h) a + total (cut k w h (suc a) f) ≡ total (cut k w h a f)

  -- the grey held is that sum over the nodes after the root whose attribute is all the pixels; with the darkest grey over every pixel it makes the
  -- total of the cut at the full limit
  abbrev pub HeldIsSum : Type 0
  HeldIsSum =
      held k w h f
      ≡ sum (length xs - 1) (λ (j : ℕ).
      pick (leb n (attribute w h (holds n near (grey f) xs (suc j)))) (area_of n near (grey f) xs (suc j) * rise n near (grey f) xs (suc j)) 0)

  abbrev pub HeldMakesCut : Type 0
  HeldMakesCut = held k w h f + n * darkest f ≡ total (cut k w h n f)

  -- all losses, the grey held and the darkest grey over every pixel make the plate's total
  abbrev pub LossesMakeTotal : Type 0
  LossesMakeTotal = sum (n - 1) (λ (i : ℕ). lost_at n near (grey f) xs (attribute w h) (suc i)) + held k w h f + n * darkest f ≡ total f

  -- the nodes counted at an area below the pixels are those off the trim edge of that area
  abbrev pub CountedOffEdge : Type 0
  CountedOffEdge =
      (a : ℕ) → a < n
      → count_at n near (grey f) xs (attribute w h) a
      ≡ area (length xs) (λ (i : ℕ). not (reaches n (on_trim_edge w h) (holds n near (grey f) xs i)) && eqb (area_of n near (grey f) xs i) a)

  -- ---- 8. marks: 1 exactly where the outside neighbours of the pixel's flat zone are all strictly darker, else 0

  abbrev pub MarkIsOne : Type 0
  MarkIsOne = (p : ℕ) → p < n → nth (marks k w f) p ≡ 1 ↔ Maximum n near (grey f) p

  abbrev pub MarkIsZero : Type 0
  MarkIsZero = (p : ℕ) → p < n → nth (marks k w f) p ≡ 0 ↔ (Maximum n near (grey f) p → ⊥)

  -- ---- 9. cleaning, on either side

  -- cleaning at a and then at b is cleaning at the greater
  abbrev pub CleanedTwiceIsOnce : ℕ → Type 0
  CleanedTwiceIsOnce M = (side a b : ℕ) → a ≤ n → b ≤ n → cleaned side k w h M b (cleaned side k w h M a f) ≡ cleaned side k w h M (max a b) f

  -- cleaning is increasing in the plate
  abbrev pub CleanedGrows : ℕ → Type 0
  CleanedGrows M =
      (side limit : ℕ) → limit ≤ n → (g : List ℕ) → Plate k w h M g → NowhereLighter g f
      → NowhereLighter (cleaned side k w h M limit g) (cleaned side k w h M limit f)
