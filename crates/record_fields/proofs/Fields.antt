-- The fields that the columns spell, by place.
use mathlib.Core.Path.{◌≡◌, refl, sym, ap, ◌∙◌}
use mathlib.Core.List.{List, [], ◌∷◌, ◌++◌}
use Prim.Native.Nat.{ℕ, zero, suc, ◌+◌, ◌-◌, ◌*◌, ◌/◌, ◌%◌, ◌≤◌, ◌<◌}
use native.Mathlib.Nat.{div-add-mod'}
use native.Mathlib.Numerals.{add-one}
use native.Mathlib.Omega.{arith}
use lib.ListN.{length, length-append, get_or-append}
use lib.Seq.{get_or-append-add}
use Rattle.meaning.specs.Plate.{max_extent, max_greatest, max_pixels}
use Rattle.meaning.specs.Sets.{gather, nth, table}
use Rattle.theory_lists.proofs.Lists.{get_d_table, length-table}
use Rattle.theory_lists.proofs.Sets.{below_suc}
use Rattle.theory_connectivity.proofs.Connectivity.{kind_most}
use Rattle.theory_connectivity.proofs.Sizes.{greatest_range, grid_sizes}
use Rattle.work_columns.specs.Columns.{col}
use Rattle.work_columns.specs.Layout.{AREA, LEVEL, OWN}
use Rattle.work_columns.specs.declared.Shape.{Shape}
use Rattle.maxtree_columns.specs.Tree.{Tree}
use Rattle.maxtree_columns.proofs.Tree.{few_nodes, some-nodes}
use Rattle.record_fields.specs.Fields.{column_fields, node_columns}

-- ---- lists of three, one after the other

pub gather-length : (m : ℕ) (g : ℕ → List ℕ) → ((i : ℕ) → length (g i) ≡ 3) → length (gather m g) ≡ 3 * m
unfolding gather
gather-length zero g e = omega arith
gather-length (suc m) g e = omega (arith, length-append (gather m g) (g m), e m, gather-length m g e)

pub gather-nth : (m : ℕ) (g : ℕ → List ℕ) → ((i : ℕ) → length (g i) ≡ 3) → (i b : ℕ) → i < m → b < 3
    → nth (gather m g) (3 * i + b) ≡ nth (g i) b
unfolding gather
gather-nth zero g e i b l h = absurd (omega arith)
gather-nth (suc m) g e i b l h =
    below_suc (λ (j : ℕ). nth (gather m g ++ g m) (3 * j + b) ≡ nth (g j) b)
    (λ j lj. get_or-append (gather m g) (g m) 0 (3 * j + b) (omega (arith, gather-length m g e)) ∙ gather-nth m g e j b lj h)
    (ap (λ (x : ℕ). nth (gather m g ++ g m) (x + b)) (sym (gather-length m g e)) ∙ get_or-append-add (gather m g) (g m) b 0)
    i l

pub gather-same : (m : ℕ) (g g' : ℕ → List ℕ) → ((i : ℕ) → i < m → g i ≡ g' i) → gather m g ≡ gather m g'
unfolding gather
gather-same zero g g' e = refl
gather-same (suc m) g g' e =
    let a : gather m g ≡ gather m g' = gather-same m g g' (λ i l. e i (omega arith)) in
    let b : g m ≡ g' m = e m (omega arith) in
    cc

-- ---- the fields by place

module _ {g : Shape} {f w : List ℕ} {count : ℕ} (t : Tree g f w count) where
  abbrev n : ℕ
  n = g.pixels

  abbrev nodes : List ℕ
  nodes = gather (count - 1) (λ (i : ℕ). node_columns g w (suc i))

  node-three : (i : ℕ) → length (node_columns g w (suc i)) ≡ 3
  unfolding node_columns
  node-three i = refl

  nodes-length : length nodes ≡ 3 * (count - 1)
  nodes-length = gather-length (count - 1) (λ (i : ℕ). node_columns g w (suc i)) node-three

  pub column-length : length (column_fields g w count) ≡ 3 * count + 6 + n
  unfolding column_fields
  column-length =
      omega (arith, some-nodes t, length-append nodes (table n (col OWN n w)), nodes-length, length-table n (col OWN n w))

  -- the numbers of fields fit
  pub column_few : 3 * count + 6 + n ≤ 4 * max_pixels + 6
  column_few = omega (arith, few_nodes t, t.room.small)

  -- which numbers are places of fields
  pub column_inside : (i : ℕ) → i < 3 * count + 6 + n → i < length (column_fields g w count)
  column_inside i l = omega (arith, column-length)

  pub column_end : (i : ℕ) → 3 * count + 6 + n ≤ i → length (column_fields g w count) ≤ i
  column_end i l = omega (arith, column-length)

  -- after the first nine
  after_nine : (j : ℕ) → nth (column_fields g w count) (9 + j) ≡ nth (nodes ++ table n (col OWN n w)) j
  unfolding column_fields
  after_nine j =
      get_or-append-add (0 ∷ 2 ∷ g.greatest ∷ g.width ∷ g.height ∷ g.connectivity ∷ count ∷ col LEVEL n w 0 ∷ col AREA n w 0 ∷ [])
      (nodes ++ table n (col OWN n w)) j 0

  -- field b of node suc a
  column-node : (a b : ℕ) → suc a < count → b < 3 → nth (column_fields g w count) (9 + (3 * a + b)) ≡ nth (node_columns g w (suc a)) b
  column-node a b l h =
      after_nine (3 * a + b)
      ∙ get_or-append nodes (table n (col OWN n w)) 0 (3 * a + b) (omega (arith, nodes-length))
      ∙ gather-nth (count - 1) (λ (i : ℕ). node_columns g w (suc i)) node-three a b (omega arith) h

  -- the own node of pixel p
  column_own : (p : ℕ) → p < n → nth (column_fields g w count) (3 * count + 6 + p) ≡ col OWN n w p
  column_own p l =
      let e : 3 * count + 6 + p ≡ 9 + (3 * (count - 1) + p) = omega (arith, some-nodes t) in
      ap (λ (i : ℕ). nth (column_fields g w count) i) e
      ∙ after_nine (3 * (count - 1) + p)
      ∙ ap (λ (x : ℕ). nth (nodes ++ table n (col OWN n w)) (x + p)) (sym nodes-length)
      ∙ get_or-append-add nodes (table n (col OWN n w)) p 0
      ∙ get_d_table n (col OWN n w) p 0 l

  -- the same by the place of the field
  pub column-node_at : (i : ℕ) → 9 ≤ i → i < 3 * count + 6
      → nth (node_columns g w ((i - 9) / 3 + 1)) ((i - 9) % 3) ≡ nth (column_fields g w count) i
  column-node_at i low high =
      let d : (i - 9) / 3 * 3 + (i - 9) % 3 ≡ i - 9 = div-add-mod' (i - 9) 3 in
      let m : (i - 9) % 3 < 3 = omega arith in
      let e : 9 + (3 * ((i - 9) / 3) + (i - 9) % 3) ≡ i = omega arith in
      rw add-one
      (sym (column-node ((i - 9) / 3) ((i - 9) % 3) (omega arith) m) ∙ ap (λ (x : ℕ). nth (column_fields g w count) x) e)

  pub column_own_at : (i : ℕ) → 3 * count + 6 ≤ i → i < 3 * count + 6 + n
      → col OWN n w (i - (3 * count + 6)) ≡ nth (column_fields g w count) i
  column_own_at i low high =
      let e : 3 * count + 6 + (i - (3 * count + 6)) ≡ i = omega arith in
      sym (column_own (i - (3 * count + 6)) (omega arith)) ∙ ap (λ (x : ℕ). nth (column_fields g w count) x) e

-- ---- how large the numbers of the shape are
pub record Small (g : Shape) (count : ℕ) : Type 0 where
  pub some : 1 ≤ count
  pub few : count ≤ g.pixels
  pub pixels : g.pixels ≤ max_pixels
  pub wide : g.width ≤ max_extent
  pub high : g.height ≤ max_extent
  pub kind : g.connectivity ≤ 8
  pub greys : g.greatest ≤ max_greatest

pub small : {g : Shape} {f w : List ℕ} {count : ℕ} → Tree g f w count → Small g count
small {g} t = record {
  some = some-nodes t;
  few = few_nodes t;
  pixels = t.room.small;
  wide = (grid_sizes g.width g.height t.plate.sizes).wide.most;
  high = (grid_sizes g.width g.height t.plate.sizes).high.most;
  kind = kind_most g.connectivity t.plate.kind;
  greys = (greatest_range g.greatest t.plate.range).most;
}

-- what the place of a field needs
pub ruleset fields_at = (small, column_own_at, column-node_at)
