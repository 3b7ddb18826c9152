-- The columns of a plate's tree spell the fields of the plate's record.
use mathlib.Core.Path.{◌≡◌, sym, ap, ◌∙◌}
use mathlib.Core.Bool.{Bool, true, false}
use mathlib.Core.List.{List, ◌∷◌, ◌++◌}
use Prim.Native.Nat.{ℕ, suc, ◌-◌, ◌<◌}
use native.Mathlib.Omega.{arith}
use lib.ListN.{drop, length}
use Rattle.meaning.specs.Nodes.{own}
use Rattle.meaning.specs.Plate.{grey}
use Rattle.meaning.specs.Record.{encode, fields, node_fields, old_record_of, record_in, record_of, tree_fields}
use Rattle.meaning.specs.Sets.{gather, table}
use Rattle.theory_lists.proofs.Lists.{table_same}
use Rattle.work_columns.specs.Columns.{col}
use Rattle.work_columns.specs.Layout.{AREA, LEVEL, OWN, PARENT, touch_in}
use Rattle.work_columns.specs.declared.Shape.{Shape}
use Rattle.maxtree_columns.specs.Tree.{Tree, nodes_in}
use Rattle.maxtree_columns.proofs.Tree.{parent_earlier, some-nodes}
use Rattle.record_fields.specs.Fields.{column_fields, first_field, node_columns}
use Rattle.record_fields.proofs.Fields.{gather-same}

module _ {g : Shape} {f w : List ℕ} {count : ℕ} (t : Tree g f w count) where
  abbrev n : ℕ
  n = g.pixels

  abbrev xs : List ℕ
  xs = nodes_in g f

  node-columns : (i : ℕ) → suc i < count → node_fields n (touch_in g) (grey f) xs (suc i) ≡ node_columns g w (suc i)
  unfolding node_fields node_columns
  node-columns i l =
      let b = parent_earlier t (suc i) (omega arith) l in
      let p = t.parent_is (suc i) l in
      let q = t.level_is (suc i) l in
      let u = t.level_is (col PARENT n w (suc i)) (omega arith) in
      let a = t.area-is (suc i) l in
      cc

  tree_columns : tree_fields n (touch_in g) (grey f) xs
      ≡ count ∷ col LEVEL n w 0 ∷ col AREA n w 0 ∷ (gather (count - 1) (λ (i : ℕ). node_columns g w (suc i)) ++ table n (col OWN n w))
  unfolding tree_fields
  tree_columns =
      let m = t.nodes in
      let level = t.level_is 0 (some-nodes t) in
      let size = t.area-is 0 (some-nodes t) in
      let nodes : gather (length xs - 1) (λ (i : ℕ). node_fields n (touch_in g) (grey f) xs (suc i))
      ≡ gather (count - 1) (λ (i : ℕ). node_columns g w (suc i)) =
      rw (← m) (gather-same (count - 1) (λ (i : ℕ). node_fields n (touch_in g) (grey f) xs (suc i)) (λ (i : ℕ). node_columns g w (suc i))
      (λ i l. node-columns i (omega arith))) in
      let owns : table n (own n (touch_in g) (grey f) xs) ≡ table n (col OWN n w) =
      table_same n (own n (touch_in g) (grey f) xs) (col OWN n w) (λ p l. sym (t.own_is p l)) in
      cc

  -- the fields of the old form
  old_columns : fields g.connectivity g.width g.height f ≡ drop 3 (column_fields g w count)
  unfolding fields column_fields
  old_columns =
      ap (λ (m : ℕ). g.width ∷ g.height ∷ g.connectivity ∷ tree_fields m (touch_in g) (grey f) xs) t.pixels
      ∙ ap (λ (l : List ℕ). g.width ∷ g.height ∷ g.connectivity ∷ l) tree_columns

  pub tree_record : record_of g.connectivity g.width g.height g.greatest f ≡ encode (column_fields g w count)
  unfolding record_of column_fields
  tree_record = ap (λ (l : List ℕ). encode (0 ∷ 2 ∷ g.greatest ∷ l)) old_columns

  -- in either form
  pub tree_record_in : (new : Bool)
      → record_in new g.connectivity g.width g.height g.greatest f ≡ encode (drop (first_field new) (column_fields g w count))
  unfolding old_record_of
  tree_record_in true = tree_record
  tree_record_in false = ap encode old_columns
