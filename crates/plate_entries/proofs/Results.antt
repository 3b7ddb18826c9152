-- From a started list and the columns of the work space to the node entries of the definition.
use mathlib.Core.Path.{◌≡◌, refl, ap, ◌∙◌}
use mathlib.Core.List.{List, ◌++◌}
use Prim.Native.Nat.{ℕ, ◌*◌}
use lib.ListN.{length, drop, replicate}
use Rattle.meaning.specs.Nodes.{nodes_of}
use Rattle.meaning.specs.Plate.{grey, touch}
use Rattle.meaning.specs.Sets.{table}
use Rattle.work_columns.specs.Layout.{shape_of}
use Rattle.maxtree_columns.specs.Tree.{Tree}
use Rattle.maxtree_columns.proofs.Tree.{few_nodes}
use Rattle.theory_lists.proofs.Lists.{table_same}
use Rattle.plate_tree.specs.Listing.{Started}
use Rattle.plate_tree.proofs.Starting.{list_done}
use Rattle.plate_entries.specs.declared.Node.{Node}
use Rattle.plate_entries.specs.Entries.{EntriesListed, Fillable, entries, node_entry, over_nodes, standing}

-- the entries that stand in the work space are the definition's
standing-entries : {k w h M : ℕ} {f w₁ : List ℕ} {count : ℕ} → Tree (shape_of (length f) w h M k) f w₁ count
    → table count (standing (length f) w₁) ≡ entries k w f
unfolding standing entries
standing-entries {k} {w} {f = f} {w₁} {count} t =
    table_same count (standing (length f) w₁) (node_entry (length f) (touch k w) (grey f) (nodes_of k w f))
    (λ i l. rw (t.level_is i l, t.parent_is i l, t.area-is i l, t.anchor-is i l))
    ∙ rw t.nodes

-- a list that is not refused
module _ {k w h M : ℕ} {f : List ℕ} (list : List Node) {work w₁ : List ℕ} {count : ℕ} (s : Started k w h M f (length list) work w₁ 0 count) where
  pub fillable : Fillable (length f) count w₁ list
  fillable = let t = (s.tree_stands refl).tree in record { room = λ _. t.room; few = few_nodes t; places = s.fits }

  -- the list that was filled, and the work space that was zeroed
  pub entries_listed : {list' : List Node} {w₂ : List ℕ} → list' ≡ over_nodes (table count (standing (length f) w₁)) list
      → w₂ ≡ replicate (8 * length f) 0 ++ drop (8 * length f) w₁ → EntriesListed k w h M f list list' work w₂ 0 count
  entries_listed e c = record {
    answer = list_done s c;
    nodes = e ∙ ap (λ (xs : List Node). over_nodes xs list) (standing-entries (s.tree_stands refl).tree);
  }
