-- Laws of the column VALUE: the tree stands while it changes; the values by pixel from those by node; an output that holds the values of a function.
use mathlib.Core.Path.{◌≡◌, sym, ap, ◌∙◌}
use mathlib.Core.List.{List, ◌++◌}
use Prim.Native.Nat.{ℕ, ◌≤◌, ◌<◌}
use native.Mathlib.Omega.{arith}
use lib.ListN.{length, drop, get_or, take}
use lib.Seq.{ext_get_or, length-take-le}
use Rattle.meaning.specs.Answers.{over}
use Rattle.meaning.specs.Nodes.{own}
use Rattle.meaning.specs.Plate.{grey}
use Rattle.meaning.specs.Sets.{table}
use Rattle.theory_lists.proofs.Lists.{get_d_table, length-table, table_same}
use Rattle.theory_lists.proofs.Written.{written_over}
use Rattle.theory_connectivity.proofs.Sizes.{greatest_range}
use Rattle.work_columns.specs.Columns.{Only, col}
use Rattle.work_columns.specs.Layout.{VALUE, touch_in}
use Rattle.work_columns.specs.declared.Shape.{Shape}
use Rattle.maxtree_columns.specs.Tree.{Tree, nodes_in}
use Rattle.maxtree_columns.proofs.Tree.{own_inside, own_node, tree_valued}
use Rattle.maxtree_values.specs.Values.{ValuesAre, value_at}

module _ {g : Shape} {f w w' : List ℕ} {count : ℕ} (t : Tree g f w count) (a : Only VALUE g.pixels w w') where
  t' : Tree g f w' count
  t' = tree_valued t a

  -- all nodes have their values v, which by pixel are h, greys
  pub values_are : (v h : ℕ → ℕ) → ((i : ℕ) → i < count → col VALUE g.pixels w' i ≡ v i)
      → ((p : ℕ) → p < g.pixels → v (own g.pixels (touch_in g) (grey f) (nodes_in g f) p) ≡ h p) → ((p : ℕ) → p < g.pixels → h p ≤ g.greatest)
      → ValuesAre g.pixels g.greatest (table g.pixels h) w w'
  values_are v h e same low = record {
    frame = a.frame;
    writable = record {
      small = (greatest_range g.greatest t.plate.range).most;
      room = t'.room;
      owns = own_inside t';
      low = λ p l. omega (arith, here p l, low p l);
    };
    by_pixel = table_same g.pixels (value_at g.pixels w') h here;
  }
    where
      here : (p : ℕ) → p < g.pixels → value_at g.pixels w' p ≡ h p
      here p l =
          ap (col VALUE g.pixels w') (t'.own_is p l)
          ∙ e (own g.pixels (touch_in g) (grey f) (nodes_in g f) p) (own_node t' p l) ∙ same p l

-- the first n entries of an output, which are xs after i of them were written, hold the values of g
pub values_over : {n i : ℕ} (g : ℕ → ℕ) (xs out : List ℕ) → n ≤ length out → length xs ≡ length (take n out) → length (take n out) ≤ i
    → ((k : ℕ) → k < i → get_or xs k 0 ≡ g k) → xs ++ drop n out ≡ over (table n g) out
values_over {n} {i} g xs out room len end all =
    let taken : length (take n out) ≡ n = length-take-le n out room in
    let same : xs ≡ table n g = ext_get_or 0 xs (table n g) (len ∙ taken ∙ sym (length-table n g))
    (λ k l. all k (omega arith) ∙ sym (get_d_table n g k 0 (omega arith))) in
    rw same (written_over n g out)
