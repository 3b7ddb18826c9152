-- `record_sizes::list_sizes` meets its contract.
use mathlib.Core.List.{List}
use Prim.Native.Nat.{ℕ}
use Rattle.work_columns.specs.Layout.{greys_in}
use Rattle.work_columns.specs.declared.Shape.{Shape}
use Rattle.maxtree_columns.proofs.Tree.{attributed_here, tree_plate}
use Rattle.maxtree_attribute.specs.Attributes.{AttributesSet}
use Rattle.record_sizes.specs.Sizes.{SizesListed, SizesWritten}
use Rattle.record_sizes.proofs.list_sizes.Goals as goal

-- the greys stand as they did
written : {g : Shape} {w w' counted counted' lost lost' : List ℕ} {count r : ℕ} → AttributesSet g w w' count
    → SizesListed g (greys_in g.pixels w') counted counted' lost lost' r → SizesWritten g w w' counted counted' lost lost' r
written set listed = record { frame = set.only.frame; listed = rw (tree_plate set.attributed.tree) at listed }

pub list_attributed-requires : goal.list_attributed-requires
list_attributed-requires c =
    record { attributed_stands = attributed_here c.set_attributes.ensures.attributed; tables_fit = c.requires.tables_fit }

pub returns : goal.returns
returns c = written c.set_attributes.ensures c.list_attributed.ensures
