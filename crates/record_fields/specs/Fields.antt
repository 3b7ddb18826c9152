-- The fields that the columns of the work space spell. g: the plate's shape; w: the work space; count: the nodes.
use Rattle.std.specs.Prelude.{Bool, List, [], ◌∷◌, ◌++◌, ℕ, suc, ◌-◌}
use Rattle.meaning.specs.Sets.{gather, pick, table}
use Rattle.work_columns.specs.Columns.{col}
use Rattle.work_columns.specs.Layout.{AREA, LEVEL, OWN, PARENT}
use Rattle.work_columns.specs.declared.Shape.{Shape}

-- a node after the root, as `node_fields` has it
unfoldable pub node_columns : Shape → List ℕ → ℕ → List ℕ
node_columns g w i =
    let u = col PARENT g.pixels w i in
    (i - u) ∷ (col LEVEL g.pixels w i - col LEVEL g.pixels w u) ∷ col AREA g.pixels w i ∷ []

-- the fields that the new form has in front; M: the greatest grey
abbrev pub form_fields : ℕ → List ℕ
form_fields M = 0 ∷ 2 ∷ M ∷ []

-- all fields of the new form, as `record_of` has them
unfoldable pub column_fields : Shape → List ℕ → ℕ → List ℕ
column_fields g w count =
    form_fields g.greatest
    ++ (g.width ∷ g.height ∷ g.connectivity ∷ count ∷ col LEVEL g.pixels w 0 ∷ col AREA g.pixels w 0
    ∷ (gather (count - 1) (λ (i : ℕ). node_columns g w (suc i)) ++ table g.pixels (col OWN g.pixels w)))

-- which of them is the first of the record in the new form, or in the old one
abbrev pub first_field : Bool → ℕ
first_field new = pick new 0 3
