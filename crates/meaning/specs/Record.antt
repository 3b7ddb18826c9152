-- The record of a plate and its connectivity: its fields, each an unsigned number in groups of seven bits (a varint, LEB128). It has two forms: the new
-- one, which is written, and the old one, which a plate has whose greatest grey is 255. M: the greatest grey.
use Rattle.std.specs.Prelude.{Bool, true, false, ℕ, zero, suc, ◌+◌, ◌-◌, ◌/◌, ◌%◌, ltb, length}
use mathlib.Core.List.{List, [], ◌∷◌, ◌++◌}
use Rattle.meaning.specs.Sets.{pick, table, gather}
use Rattle.meaning.specs.Plate.{touch, grey}
use Rattle.meaning.specs.Nodes.{level_of, area_of, own, parent, nodes_of}

-- the groups of v, lowest first, at most k of them: the top bit of a byte is set when another follows
unfoldable pub groups : ℕ → ℕ → List ℕ
groups zero v = []
groups (suc k) v = elim (ltb v 128) [ true ↦ v ∷ [] | false ↦ (128 + v % 128) ∷ groups k (v / 128) ]

-- the shortest form of a number below 4,294,967,296
abbrev pub varint : ℕ → List ℕ
varint v = groups 5 v

-- the shortest forms of several numbers, one after the other
unfoldable pub encode : List ℕ → List ℕ
unfolding groups
encode [] = []
encode (v ∷ vs) = varint v ++ encode vs

module _ (n : ℕ) (near : ℕ → ℕ → Bool) (f : ℕ → ℕ) (xs : List ℕ) where
  -- a node after the root: the step back to its parent's number, its rise above the parent's level, its area
  unfoldable pub node_fields : ℕ → List ℕ
  unfolding parent area_of
  node_fields i =
      let u = parent n near f xs i in
      (i - u) ∷ (level_of n near f xs i - level_of n near f xs u) ∷ area_of n near f xs i ∷ []

  -- node count; root level, root area; each further node; each pixel's own node
  unfoldable pub tree_fields : List ℕ
  unfolding node_fields area_of own gather table
  tree_fields =
      (length xs ∷ level_of n near f xs 0 ∷ area_of n near f xs 0 ∷ [])
      ++ (gather (length xs - 1) (λ (i : ℕ). node_fields (suc i)) ++ table n (own n near f xs))

-- the old form: width, height, connectivity, and the fields of the plate's tree
unfoldable pub fields : ℕ → ℕ → ℕ → List ℕ → List ℕ
unfolding tree_fields touch nodes_of
fields k w h f = w ∷ h ∷ k ∷ tree_fields (length f) (touch k w) (grey f) (nodes_of k w f)

unfoldable pub old_record_of : ℕ → ℕ → ℕ → List ℕ → List ℕ
unfolding encode fields
old_record_of k w h f = encode (fields k w h f)

-- the record's bytes: the new form has 0, 2 and the greatest grey in front of the fields of the old one
unfoldable pub record_of : ℕ → ℕ → ℕ → ℕ → List ℕ → List ℕ
unfolding encode fields
record_of k w h M f = encode (0 ∷ 2 ∷ M ∷ fields k w h f)

-- the record in the new form, or in the old one
abbrev pub record_in : Bool → ℕ → ℕ → ℕ → ℕ → List ℕ → List ℕ
record_in new k w h M f = pick new (record_of k w h M f) (old_record_of k w h f)
