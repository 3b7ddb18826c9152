-- Reading what writing gives: the fields of a plate's record are in their ranges, and they spell the plate, in each form.
use mathlib.Core.Path.{◌≡◌, refl, sym, ap, ◌∙◌}
use mathlib.Core.Bool.{Bool, true, false}
use mathlib.Core.List.{List, [], ◌∷◌, ◌++◌, map, append_assoc, append-nil}
use Prim.Native.Nat.{ℕ, zero, suc, ◌+◌, ◌-◌, ◌*◌, ◌≤◌, ◌<◌}
use native.Mathlib.Nat.{le_refl, le_trans, add-zero, add-suc, suc-add, zero-add}
use native.Mathlib.Omega.{arith}
use borrow.Author.Tests.{le-ltb, eq-eqb}
use lib.ListN.{length, drop, length-drop}
use Rattle.meaning.specs.Component.{grown, same}
use Rattle.meaning.specs.Nodes.{area_of, holds, level_of, nodes_of, own, parent, rise}
use Rattle.meaning.specs.Paths.{Grid}
use Rattle.meaning.specs.Plate.{Plate, byte_greatest, grey, max_greatest, max_pixels, max_extent, touch}
use Rattle.meaning.specs.Record.{encode, fields, node_fields, old_record_of, record_in, record_of, tree_fields, varint}
use Rattle.meaning.specs.Sets.{area, elem, gather, nth, place, span, sum, table}
use Rattle.theory_lists.proofs.Lists.{distinct_area, gather_cong, get_d_table, length-table, table-suc}
use Rattle.theory_lists.proofs.Sets.{area_le}
use Rattle.theory_lists.proofs.Sums.{area_pos}
use Rattle.theory_connectivity.proofs.Connectivity.{kind_most}
use Rattle.theory_connectivity.proofs.Sizes.{greatest_range}
use Rattle.theory_tree.specs.Tree.{Nodes}
use Rattle.theory_tree.proofs.Nodes.{nodes_distinct, nth_inside, over_holds, own_below, own_level, parent_below, parent_level, root-area, self_over, some-node}
use Rattle.theorems.proofs.Plates.{plate_grid, plate_nodes, plate_sizes, plate_some, table-grey}
use Rattle.record_varint.specs.Field.{accepted, field_at, field_bound}
use Rattle.record_varint.proofs.Encode.{encode_read, encode_rest}
use Rattle.record_parse.specs.Parse.{compared, from_height, good, greys_from, levels_from, parse, plate, read_of, same_bytes}
use Rattle.record_parse.proofs.Fields.{Took}
use Rattle.record_parse.proofs.Record.{after_greatest, after_version, after_width, new_form, old_form}
use Rattle.record_parse.proofs.Sound.{not_old}

-- ---- lists

-- the first part of a gathered list stands in front
gather-first : (m : ℕ) (g : ℕ → List ℕ) → gather (suc m) g ≡ g 0 ++ gather m (λ (i : ℕ). g (suc i))
unfolding gather
gather-first zero g = sym (append-nil (g 0))
gather-first (suc m) g = ap (λ (l : List ℕ). l ++ g (suc m)) (gather-first m g) ∙ append_assoc (g 0) (gather m (λ (i : ℕ). g (suc i))) (g (suc m))

-- ---- the fields of a plate's tree

-- reading stands at a part of the record: the forms of vs and then those of the rest
abbrev EncodedAt : List ℕ → ℕ → List ℕ → Type 0
EncodedAt s at vs = drop at s ≡ encode vs ++ []

module _ {k w h M : ℕ} {f : List ℕ} (pl : Plate k w h M f) (s : List ℕ) where
  abbrev n : ℕ
  n = length f

  abbrev near : ℕ → ℕ → Bool
  near = touch k w

  abbrev xs : List ℕ
  xs = nodes_of k w f

  abbrev level : ℕ → ℕ
  level = level_of n near (grey f) xs

  abbrev up : ℕ → ℕ
  up = parent n near (grey f) xs

  abbrev size : ℕ → ℕ
  size = area_of n near (grey f) xs

  grid : Grid n near
  grid = plate_grid pl

  nodes : Nodes n near (grey f) xs
  nodes = plate_nodes pl

  few : n ≤ 16777216
  few = omega (arith, pl.long, (plate_sizes pl).few_pixels)

  greatest_low : M ≤ max_greatest
  greatest_low = (greatest_range M pl.range).most

  level-low : (i : ℕ) → i < length xs → level i ≤ M
  level-low i l = pl.greys (nth xs i) (nth_inside grid nodes i l)

  size_low : (i : ℕ) → i < length xs → (1 ≤ size i) × (size i ≤ n)
  unfolding area_of
  size_low i l = (
    area_pos n (holds n near (grey f) xs i) (nth xs i) (nth_inside grid nodes i l) (over_holds grid nodes i (nth xs i) (self_over grid nodes i l)),
    area_le n (holds n near (grey f) xs i),
  )

  count_low : length xs ≤ n
  count_low = le_trans (distinct_area n xs (nodes_distinct grid nodes) nodes.inside) (area_le n (elem xs))

  -- ---- the nodes after the root

  record Through (left : ℕ) (levels : List ℕ) (at : ℕ) (rest : List ℕ) : Type 0 where
    next : ℕ
    reads : levels_from M s n left levels at ≡ good (table (length xs) level) next
    stands : EncodedAt s next rest

  -- one node's three fields
  record Node (left i at : ℕ) (rest : List ℕ) : Type 0 where
    next : ℕ
    reads : levels_from M s n (suc left) (table i level) at ≡ levels_from M s n left (table (suc i) level) next
    stands : EncodedAt s next rest

  one_node : (left i at : ℕ) (rest : List ℕ) → 0 < i → i < length xs
      → EncodedAt s at ((i - up i) ∷ (level i - level (up i)) ∷ size i ∷ rest) → Node left i at rest
  unfolding levels_from
  one_node left i at rest pos l st =
      let lv : List ℕ = table i level in
      let back : ℕ = i - up i in
      let rise : ℕ = level i - level (up i) in
      let long : length lv ≡ i = length-table i level in
      let below : up i < i = parent_below grid nodes i pos in
      let darker : level (up i) < level i = parent_level grid nodes i pos l in
      let high : level i ≤ M = level-low i l in
      let area = size_low i l in
      let place : length lv - back ≡ up i = omega arith in
      let parent-level-is : nth lv (length lv - back) ≡ level (up i) = ap (nth lv) place ∙ get_d_table i level (up i) 0 below in
      let at₁ : ℕ = at + length (varint back) in
      let at₂ : ℕ = at₁ + length (varint rise) in
      let at₃ : ℕ = at₂ + length (varint (size i)) in
      let r₁ : field_at s at 1 (length lv) ≡ accepted back at₁ =
      encode_read s at back (rise ∷ size i ∷ rest) [] st 1 (length lv) (omega (arith, count_low, few)) (omega arith) (omega arith) in
      let st₁ : EncodedAt s at₁ (rise ∷ size i ∷ rest) = encode_rest s at back (rise ∷ size i ∷ rest) [] st in
      let r₂ : field_at s at₁ 1 (M - nth lv (length lv - back)) ≡ accepted rise at₂ =
      encode_read s at₁ rise (size i ∷ rest) [] st₁ 1 (M - nth lv (length lv - back)) (omega (arith, greatest_low)) (omega arith) (omega arith) in
      let st₂ : EncodedAt s at₂ (size i ∷ rest) = encode_rest s at₁ rise (size i ∷ rest) [] st₁ in
      let r₃ : field_at s at₂ 1 n ≡ accepted (size i) at₃ =
      encode_read s at₂ (size i) rest [] st₂ 1 n (omega (arith, few, area)) area.0 area.1 in
      let sum : nth lv (length lv - back) + rise ≡ level i = omega arith in
      let grown : lv ++ ((nth lv (length lv - back) + rise) ∷ []) ≡ table (suc i) level =
      ap (λ (x : ℕ). lv ++ (x ∷ [])) sum ∙ sym (table-suc level i) in
      record {
        next = at₃;
        reads = rw (r₁, r₂, r₃, grown);
        stands = encode_rest s at₂ (size i) rest [] st₂;
      }

  -- the fields of the nodes from i on, the first of them apart
  nodes-first : (left i : ℕ) (rest : List ℕ) → gather (suc left) (λ (j : ℕ). node_fields n near (grey f) xs (i + j)) ++ rest
      ≡ (i - up i) ∷ (level i - level (up i)) ∷ size i ∷ (gather left (λ (j : ℕ). node_fields n near (grey f) xs (suc i + j)) ++ rest)
  unfolding node_fields
  nodes-first left i rest =
      let g : ℕ → List ℕ = node_fields n near (grey f) xs in
      ap (λ (l : List ℕ). l ++ rest) (gather-first left (λ (j : ℕ). g (i + j)))
      ∙ append_assoc (g (i + 0)) (gather left (λ (j : ℕ). g (i + suc j))) rest
      ∙ ap (λ (x : ℕ). g x ++ (gather left (λ (j : ℕ). g (i + suc j)) ++ rest)) (add-zero i)
      ∙ ap (λ (l : List ℕ). g i ++ (l ++ rest))
      (gather_cong left (λ (j : ℕ). g (i + suc j)) (λ (j : ℕ). g (suc i + j)) (λ j. ap g (add-suc i j ∙ sym (suc-add i j))))

  levels_there : (left i at : ℕ) (rest : List ℕ) → i + left ≡ length xs → 0 < i
      → EncodedAt s at (gather left (λ (j : ℕ). node_fields n near (grey f) xs (i + j)) ++ rest) → Through left (table i level) at rest
  unfolding levels_from gather
  levels_there zero i at rest e pos st = record {
    next = at;
    reads = ap (λ (m : ℕ). good (table m level) at) (sym (add-zero i) ∙ e);
    stands = st;
  }
  levels_there (suc left) i at rest e pos st =
      let tail : List ℕ = gather left (λ (j : ℕ). node_fields n near (grey f) xs (suc i + j)) ++ rest in
      let one : Node left i at tail = one_node left i at tail pos (omega arith) (rw (nodes-first left i rest) at st) in
      let others : Through left (table (suc i) level) one.next rest =
      levels_there left (suc i) one.next rest (omega arith) (omega arith) one.stands in
      record { next = others.next; reads = one.reads ∙ others.reads; stands = others.stands }

  -- ---- the pixels' own nodes

  abbrev mine : ℕ → ℕ
  mine = own n near (grey f) xs

  record GreysThere (left p at : ℕ) : Type 0 where
    next : ℕ
    reads : greys_from s n (table (length xs) level) left at ≡ good (map (grey f) (span p left)) next
    ends : drop next s ≡ []

  greys_there : (left p at : ℕ) → p + left ≡ n → EncodedAt s at (map mine (span p left)) → GreysThere left p at
  unfolding greys_from span encode
  greys_there zero p at e st = record { next = at; reads = refl; ends = st }
  greys_there (suc left) p at e st =
      let lv : List ℕ = table (length xs) level in
      let l : p < n = omega arith in
      let low : mine p < length xs = own_below grid nodes p l in
      let long : length lv ≡ length xs = length-table (length xs) level in
      let at₁ : ℕ = at + length (varint (mine p)) in
      let rest : List ℕ = map mine (span (suc p) left) in
      let r : field_at s at 0 (length lv - 1) ≡ accepted (mine p) at₁ =
      encode_read s at (mine p) rest [] st 0 (length lv - 1) (omega (arith, count_low, few)) (omega arith) (omega arith) in
      let others : GreysThere left (suc p) at₁ = greys_there left (suc p) at₁ (omega arith) (encode_rest s at (mine p) rest [] st) in
      let level_is : nth lv (mine p) ≡ grey f p = get_d_table (length xs) level (mine p) 0 low ∙ own_level grid nodes p l in
      record {
        next = others.next;
        reads = rw (r, others.reads, level_is);
        ends = others.ends;
      }

-- ---- the whole record

module _ {k w h M : ℕ} {f : List ℕ} (pl : Plate k w h M f) where
  abbrev count : ℕ
  count = length (nodes_of k w f)

  abbrev root : ℕ
  root = level_of (length f) (touch k w) (grey f) (nodes_of k w f) 0

  abbrev fields_own : List ℕ
  fields_own = map (own (length f) (touch k w) (grey f) (nodes_of k w f)) (span 0 (length f))

  abbrev fields-nodes : List ℕ
  fields-nodes = gather (count - 1) (λ (j : ℕ). node_fields (length f) (touch k w) (grey f) (nodes_of k w f) (1 + j)) ++ fields_own

  -- the fields after the width
  abbrev fields_height : List ℕ
  fields_height = h ∷ k ∷ count ∷ root ∷ w * h ∷ fields-nodes

  some-nodes : 0 < count
  some-nodes = some-node (plate_grid pl) (plate_nodes pl) 0 (plate_some pl)

  -- the fields of the old form, one after the other
  fields_are : fields k w h f ≡ w ∷ fields_height
  unfolding fields tree_fields table
  fields_are =
      let g : ℕ → List ℕ = node_fields (length f) (touch k w) (grey f) (nodes_of k w f) in
      let same : gather (count - 1) (λ (i : ℕ). g (suc i)) ≡ gather (count - 1) (λ (j : ℕ). g (1 + j)) =
      gather_cong (count - 1) (λ (i : ℕ). g (suc i)) (λ (j : ℕ). g (1 + j)) (λ j. ap g (omega arith)) in
      let area : area_of (length f) (touch k w) (grey f) (nodes_of k w f) 0 ≡ w * h = root-area (plate_grid pl) (plate_nodes pl) ∙ pl.long in
      ap (λ (a : ℕ). w ∷ h ∷ k ∷ count ∷ root ∷ a ∷ (gather (count - 1) (λ (i : ℕ). g (suc i)) ++ fields_own)) area
      ∙ ap (λ (l : List ℕ). w ∷ h ∷ k ∷ count ∷ root ∷ w * h ∷ (l ++ fields_own)) same

  -- where the fields after the width stand in the bytes s, reading them in either form gives the plate
  height_there : (new : Bool) (s : List ℕ) (work at : ℕ) → 8 * (w * h) ≤ work → EncodedAt s at fields_height
      → from_height new M s work w at ≡ plate new k w h M f
  unfolding from_height table
  height_there new s work at room st =
      let sz = plate_sizes pl in
      let rest₃ : List ℕ = root ∷ w * h ∷ fields-nodes in
      let rest₂ : List ℕ = k ∷ count ∷ rest₃ in
      let at₂ : ℕ = at + length (varint h) in
      let at₃ : ℕ = at₂ + length (varint k) in
      let at₄ : ℕ = at₃ + length (varint count) in
      let at₅ : ℕ = at₄ + length (varint root) in
      let at₆ : ℕ = at₅ + length (varint (w * h)) in
      let kind : k ≤ 8 = kind_most k pl.kind in
      let few_nodes : count ≤ w * h = omega (arith, count_low pl s, pl.long) in
      let dark : root ≤ M = level-low pl s 0 some-nodes in
      let r₂ : field_at s at 1 max_extent ≡ accepted h at₂ =
      encode_read s at h rest₂ [] st 1 max_extent (omega (arith, sz.high.most)) sz.high.least sz.high.most in
      let st₂ : EncodedAt s at₂ rest₂ = encode_rest s at h rest₂ [] st in
      let r₃ : field_at s at₂ 0 (field_bound - 1) ≡ accepted k at₃ =
      encode_read s at₂ k (count ∷ rest₃) [] st₂ 0 (field_bound - 1) (omega arith) (omega arith) (omega arith) in
      let st₃ : EncodedAt s at₃ (count ∷ rest₃) = encode_rest s at₂ k (count ∷ rest₃) [] st₂ in
      let r₄ : field_at s at₃ 1 (w * h) ≡ accepted count at₄ =
      encode_read s at₃ count rest₃ [] st₃ 1 (w * h) (omega (arith, sz.few_pixels)) some-nodes few_nodes in
      let st₄ : EncodedAt s at₄ rest₃ = encode_rest s at₃ count rest₃ [] st₃ in
      let r₅ : field_at s at₄ 0 M ≡ accepted root at₅ =
      encode_read s at₄ root (w * h ∷ fields-nodes) [] st₄ 0 M (omega (arith, dark, greatest_low pl s)) (omega arith) dark in
      let st₅ : EncodedAt s at₅ (w * h ∷ fields-nodes) = encode_rest s at₄ root (w * h ∷ fields-nodes) [] st₄ in
      let r₆ : field_at s at₅ 1 (w * h) ≡ accepted (w * h) at₆ =
      encode_read s at₅ (w * h) fields-nodes [] st₅ 1 (w * h) (omega (arith, sz.few_pixels)) (omega (arith, plate_some pl, pl.long))
      (le_refl (w * h)) in
      let st₆ : EncodedAt s at₆ fields-nodes = encode_rest s at₅ (w * h) fields-nodes [] st₅ in
      let thr = levels_there pl s (count - 1) 1 at₆ fields_own (omega (arith, some-nodes)) (omega arith) st₆ in
      let spl = greys_there pl s (length f) 0 thr.next (zero-add (length f)) thr.stands in
      let levels : List ℕ = table count (level_of (length f) (touch k w) (grey f) (nodes_of k w f)) in
      let r₇ : levels_from M s (w * h) (count - 1) (root ∷ []) at₆ ≡ good levels thr.next =
      ap (λ (m : ℕ). levels_from M s m (count - 1) (root ∷ []) at₆) (sym pl.long) ∙ thr.reads in
      let r₈ : greys_from s (w * h) levels (w * h) thr.next ≡ good f spl.next =
      ap (λ (m : ℕ). greys_from s m levels m thr.next) (sym pl.long)
      ∙ spl.reads ∙ ap (λ (l : List ℕ). good l spl.next) (table-grey f) in
      let ended : length s ≤ spl.next = omega (arith, length-drop spl.next s, ap length spl.ends) in
      rw (
        r₂,
        le-ltb max_pixels (w * h) sz.few_pixels,
        r₃,
        pl.kind,
        r₄,
        le-ltb work (8 * (w * h)) room,
        r₅,
        r₆,
        r₇,
        r₈,
        le-ltb spl.next (length s) ended,
      )

  -- ---- the two forms

  -- a number that stands there is accepted
  taken : (s : List ℕ) (at v : ℕ) (vs : List ℕ) → EncodedAt s at (v ∷ vs) → (lo hi : ℕ) → v < field_bound → lo ≤ v → v ≤ hi
      → Took s at lo hi v (at + length (varint v))
  taken s at v vs st lo hi small low high = record { read = encode_read s at v vs [] st lo hi small low high; low = low; high = high }

  old_there : (work : ℕ) → 8 * (w * h) ≤ work → M ≡ byte_greatest → parse (old_record_of k w h f) work ≡ plate false k w h M f
  unfolding old_record_of
  old_there work room is =
      let s : List ℕ = old_record_of k w h f in
      let sz = plate_sizes pl in
      let st : EncodedAt s 0 (w ∷ fields_height) = sym (append-nil s) ∙ ap (λ (l : List ℕ). encode l ++ []) fields_are in
      let at : ℕ = 0 + length (varint w) in
      let wide = taken s 0 w fields_height st 0 max_extent (omega (arith, sz.wide.most)) (omega arith) sz.wide.most in
      old_form s work wide (λ e. omega (arith, sz.wide.least))
      ∙ ap (λ (m : ℕ). from_height false m s work w at) (sym is)
      ∙ height_there false s work at room (encode_rest s 0 w fields_height [] st)

  new_there : (work : ℕ) → 8 * (w * h) ≤ work → parse (record_of k w h M f) work ≡ plate true k w h M f
  unfolding record_of
  new_there work room =
      let s : List ℕ = record_of k w h M f in
      let sz = plate_sizes pl in
      let all : List ℕ = w ∷ fields_height in
      let st₀ : EncodedAt s 0 (0 ∷ 2 ∷ M ∷ all) = sym (append-nil s) ∙ ap (λ (l : List ℕ). encode (0 ∷ 2 ∷ M ∷ l) ++ []) fields_are in
      let at₁ : ℕ = 0 + length (varint 0) in
      let at₂ : ℕ = at₁ + length (varint 2) in
      let at₃ : ℕ = at₂ + length (varint M) in
      let at₄ : ℕ = at₃ + length (varint w) in
      let st₁ : EncodedAt s at₁ (2 ∷ M ∷ all) = encode_rest s 0 0 (2 ∷ M ∷ all) [] st₀ in
      let st₂ : EncodedAt s at₂ (M ∷ all) = encode_rest s at₁ 2 (M ∷ all) [] st₁ in
      let st₃ : EncodedAt s at₃ all = encode_rest s at₂ M all [] st₂ in
      let st₄ : EncodedAt s at₄ fields_height = encode_rest s at₃ w fields_height [] st₃ in
      let mark = taken s 0 0 (2 ∷ M ∷ all) st₀ 0 max_extent (omega arith) (omega arith) (omega arith) in
      let version = taken s at₁ 2 (M ∷ all) st₁ 2 2 (omega arith) (omega arith) (omega arith) in
      let range = greatest_range M pl.range in
      let greatest = taken s at₂ M all st₂ 1 max_greatest (omega (arith, range.most)) range.least range.most in
      let wide = taken s at₃ w fields_height st₃ 1 max_extent (omega (arith, sz.wide.most)) sz.wide.least sz.wide.most in
      new_form s work mark refl ∙ after_version s work at₁ version ∙ after_greatest s work at₂ greatest ∙ after_width s work at₃ M wide
      ∙ height_there true s work at₄ room st₄

-- a plate's record in a form is parsed as that plate. In the old form its greatest grey is that of a byte
pub parse_there : {k w h M : ℕ} {f : List ℕ} → Plate k w h M f → (new : Bool) → (new ≡ false → M ≡ byte_greatest) → (work : ℕ) → 8 * (w * h) ≤ work
    → parse (record_in new k w h M f) work ≡ plate new k w h M f
parse_there pl true old work room = new_there pl work room
parse_there pl false old work room = old_there pl work room (old refl)

-- ---- and 24

bytes_same : (xs : List ℕ) → same_bytes xs xs ≡ true
unfolding same_bytes
bytes_same [] = refl
bytes_same (x ∷ xs) = rw (eq-eqb x x refl, bytes_same xs)

-- a plate's record in a form, given its space, is read as that plate
pub read_there : {k w h M : ℕ} {f : List ℕ} → Plate k w h M f → (new : Bool) → (new ≡ false → M ≡ byte_greatest) → (work : ℕ) → 8 * (w * h) ≤ work
    → read_of (record_in new k w h M f) work ≡ plate new k w h M f
unfolding read_of
read_there {k} {w} {h} {M} {f} pl new old work room =
    ap (compared (record_in new k w h M f)) (parse_there pl new old work room) ∙ rw (bytes_same (record_in new k w h M f))

-- plates and forms with one record are one
pub record_injective : {k k' w w' h h' M M' : ℕ} {f f' : List ℕ} → Plate k w h M f → Plate k' w' h' M' f' → (new new' : Bool)
    → (new ≡ false → M ≡ byte_greatest) → (new' ≡ false → M' ≡ byte_greatest) → record_in new k w h M f ≡ record_in new' k' w' h' M' f'
    → plate new k w h M f ≡ plate new' k' w' h' M' f'
record_injective {w = w} {w'} {h} {h'} pl pl' new new' old old' e =
    let work : ℕ = 8 * (w * h) + 8 * (w' * h') in
    sym (parse_there pl new old work (omega arith)) ∙ ap (λ (s : List ℕ). parse s work) e ∙ parse_there pl' new' old' work (omega arith)

-- the same of the new form

pub read_new : {k w h M : ℕ} {f : List ℕ} → Plate k w h M f → (work : ℕ) → 8 * (w * h) ≤ work → read_of (record_of k w h M f) work ≡ plate true k w h M f
read_new pl work room = read_there pl true not_old work room
