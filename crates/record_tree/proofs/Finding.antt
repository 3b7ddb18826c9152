-- Reading a record up to 24: from what parsing finds to the tree in the work space.
use mathlib.Core.Path.{◌≡◌, refl, sym, ap, ◌∙◌}
use mathlib.Core.Bool.{Bool, true, false}
use mathlib.Core.List.{List}
use Prim.Native.Nat.{ℕ, ◌*◌}
use native.Mathlib.Omega.{arith}
use lib.ListN.{length}
use Rattle.std.specs.Prelude.{Ok, Err}
use Rattle.meaning.specs.Plate.{Plate}
use Rattle.meaning.specs.Record.{record_in}
use Rattle.refusals.specs.declared.Refusal.TheVariants.{RecordOther}
use Rattle.work_columns.specs.Columns.{Frame}
use Rattle.work_columns.specs.Layout.{Buildable, greys_in, shape_of}
use Rattle.work_columns.specs.declared.Shape.{Shape}
use Rattle.work_columns.proofs.Columns.{frame_room, frame_trans}
use Rattle.maxtree_columns.specs.Tree.{Built}
use Rattle.maxtree_columns.proofs.Greys.{greys_column, greys_length}
use Rattle.maxtree_columns.proofs.Tree.{tree_here, tree_plate}
use Rattle.record_parse.specs.declared.RecordHead.{RecordHead}
use Rattle.record_parse.specs.declared.Unread.{Unread}
use Rattle.record_parse.specs.declared.Unread.TheVariants.{Early, Late}
use Rattle.record_parse.specs.Parse.{compared, parse, plate, read_of, same_bytes}
use Rattle.record_parse.proofs.Sound.{parse_plate}
use Rattle.record_parse.specs.Steps.{Spells}
use Rattle.record_tree.specs.Found.{Finds, TreeFound}

-- ---- a record that is no plate's

pub found_unread : (s w w' : List ℕ) (e : Unread) → Spells (parse s (length w)) w w' (Err e) → Finds (read_of s (length w)) w w' (Err e)
unfolding read_of
found_unread s w w' (Early refusal) x = (ap (compared s) (sym x.0), x.1)
found_unread s w w' (Late refusal pixels) x = (ap (compared s) (sym x.0), x.1)

-- ---- a plate. h: what the record says of it

module _ (s w w₁ : List ℕ) (h : RecordHead) (x : Spells (parse s (length w)) w w₁ (Ok h)) where
  parsed : parse s (length w)
      ≡ plate h.new h.plate.connectivity h.plate.width h.plate.height h.plate.greatest (greys_in (h.plate.width * h.plate.height) w₁)
  parsed = sym x.0

  accepted : Plate h.plate.connectivity h.plate.width h.plate.height h.plate.greatest (greys_in (h.plate.width * h.plate.height) w₁)
  accepted = (parse_plate s (length w) h.new h.plate.connectivity h.plate.width h.plate.height h.plate.greatest (greys_in (h.plate.width * h.plate.height) w₁) parsed).accepted

  -- g: its shape
  module _ {g : Shape} (is : g ≡ shape_of (h.plate.width * h.plate.height) h.plate.width h.plate.height h.plate.greatest h.plate.connectivity) where
    -- the tree can be built
    pub head_buildable : Buildable g w₁
    head_buildable = rw is (record {
      room = frame_room x.1.0 x.1.1;
      kind = accepted.kind;
      sizes = accepted.sizes;
      range = accepted.range;
      product = refl;
      greys = λ p l.
          omega (
            arith,
            ap (λ (f : ℕ → ℕ). f p) (greys_column (h.plate.width * h.plate.height) w₁),
            accepted.greys p (omega (arith, greys_length (h.plate.width * h.plate.height) w₁)),
          );
    })

    module _ {w₂ : List ℕ} {count : ℕ} (did : Built g w₁ w₂ count) where
      built : Built (shape_of (h.plate.width * h.plate.height) h.plate.width h.plate.height h.plate.greatest h.plate.connectivity) w₁ w₂ count
      built = rw is at did

      whole : Frame (h.plate.width * h.plate.height) w w₂
      whole = frame_trans x.1.1 built.frame

      read_is : read_of s (length w)
          ≡ compared s (plate h.new h.plate.connectivity h.plate.width h.plate.height h.plate.greatest (greys_in (h.plate.width * h.plate.height) w₂))
      unfolding read_of
      read_is =
          ap (compared s) parsed
          ∙ ap (λ (f : List ℕ). compared s (plate h.new h.plate.connectivity h.plate.width h.plate.height h.plate.greatest f)) (sym (tree_plate built.tree))

      module _ {same : Bool}
          (e : same ≡ same_bytes s (record_in h.new g.connectivity g.width g.height g.greatest (greys_in g.pixels w₂))) where
        same-is : same_bytes s
            (record_in h.new h.plate.connectivity h.plate.width h.plate.height h.plate.greatest (greys_in (h.plate.width * h.plate.height) w₂))
            ≡ same
        same-is = sym (rw is at e)

        -- 24
        pub found_other : same ≡ false → Finds (read_of s (length w)) w w₂ (Err (Late RecordOther (h.plate.width * h.plate.height)))
        found_other d = (read_is ∙ rw (same-is, d), (x.1.0, whole))

        -- a plate's record
        pub found_tree : same ≡ true → TreeFound (read_of s (length w)) w w₂ (record {
          new = h.new;
          plate = h.plate;
          tree = record { shape = g; count = count };
        })
        found_tree d = record { is = read_is ∙ rw (same-is, d); frame = whole; shape = is; tree = tree_here did.tree }
