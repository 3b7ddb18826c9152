-- A node list is started, and what is left of it when it ends.
use mathlib.Core.Path.{◌≡◌, refl, sym, ◌∙◌}
use mathlib.Core.Bool.{false}
use mathlib.Core.List.{List, ◌++◌}
use Prim.Native.Nat.{ℕ, ◌*◌, ◌<◌}
use native.Mathlib.Omega.{arith}
use lib.Dec.{eqb}
use lib.ListN.{length, drop, replicate}
use borrow.Author.Tests.{ne_eqb}
use Rattle.meaning.specs.Answers.{out_refusal, plate_refusal, work_refusal}
use Rattle.meaning.specs.Nodes.{nodes_of}
use Rattle.refusals.specs.declared.Refusal.{Refusal}
use Rattle.refusals.specs.Numbers.{number_of}
use Rattle.refusals.proofs.Numbers.{number_nonzero}
use Rattle.plate_refusals.specs.declared.PlateHead.{PlateHead}
use Rattle.plate_refusals.proofs.Refusals.{Listable, out_met, out_none, tree_early, tree_first, tree_later, tree_none}
use Rattle.work_columns.specs.Layout.{shape_of}
use Rattle.work_columns.specs.declared.Shape.{Shape}
use Rattle.maxtree_columns.proofs.Tree.{few_nodes}
use Rattle.plate_tree.specs.PlateTree.{PlateReady, PlateTree}
use Rattle.plate_tree.specs.Listing.{ListAnswered, Started, node_list_refusal}
use Rattle.plate_tree.proofs.Building.{cleared_space, plate_ready}

module _ (plate : PlateHead) (f work : List ℕ) (places : ℕ) where
  -- what its head, its greys and the work space refuse
  abbrev first_refusal : ℕ
  first_refusal =
      plate_refusal plate.connectivity plate.width plate.height plate.greatest f (work_refusal (plate.width * plate.height) (length work) 0)

  abbrev StartedSo : List ℕ → ℕ → ℕ → Type 0
  StartedSo = Started plate.connectivity plate.width plate.height plate.greatest f places work

  -- 1, 2, 29, 3, 28 or 6
  pub started_refused : (r : Refusal) → number_of r ≡ first_refusal → StartedSo work (number_of r) 0
  unfolding node_list_refusal
  started_refused r e =
      let x = number_nonzero r in
      let z : eqb (number_of r) 0 ≡ false = ne_eqb _ 0 x in
      let y : eqb (number_of r) 5 ≡ false = ne_eqb _ 5 (tree_early _ _ _ _ f (length work) e) in
      record {
        number = tree_first _ _ _ _ f (length work) e x (length (nodes_of plate.connectivity plate.width f)) places;
        counted = rw z;
        fits = omega arith;
        stopped = λ _. rw (z, y);
        tree_stands = λ u. absurd (x u);
      }

  module _ (e : 0 ≡ first_refusal) where
    listable : Listable plate.connectivity plate.width plate.height plate.greatest f (length work)
    listable = tree_none _ _ _ _ f (length work) e refl

    module _ {g : Shape} (shape : g ≡ shape_of (length f) plate.width plate.height plate.greatest plate.connectivity) where
      pub started_ready : PlateReady g f work
      started_ready = plate_ready shape listable.taken listable.space

      module _ {w₁ : List ℕ} {count : ℕ} (stood : PlateTree false g f work w₁ count) where
        p : PlateTree false (shape_of (length f) plate.width plate.height plate.greatest plate.connectivity) f work w₁ count
        p = rw shape at stood

        -- the count fits an answer
        pub started_count : count < 4294967296
        started_count = omega (arith, few_nodes p.tree, p.tree.room.small)

        refusal_is : node_list_refusal plate.connectivity plate.width plate.height plate.greatest f places (length work) ≡ out_refusal count places 0
        unfolding node_list_refusal
        refusal_is = tree_later listable (length (nodes_of plate.connectivity plate.width f)) places ∙ rw p.tree.nodes

        -- 5: too few places
        pub started_short : (r : Refusal) {w₂ : List ℕ} → number_of r ≡ out_refusal count places 0
            → w₂ ≡ replicate (8 * length f) 0 ++ drop (8 * length f) w₁ → StartedSo w₂ (number_of r) 0
        started_short r e c =
            let x = number_nonzero r in
            record {
              number = e ∙ sym refusal_is;
              counted = rw (ne_eqb _ 0 x);
              fits = omega arith;
              stopped = λ _. rw (e ∙ out_met count places (λ u. x (e ∙ u))) (cleared_space p.plate p.frame c);
              tree_stands = λ u. absurd (x u);
            }

        pub started_done : 0 ≡ out_refusal count places 0 → StartedSo w₁ 0 count
        started_done e = record {
          number = e ∙ sym refusal_is;
          counted = p.tree.nodes;
          fits = (out_none count places 0 (sym e)).0;
          stopped = λ x. absurd (x refl);
          tree_stands = λ _. p;
        }

-- what a list that is not refused answers, with the work space cleared at the end
pub list_done : {k w h M : ℕ} {f work w₁ w₂ : List ℕ} {places count : ℕ} → Started k w h M f places work w₁ 0 count
    → w₂ ≡ replicate (8 * length f) 0 ++ drop (8 * length f) w₁ → ListAnswered k w h M f places work w₂ 0 count
list_done s c =
    let p = s.tree_stands refl in
    record { number = s.number; counted = s.counted; space = cleared_space p.plate p.frame c; accepted = λ _. p.plate }
