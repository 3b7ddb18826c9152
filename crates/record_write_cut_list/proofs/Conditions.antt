-- The conditions ahead of any work: what is known where none is met, and the refusal from those of the plate, the limit and output, the tables.
use mathlib.Core.Path.{◌≡◌, refl, sym, ◌∙◌}
use mathlib.Core.List.{List}
use Prim.Native.Nat.{ℕ, ◌-◌, ◌*◌, ◌≤◌}
use lib.ListN.{length}
use borrow.Author.Tests.{le-leb, le-ltb}
use Rattle.meaning.specs.Answers.{limit_refusal, out_refusal, plate_refusal, tables_refusal, work_refusal}
use Rattle.refusals.specs.declared.Refusal.{Refusal}
use Rattle.refusals.specs.Numbers.{number_of}
use Rattle.refusals.proofs.Numbers.{number_nonzero}
use Rattle.plate_refusals.proofs.Refusals.{Chain, Filterable, chained, cut_chain, decided, limit_none, out_none, passed}
use Rattle.plate_refusals.proofs.Refusals.{plate_chain, plate_later, plate_none, plate_passes, plate_taken, tables_chain, tables-none, work_chain, work_none}
use Rattle.record_write_cut_list.specs.WriteCutList.{early_refusal}

-- what is not refused
pub record Fits (k w h M limit : ℕ) (f : List ℕ) (out counted lost work : ℕ) : Type 0 where
  pub sizes : Filterable k w h M limit f out work
  pub counts_fit : w * h - 1 ≤ counted
  pub losses_fit : w * h - 1 ≤ lost

module _ (k w h M limit : ℕ) (f : List ℕ) (out counted lost work : ℕ) where
  abbrev early : ℕ → ℕ
  early = early_refusal k w h M limit f out counted lost work

  pub early_chain : Chain early
  unfolding early_refusal
  early_chain =
      chained (plate_chain k w h M f)
      (chained (cut_chain (w * h) limit out) (chained (tables_chain (w * h) counted lost) (work_chain (w * h) work)))

  pub early_fits : early 0 ≡ 0 → Fits k w h M limit f out counted lost work
  unfolding early_refusal
  early_fits e =
      let (taken, e₁) = plate_none k w h M f _ e in
      let (limited, e₂) = limit_none (w * h) limit _ e₁ in
      let (room, e₃) = out_none (w * h) out _ e₂ in
      let (tables, e₄) = tables-none (w * h) counted lost _ e₃ in
      let space = (work_none (w * h) work 0 e₄).0 in
      record {
        sizes = record { taken = taken; limit_low = limited.0; limit_high = limited.1; room = room; space = space };
        counts_fit = tables.0;
        losses_fit = tables.1;
      }

  -- where none is met the later condition decides
  pub early_later : (later : ℕ) → Fits k w h M limit f out counted lost work → early later ≡ later
  unfolding early_refusal
  early_later later x =
      let s = x.sizes in
      plate_passes s.taken (limit_refusal (w * h) limit (out_refusal (w * h) out (tables_refusal (w * h) counted lost (work_refusal (w * h) work later))))
      ∙ rw (
        le-leb 1 limit s.limit_low,
        le-leb limit (w * h) s.limit_high,
        le-ltb out (w * h) s.room,
        le-ltb counted (w * h - 1) x.counts_fit,
        le-ltb lost (w * h - 1) x.losses_fit,
        le-ltb work (8 * (w * h)) s.space,
      )

  -- ---- the refusal of the plate, of the limit and output, of the tables, of the work space is that of the operation

  abbrev space_of : ℕ → ℕ
  space_of n = work_refusal n work 0

  abbrev tables_of : ℕ → ℕ
  tables_of n = tables_refusal n counted lost (space_of n)

  abbrev cut_of : ℕ → ℕ
  cut_of n = limit_refusal n limit (out_refusal n out (tables_of n))

  pub early_plate : (r : Refusal) → number_of r ≡ plate_refusal k w h M f 0 → number_of r ≡ early_refusal k w h M limit f out counted lost work 0
  unfolding early_refusal
  early_plate r e = decided (plate_chain k w h M f) e (number_nonzero r) (cut_of (w * h))

  module _ (e : 0 ≡ plate_refusal k w h M f 0) where
    past_plate : early_refusal k w h M limit f out counted lost work 0 ≡ cut_of (length f)
    unfolding early_refusal
    past_plate = plate_later (plate_taken k w h M f e refl) cut_of

    pub early_cut : (r : Refusal) → number_of r ≡ limit_refusal (length f) limit (out_refusal (length f) out 0)
        → number_of r ≡ early_refusal k w h M limit f out counted lost work 0
    early_cut r e₁ = decided (cut_chain (length f) limit out) e₁ (number_nonzero r) (tables_of (length f)) ∙ sym past_plate

    module _ (e₁ : 0 ≡ limit_refusal (length f) limit (out_refusal (length f) out 0)) where
      past_cut : early_refusal k w h M limit f out counted lost work 0 ≡ tables_of (length f)
      past_cut = past_plate ∙ passed (cut_chain (length f) limit out) e₁ refl (tables_of (length f))

      pub early_tables : (r : Refusal) → number_of r ≡ tables_refusal (length f) counted lost 0
          → number_of r ≡ early_refusal k w h M limit f out counted lost work 0
      early_tables r e₂ = decided (tables_chain (length f) counted lost) e₂ (number_nonzero r) (space_of (length f)) ∙ sym past_cut

      pub early_space : 0 ≡ tables_refusal (length f) counted lost 0 → (s : ℕ) → s ≡ work_refusal (length f) work 0
          → s ≡ early_refusal k w h M limit f out counted lost work 0
      early_space e₂ s e₃ = e₃ ∙ sym (past_cut ∙ passed (tables_chain (length f) counted lost) e₂ refl (space_of (length f)))

-- the four
pub ruleset early_conditions = (early_plate, early_cut, early_tables, early_space)
