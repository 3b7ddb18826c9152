-- What generating a test plate leaves: on a refusal, and with the plate written.
use Rattle.std.proofs.Common.{◌≡◌, ℕ, ◌*◌, true, false, List, length, sym, ◌∙◌, ne_eqb, Result}
use Rattle.meaning.specs.Plate.{grid_fits}
use Rattle.meaning.specs.Answers.{out_after, out_refusal, over}
use Rattle.std.specs.Result.{IsErrAnd}
use Rattle.std.proofs.lemmas.Result.{err_from_is_err_and}
use Rattle.refusals.specs.Numbers.{number_of, refusal_of}
use Rattle.refusals.specs.declared.Refusal.{Refusal}
use Rattle.refusals.proofs.Numbers.{number_nonzero}
use Rattle.seeded_plates.specs.Sequence.{greys_from, seeded_plate, seeded_refusal}

module _ (seed w h : ℕ) (out : List ℕ) where
  -- what is promised: the answer, and the output afterwards
  abbrev Promised : ℕ → List ℕ → Type 0
  Promised r after = (r ≡ seeded_refusal w h (length out)) × (after ≡ out_after (seeded_refusal w h (length out)) (seeded_plate seed w h) out)

  -- 2
  pub beyond_grid : grid_fits w h ≡ false → Promised 2 out
  unfolding seeded_refusal
  beyond_grid e = (rw e, rw e)

  module _ (sizes : grid_fits w h ≡ true) where
    -- where 2 is not met 5 decides
    last : seeded_refusal w h (length out) ≡ out_refusal (w * h) (length out) 0
    unfolding seeded_refusal
    last = rw sizes

    -- 5
    pub too_short : (r : Result (Unit {0}) Refusal) (e : Refusal) → IsErrAnd r (λ y. y ≡ e) → number_of e ≡ out_refusal (w * h) (length out) 0
        → Promised (refusal_of r) out
    too_short r e l is =
        let y = err_from_is_err_and r l in
        let f = is ∙ sym last in
        (rw (y.1, y.2) f, rw (← f, ne_eqb (number_of e) 0 (number_nonzero e)))

    pub generated-whole : {after : List ℕ} → 0 ≡ out_refusal (w * h) (length out) 0 → after ≡ over (greys_from (w * h) seed) out → Promised 0 after
    unfolding seeded_plate
    generated-whole l d = let none : seeded_refusal w h (length out) ≡ 0 = last ∙ sym l in (sym none, rw none d)
