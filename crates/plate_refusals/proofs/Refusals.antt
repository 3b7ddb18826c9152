-- Chains of conditions: which condition decides, and what is known where none is met.
use mathlib.Core.Path.{◌≡◌, refl, sym, subst, ap, ◌∙◌}
use mathlib.Core.Bool.{Bool, true, false, not, ◌&&◌}
use mathlib.Core.List.{List}
use mathlib.Core.Logic.{◌⊎◌, inl, inr}
use Prim.Native.Nat.{ℕ, ◌-◌, ◌*◌, ◌≤◌, ◌<◌}
use native.Mathlib.Decide.{dec_lt}
use native.Mathlib.Omega.{arith}
use lib.Dec.{T, leb, ltb, eqb, leb→le, ltb→lt, lt→ltb, eqb→eq}
use lib.ListN.{length}
use borrow.Author.Tests.{eqb-true, eq-eqb, ne_eqb, not-false, ltb-false, le-leb, le-ltb}
use Rattle.meaning.specs.Answers.{any_above, clean_refusal, filter_refusal, image_refusal, limit_refusal, maxima_refusal, out_refusal, plate_refusal}
use Rattle.meaning.specs.Answers.{refuse, tables_refusal, tree_refusal, work_refusal}
use Rattle.meaning.specs.Opening.{dark_side, light_side, side_fits}
use Rattle.meaning.specs.Plate.{Plate, connectivity_fits, greatest_fits, grey, grid_fits, max_pixels}
use Rattle.meaning.specs.Sets.{some}
use Rattle.refusals.specs.declared.Refusal.{Refusal}
use Rattle.plate_refusals.specs.declared.Side.{Side}
use Rattle.plate_refusals.specs.declared.Side.TheVariants.{Light, Dark}
use Rattle.plate_refusals.specs.Sides.{side_number}
use Rattle.std.specs.Prelude.{IsTrue, ◌↔◌}
use Rattle.std.proofs.lemmas.Grind.{get_or_default_zero}
use Rattle.std.specs.List.{Any}
use Rattle.refusals.specs.Numbers.{number_of}
use Rattle.refusals.proofs.Numbers.{number_nonzero}
use Rattle.theory_connectivity.proofs.Sizes.{grid_sizes}
use Rattle.theory_lists.proofs.Sets.{some_elim, some_intro}
use Rattle.theory_lists.proofs.Tests.{either_cases, passes, tests}

-- ---- any chain, as a function of what the later conditions give

-- none of the conditions is met, and the later ones decide; or one is, and they do not matter
pub data Chain : (ℕ → ℕ) → Type 0 where
  through : {s : ℕ → ℕ} → ((later : ℕ) → s later ≡ later) → Chain s
  stops : {s : ℕ → ℕ} (number : ℕ) → 0 < number → ((later : ℕ) → s later ≡ number) → Chain s

pub one : (met : Bool) (number : ℕ) → 0 < number → Chain (refuse met number)
one true number l = stops number l (λ later. refl)
one false number l = through (λ later. refl)

pub chained : {s t : ℕ → ℕ} → Chain s → Chain t → Chain (λ later. s (t later))
chained {s} {t} (through p) (through q) = through (λ later. p (t later) ∙ q later)
chained {s} {t} (through p) (stops number l q) = stops number l (λ later. p (t later) ∙ q later)
chained {s} {t} (stops number l p) c = stops number l (λ later. p (t later))

-- r was found to be the chain's number: it stays, or the later conditions decide
pub decided : {s : ℕ → ℕ} {r : ℕ} → Chain s → r ≡ s 0 → (r ≡ 0 → ⊥) → (later : ℕ) → r ≡ s later
decided (through p) e x later = absurd (x (e ∙ p 0))
decided (stops number l p) e x later = e ∙ p 0 ∙ sym (p later)

pub passed : {s : ℕ → ℕ} {r : ℕ} → Chain s → r ≡ s 0 → r ≡ 0 → (later : ℕ) → s later ≡ later
passed (through p) e z later = p later
passed (stops number l p) e z later = absurd (omega (arith, l, p 0, e, z))

-- a condition that is not met, with none of the later ones
pub refuse-none : (met : Bool) (number later : ℕ) → 0 < number → refuse met number later ≡ 0 → (met ≡ false) × (later ≡ 0)
refuse-none true number later h e = absurd (omega arith)
refuse-none false number later h e = (refl, e)

-- one that is met
pub refuse_met : (met : Bool) (number : ℕ) → (refuse met number 0 ≡ 0 → ⊥) → met ≡ true
refuse_met true number x = refl
refuse_met false number x = absurd (x refl)

-- ---- 28

module _ (M : ℕ) (f : List ℕ) where
  abbrev above : ℕ → Bool
  above p = ltb M (grey f p)

  pub above_met : (p : ℕ) → p < length f → M < grey f p → any_above M f ≡ true
  unfolding any_above
  above_met p l h = held (some (length f) above) (some_intro (length f) above p l (lt→ltb M (grey f p) h))
    where
      held : (b : Bool) → T b → b ≡ true
      held true t = refl
      held false t = absurd t

  pub above_none : ((p : ℕ) → p < length f → grey f p ≤ M) → any_above M f ≡ false
  unfolding any_above
  above_none low = go (some (length f) above) refl
    where
      go : (b : Bool) → some (length f) above ≡ b → some (length f) above ≡ false
      go false e = e
      go true e =
          let (p, l, t) = some_elim (length f) above (passes e) in
          absurd (omega (arith, low p l, ltb→lt M (grey f p) t))

  pub none_above : any_above M f ≡ false → (p : ℕ) → p < length f → grey f p ≤ M
  none_above e p l = elim (dec_lt M (grey f p)) [
    | yes h ↦ (let x : true ≡ false = sym (above_met p l h) ∙ e in absurd (subst T x tt))
    | no h ↦ omega arith
  ]

-- where `any` finds one
pub above_is : (M : ℕ) (f : List ℕ) (b : Bool) → (IsTrue b ↔ Any (λ (x : ℕ). M < x) f) → b ≡ any_above M f
above_is M f true e =
    let (p, x, l, is, high) = e.0 refl in
    sym (above_met M f p l (omega (arith, high, get_or_default_zero f p x l, is)))
above_is M f false e = sym (above_none M f (λ p l. below p (dec_lt M (grey f p)) (λ high. absurd (subst T (sym (e.1 (p, grey f p, l, get_or_default_zero f p (grey f p) l, high))) tt))))
  where
    below : (p : ℕ) → Dec (M < grey f p) → (M < grey f p → ⊥) → grey f p ≤ M
    below p d x = elim d [ yes h ↦ absurd (x h) | no h ↦ omega arith ]

-- ---- the conditions that several operations share

module _ (w h M : ℕ) (f : List ℕ) where
  pub image_chain : Chain (image_refusal w h M f)
  image_chain =
      chained (one (not (grid_fits w h)) 2 (omega arith))
      (chained (one (not (greatest_fits M)) 29 (omega arith))
      (chained (one (not (eqb (length f) (w * h))) 3 (omega arith)) (one (any_above M f) 28 (omega arith))))

  -- what none of 2, 29, 3 and 28 refuses is an accepted plate, with any connectivity
  pub image_none : {k : ℕ} → connectivity_fits k ≡ true → (later : ℕ) → image_refusal w h M f later ≡ 0 → Plate k w h M f × (later ≡ 0)
  image_none kind later e =
      let (grid, e₁) = refuse-none (not (grid_fits w h)) 2 _ (omega arith) e in
      let (range, e₂) = refuse-none (not (greatest_fits M)) 29 _ (omega arith) e₁ in
      let (long, e₃) = refuse-none (not (eqb (length f) (w * h))) 3 _ (omega arith) e₂ in
      let (low, e₄) = refuse-none (any_above M f) 28 later (omega arith) e₃ in (
        record {
          kind = kind;
          sizes = not-false (grid_fits w h) grid;
          range = not-false (greatest_fits M) range;
          long = eqb-true (length f) (w * h) (not-false (eqb (length f) (w * h)) long);
          greys = none_above M f low;
        },
        e₄,
      )

module _ (k w h M : ℕ) (f : List ℕ) where
  pub plate_chain : Chain (plate_refusal k w h M f)
  plate_chain = chained (one (not (connectivity_fits k)) 1 (omega arith)) (image_chain w h M f)

  -- what none of 1, 2, 29, 3 and 28 refuses is an accepted plate
  pub plate_none : (later : ℕ) → plate_refusal k w h M f later ≡ 0 → Plate k w h M f × (later ≡ 0)
  plate_none later e =
      let (kind, e₁) = refuse-none (not (connectivity_fits k)) 1 _ (omega arith) e in
      image_none w h M f (not-false (connectivity_fits k) kind) later e₁

  -- r was found to be the refusal by the five
  pub plate_taken : {r : ℕ} → r ≡ plate_refusal k w h M f 0 → r ≡ 0 → Plate k w h M f
  plate_taken e z = (plate_none 0 (sym e ∙ z)).0

-- none of the four, and none of the five, is met by an accepted plate, and the later conditions decide
pub image_passes : {k w h M : ℕ} {f : List ℕ} → Plate k w h M f → (later : ℕ) → image_refusal w h M f later ≡ later
image_passes {k} {w} {h} {M} {f} t later =
    rw (t.sizes, t.range, eq-eqb (length f) (w * h) t.long, above_none M f t.greys)

pub plate_passes : {k w h M : ℕ} {f : List ℕ} → Plate k w h M f → (later : ℕ) → plate_refusal k w h M f later ≡ later
plate_passes t later = rw t.kind (image_passes t later)

-- those on the pixels
pub plate_later : {k w h M : ℕ} {f : List ℕ} → Plate k w h M f → (later : ℕ → ℕ) → plate_refusal k w h M f (later (w * h)) ≡ later (length f)
plate_later {w = w} {h = h} t later = plate_passes t (later (w * h)) ∙ ap later (sym t.long)

-- and the pixels are few
pub taken_few : {k w h M : ℕ} {f : List ℕ} → Plate k w h M f → length f ≤ max_pixels
taken_few {k} {w} {h} t = omega (arith, t.long, (grid_sizes w h t.sizes).few_pixels)

pub limit_none : (pixels limit later : ℕ) → limit_refusal pixels limit later ≡ 0 → ((1 ≤ limit) × (limit ≤ pixels)) × (later ≡ 0)
limit_none pixels limit later e =
    let fits : Bool = leb 1 limit && leb limit pixels in
    let a = refuse-none (not fits) 4 later (omega arith) e in
    let t : T fits = passes (not-false fits a.0) in
    ((leb→le 1 limit (search tests), leb→le limit pixels (search tests)), a.1)

pub out_none : (needed out later : ℕ) → out_refusal needed out later ≡ 0 → (needed ≤ out) × (later ≡ 0)
out_none needed out later e = let a = refuse-none (ltb out needed) 5 later (omega arith) e in (ltb-false out needed a.0, a.1)

-- and where it is not 0 it is 5
pub out_met : (needed out : ℕ) → (out_refusal needed out 0 ≡ 0 → ⊥) → out_refusal needed out 0 ≡ 5
out_met needed out x = rw (refuse_met (ltb out needed) 5 x)

pub tables-none : (pixels counts losses later : ℕ) → tables_refusal pixels counts losses later ≡ 0
    → ((pixels - 1 ≤ counts) × (pixels - 1 ≤ losses)) × (later ≡ 0)
tables-none pixels counts losses later e =
    let a = out_none (pixels - 1) counts (out_refusal (pixels - 1) losses later) e in
    let b = out_none (pixels - 1) losses later a.1 in
    ((a.0, b.0), b.1)

pub work_none : (pixels work later : ℕ) → work_refusal pixels work later ≡ 0 → (8 * pixels ≤ work) × (later ≡ 0)
work_none pixels work later e =
    let a = refuse-none (ltb work (8 * pixels)) 6 later (omega arith) e in (ltb-false work (8 * pixels) a.0, a.1)

pub out_chain : (needed out : ℕ) → Chain (out_refusal needed out)
out_chain needed out = one (ltb out needed) 5 (omega arith)

pub cut_chain : (pixels limit out : ℕ) → Chain (λ later. limit_refusal pixels limit (out_refusal pixels out later))
cut_chain pixels limit out = chained (one (not (leb 1 limit && leb limit pixels)) 4 (omega arith)) (out_chain pixels out)

pub tables_chain : (pixels counts losses : ℕ) → Chain (tables_refusal pixels counts losses)
tables_chain pixels counts losses = chained (out_chain (pixels - 1) counts) (out_chain (pixels - 1) losses)

pub work_chain : (pixels work : ℕ) → Chain (work_refusal pixels work)
work_chain pixels work = one (ltb work (8 * pixels)) 6 (omega arith)

-- ---- a plate, a limit and an output of as many pixels

-- what is not refused
pub record Filterable (k w h M limit : ℕ) (f : List ℕ) (out work : ℕ) : Type 0 where
  pub taken : Plate k w h M f
  pub limit_low : 1 ≤ limit
  pub limit_high : limit ≤ w * h
  pub room : w * h ≤ out
  pub space : 8 * (w * h) ≤ work

pub filter_none : (k w h M limit : ℕ) (f : List ℕ) (out work : ℕ) → filter_refusal k w h M limit f out work ≡ 0 → Filterable k w h M limit f out work
unfolding filter_refusal
filter_none k w h M limit f out work e =
    let (taken, e₁) = plate_none k w h M f _ e in
    let (limited, e₂) = limit_none (w * h) limit _ e₁ in
    let (room, e₃) = out_none (w * h) out _ e₂ in
    record { taken = taken; limit_low = limited.0; limit_high = limited.1; room = room; space = (work_none (w * h) work 0 e₃).0 }

pub filterable_none : {k w h M limit : ℕ} {f : List ℕ} {out work : ℕ} → Filterable k w h M limit f out work → filter_refusal k w h M limit f out work ≡ 0
unfolding filter_refusal
filterable_none {k} {w} {h} {M} {limit} {f} {out} {work} s =
    rw (
      plate_passes s.taken (limit_refusal (w * h) limit (out_refusal (w * h) out (work_refusal (w * h) work 0))),
      le-leb 1 limit s.limit_low,
      le-leb limit (w * h) s.limit_high,
      le-ltb out (w * h) s.room,
      le-ltb work (8 * (w * h)) s.space,
    )

-- the refusal of the plate, of the limit and output, of the work space is that of the operation
module _ (k w h M limit : ℕ) (f : List ℕ) (out work : ℕ) where
  abbrev filter_further : ℕ → ℕ
  filter_further n = limit_refusal n limit (out_refusal n out (work_refusal n work 0))

  pub filter_plate : (r : Refusal) → number_of r ≡ plate_refusal k w h M f 0 → number_of r ≡ filter_refusal k w h M limit f out work
  unfolding filter_refusal
  filter_plate r e = decided (plate_chain k w h M f) e (number_nonzero r) (filter_further (w * h))

  module _ (e : 0 ≡ plate_refusal k w h M f 0) where
    filter_past : filter_refusal k w h M limit f out work ≡ filter_further (length f)
    unfolding filter_refusal
    filter_past = plate_later (plate_taken k w h M f e refl) filter_further

    pub filter_output : (r : Refusal) → number_of r ≡ limit_refusal (length f) limit (out_refusal (length f) out 0)
        → number_of r ≡ filter_refusal k w h M limit f out work
    filter_output r e₁ = decided (cut_chain (length f) limit out) e₁ (number_nonzero r) (work_refusal (length f) work 0) ∙ sym filter_past

    pub filter_space : 0 ≡ limit_refusal (length f) limit (out_refusal (length f) out 0) → (s : ℕ) → s ≡ work_refusal (length f) work 0
        → s ≡ filter_refusal k w h M limit f out work
    filter_space e₁ s e₂ = e₂ ∙ sym (filter_past ∙ passed (cut_chain (length f) limit out) e₁ refl (work_refusal (length f) work 0))

-- ---- cleaning

side_known : (side : ℕ) → side_fits side ≡ true → (side ≡ light_side) ⊎ (side ≡ dark_side)
unfolding side_fits
side_known side e = elim (either_cases (eqb side light_side) (eqb side dark_side) (passes e)) [
  | inl t ↦ inl (eqb→eq side light_side t)
  | inr t ↦ inr (eqb→eq side dark_side t)
]

-- what is not refused
pub record Cleanable (side k w h M limit : ℕ) (f : List ℕ) (out work : ℕ) : Type 0 where
  pub side_is : (side ≡ light_side) ⊎ (side ≡ dark_side)
  pub sizes : Filterable k w h M limit f out work

pub clean_none : (side k w h M limit : ℕ) (f : List ℕ) (out work : ℕ) → clean_refusal side k w h M limit f out work ≡ 0
    → Cleanable side k w h M limit f out work
unfolding clean_refusal
clean_none side k w h M limit f out work e =
    let a = refuse-none (not (side_fits side)) 26 (filter_refusal k w h M limit f out work) (omega arith) e in
    record { side_is = side_known side (not-false (side_fits side) a.0); sizes = filter_none k w h M limit f out work a.1 }

side_fits_lem : {side : ℕ} → (side ≡ light_side) ⊎ (side ≡ dark_side) → side_fits side ≡ true
unfolding side_fits
side_fits_lem (inl e) = rw e
side_fits_lem (inr e) = rw e

pub cleanable_none : {side k w h M limit : ℕ} {f : List ℕ} {out work : ℕ} → Cleanable side k w h M limit f out work
    → clean_refusal side k w h M limit f out work ≡ 0
unfolding clean_refusal
cleanable_none c = rw (side_fits_lem c.side_is) (filterable_none c.sizes)

-- no side has the number
pub clean_side : (side k w h M limit : ℕ) (f : List ℕ) (out work : ℕ) (e : Refusal)
    → (e ≡ Refusal.Side) × (side ≡ light_side → ⊥) × (side ≡ dark_side → ⊥)
    → number_of e ≡ clean_refusal side k w h M limit f out work
unfolding clean_refusal side_fits
clean_side side k w h M limit f out work e (is, light, dark) = rw (is, ne_eqb side light_side light, ne_eqb side dark_side dark)

-- a side has it, and the further conditions decide
pub clean_other : (side k w h M limit : ℕ) (f : List ℕ) (out work : ℕ) (r : ℕ) (s : Side) → side_number s ≡ side
    → r ≡ filter_refusal k w h M limit f out work → r ≡ clean_refusal side k w h M limit f out work
unfolding clean_refusal side_fits
clean_other side k w h M limit f out work r Light is e = rw (sym is) e
clean_other side k w h M limit f out work r Dark is e = rw (sym is) e

-- ---- marking maxima

pub record Markable (k w h M : ℕ) (f : List ℕ) (out work : ℕ) : Type 0 where
  pub taken : Plate k w h M f
  pub room : w * h ≤ out
  pub space : 8 * (w * h) ≤ work

pub maxima_none : (k w h M : ℕ) (f : List ℕ) (out work : ℕ) → maxima_refusal k w h M f out work ≡ 0 → Markable k w h M f out work
unfolding maxima_refusal
maxima_none k w h M f out work e =
    let (taken, e₁) = plate_none k w h M f _ e in
    let (room, e₂) = out_none (w * h) out _ e₁ in
    record { taken = taken; room = room; space = (work_none (w * h) work 0 e₂).0 }

-- the refusal of the plate, of the output, of the work space is that of the operation
module _ (k w h M : ℕ) (f : List ℕ) (out work : ℕ) where
  abbrev maxima_further : ℕ → ℕ
  maxima_further n = out_refusal n out (work_refusal n work 0)

  pub maxima_plate : (r : Refusal) → number_of r ≡ plate_refusal k w h M f 0 → number_of r ≡ maxima_refusal k w h M f out work
  unfolding maxima_refusal
  maxima_plate r e = decided (plate_chain k w h M f) e (number_nonzero r) (maxima_further (w * h))

  module _ (e : 0 ≡ plate_refusal k w h M f 0) where
    maxima_past : maxima_refusal k w h M f out work ≡ maxima_further (length f)
    unfolding maxima_refusal
    maxima_past = plate_later (plate_taken k w h M f e refl) maxima_further

    pub maxima_output : (r : Refusal) → number_of r ≡ out_refusal (length f) out 0 → number_of r ≡ maxima_refusal k w h M f out work
    maxima_output r e₁ = decided (out_chain (length f) out) e₁ (number_nonzero r) (work_refusal (length f) work 0) ∙ sym maxima_past

    pub maxima_space : 0 ≡ out_refusal (length f) out 0 → (s : ℕ) → s ≡ work_refusal (length f) work 0 → s ≡ maxima_refusal k w h M f out work
    maxima_space e₁ s e₂ = e₂ ∙ sym (maxima_past ∙ passed (out_chain (length f) out) e₁ refl (work_refusal (length f) work 0))

-- ---- the node list, writing a record

pub record Listable (k w h M : ℕ) (f : List ℕ) (work : ℕ) : Type 0 where
  pub taken : Plate k w h M f
  pub space : 8 * (w * h) ≤ work

-- where none of 1, 2, 29, 3, 28 and 6 is met 5 decides
pub tree_later : {k w h M : ℕ} {f : List ℕ} {work : ℕ} → Listable k w h M f work → (needed out : ℕ)
    → tree_refusal k w h M f needed out work ≡ out_refusal needed out 0
unfolding tree_refusal
tree_later {k} {w} {h} {M} {f} {work} l needed out =
    plate_passes l.taken (work_refusal (w * h) work (out_refusal needed out 0)) ∙ rw (le-ltb work (8 * (w * h)) l.space)

-- r was found to be the refusal by 1, 2, 29, 3, 28 and 6
module _ (k w h M : ℕ) (f : List ℕ) (work : ℕ) {r : ℕ} (is : r ≡ plate_refusal k w h M f (work_refusal (w * h) work 0)) where
  pub tree_none : r ≡ 0 → Listable k w h M f work
  tree_none z =
      let (taken, e) = plate_none k w h M f (work_refusal (w * h) work 0) (sym is ∙ z) in
      record { taken = taken; space = (work_none (w * h) work 0 e).0 }

  -- one of them stays
  pub tree_first : (r ≡ 0 → ⊥) → (needed out : ℕ) → r ≡ tree_refusal k w h M f needed out work
  unfolding tree_refusal
  tree_first x needed out = decided (chained (plate_chain k w h M f) (work_chain (w * h) work)) is x (out_refusal needed out 0)

  -- 5 is none of these
  pub tree_early : r ≡ 5 → ⊥
  tree_early e =
      go (connectivity_fits k) (grid_fits w h) (greatest_fits M) (eqb (length f) (w * h)) (any_above M f) (ltb work (8 * (w * h))) (sym is ∙ e)
    where
      go : (a b c d e f : Bool) → refuse (not a) 1 (refuse (not b) 2 (refuse (not c) 29 (refuse (not d) 3 (refuse e 28 (refuse f 6 0))))) ≡ 5 → ⊥
      go false b c d e f x = omega arith
      go true false c d e f x = omega arith
      go true true false d e f x = omega arith
      go true true true false e f x = omega arith
      go true true true true true f x = omega arith
      go true true true true false true x = omega arith
      go true true true true false false x = omega arith
