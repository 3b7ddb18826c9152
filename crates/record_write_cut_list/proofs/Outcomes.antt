-- What `write_cut_list` leaves: on a refusal, and with the record, the cut and the size list written.
use mathlib.Core.Path.{◌≡◌, refl, sym, ap, ◌∙◌}
use mathlib.Core.Bool.{Bool, true, false}
use mathlib.Core.List.{List, ◌++◌}
use Prim.Native.Nat.{ℕ, ◌+◌, ◌-◌, ◌*◌, ◌≤◌}
use native.Mathlib.Omega.{arith}
use lib.Dec.{eqb}
use lib.ListN.{length, drop, replicate, take, length-append, length-drop, length-replicate}
use lib.Seq.{drop_at}
use borrow.Author.Tests.{ne_eqb, le-ltb}
use Rattle.meaning.specs.Answers.{out_refusal, over, work_after}
use Rattle.meaning.specs.Cut.{counts, cut, darkest, held, losses, total}
use Rattle.meaning.specs.Nodes.{nodes_of}
use Rattle.meaning.specs.Plate.{Plate}
use Rattle.meaning.specs.Record.{record_of}
use Rattle.meaning.specs.Sets.{pick}
use Rattle.std.specs.Prelude.{Result, Ok, Err, IsOk}
use Rattle.refusals.specs.declared.Refusal.{Refusal}
use Rattle.refusals.proofs.Numbers.{number_nonzero}
use Rattle.plate_refusals.specs.declared.PlateHead.{PlateHead}
use Rattle.plate_refusals.proofs.Refusals.{Chain, Filterable, decided, out_met, passed, tree_later}
use Rattle.record_parse.specs.Parse.{plate, read_of}
use Rattle.record_roundtrip.proofs.There.{read_new}
use Rattle.record.specs.declared.Head.{Head}
use Rattle.record.specs.declared.SizeHead.{SizeHead}
use Rattle.record.specs.declared.Written.{Written}
use Rattle.record.specs.declared.SizeList.{SizeList}
use Rattle.record.specs.Answers.{read_answer, sizes_answer}
use Rattle.record.specs.Reading.{CutRecord, ListedSizes, cut_refusal, size_refusal}
use Rattle.record.specs.Writing.{WrittenRecord, write_answer, write_out, write_refusal, write_work}
use Rattle.demands.proofs.Claims.{is_cut, is_list, over-take}
use Rattle.demands.proofs.Demand3.{cut-length, cut-zero, size_zero}
use Rattle.record_write_cut_list.specs.declared.CutListed.{CutListed}
use Rattle.record_write_cut_list.specs.WriteCutList.{WrittenCutListed, early_refusal, work_begins, write_cut_list_answer, write_cut_list_refusal}
use Rattle.record_write_cut_list.proofs.Conditions.{Fits, early_chain, early_fits, early_later}

-- the answer that refuses
abbrev refused_by : ℕ → CutListed
refused_by number = record { refusal = number; length = 0; nodes = 0; darkest = 0; held = 0 }

-- a number of the answer where nothing is refused, and the answer from its numbers
picked : {r : ℕ} (x : ℕ) → r ≡ 0 → x ≡ pick (eqb r 0) x 0
picked x e = rw e

same_answer : {a a' b b' c c' d d' e e' : ℕ} → a ≡ a' → b ≡ b' → c ≡ c' → d ≡ d' → e ≡ e'
    → ◌≡◌ {A = CutListed} (record { refusal = a; length = b; nodes = c; darkest = d; held = e })
    (record { refusal = a'; length = b'; nodes = c'; darkest = d'; held = e' })
same_answer x y z u v = rw (x, y, z, u, v)

-- an answer that refuses nothing
pub read_ok : (answer : Result PlateHead Refusal) → (read_answer answer).refusal ≡ 0 → IsOk answer
read_ok (Ok head) e = refl
read_ok (Err refusal) e = absurd (number_nonzero refusal e)

pub sizes_ok : (answer : Result SizeList Refusal) → (sizes_answer answer).refusal ≡ 0 → IsOk answer
sizes_ok (Ok list) e = refl
sizes_ok (Err refusal) e = absurd (number_nonzero refusal e)

-- ---- the prefix of the output that is the record

-- it lies within the output, whether anything was written or not
prefix : (b : Bool) (answer out : List ℕ) → pick b (length answer) 0 ≤ length (pick b (over answer out) out)
prefix true answer out = omega (arith, length-append answer (drop (length answer) out))
prefix false answer out = omega arith

pub written_within : {k w h M : ℕ} {f out out' work work' : List ℕ} {r : Written} → WrittenRecord k w h M f out out' work work' r
    → r.length ≤ length out'
unfolding write_answer write_out
written_within {k} {w} {h} {M} {f} {out} {out'} {work} {work'} {r} d =
    rw (d.answer, d.output) (prefix (eqb (write_refusal k w h M f out work) 0) (record_of k w h M f) out)

-- ---- the work space zeroed again

zeroed_length : (n : ℕ) (work : List ℕ) → 8 * n ≤ length work → length (work_after true n work) ≡ length work
zeroed_length n work l =
    omega (arith, length-append (replicate (8 * n) 0) (drop (8 * n) work), length-replicate {A = ℕ} (8 * n) 0, length-drop (8 * n) work)

zeroed_again : (n : ℕ) (work : List ℕ) → work_after true n (work_after true n work) ≡ work_after true n work
zeroed_again n work =
    let zeros : List ℕ = replicate (8 * n) 0 in
    ap (λ (t : List ℕ). zeros ++ t) (drop_at zeros (drop (8 * n) work) (8 * n) (length-replicate {A = ℕ} (8 * n) 0))

-- ---- the ways out

module _ (k w h M limit : ℕ) (f bytes out counted lost work : List ℕ) {e : ℕ}
    (is : e ≡ early_refusal k w h M limit f (length out) (length counted) (length lost) (length work) 0) where
  abbrev refusal : ℕ
  refusal = write_cut_list_refusal k w h M limit f bytes out counted lost work

  -- the record needs more bytes
  abbrev record_short : ℕ
  record_short = out_refusal (length (record_of k w h M f)) (length bytes) 0

  chain : Chain (early_refusal k w h M limit f (length out) (length counted) (length lost) (length work))
  chain = early_chain k w h M limit f (length out) (length counted) (length lost) (length work)

  begins-is : work_begins k w h M limit f bytes out counted lost work ≡ eqb e 0
  unfolding work_begins
  begins-is = rw is

  -- a refusal ahead of any work
  pub listed_refused : (e ≡ 0 → ⊥) → WrittenCutListed k w h M limit f bytes bytes out out counted counted lost lost work work (refused_by e)
  unfolding write_cut_list_refusal write_cut_list_answer
  listed_refused x =
      let z : eqb e 0 ≡ false = ne_eqb e 0 x in
      let whole : refusal ≡ e = sym (decided chain is x record_short) in
      record {
        answer = rw (whole, z);
        written = rw (whole, z);
        cut_plate = rw (whole, z);
        count_table = rw (whole, z);
        loss_table = rw (whole, z);
        space = rw (begins-is, z);
        accepted = λ none. absurd (x (sym whole ∙ none));
        is_cut = λ none. absurd (x (sym whole ∙ none));
        is_list = λ none. absurd (x (sym whole ∙ none));
      }

  module _ (z : e ≡ 0) where
    fits : Fits k w h M limit f (length out) (length counted) (length lost) (length work)
    fits = early_fits k w h M limit f (length out) (length counted) (length lost) (length work) (sym is ∙ z)

    write_is : write_refusal k w h M f bytes work ≡ out_refusal (length (record_of k w h M f)) (length bytes) 0
    unfolding write_refusal
    write_is =
        tree_later (record { taken = fits.sizes.taken; space = fits.sizes.space }) (length (record_of k w h M f)) (length bytes)

    whole : refusal ≡ write_refusal k w h M f bytes work
    unfolding write_cut_list_refusal
    whole = passed chain is z record_short ∙ sym write_is

    module _ {bytes₁ w₁ : List ℕ} {r : Written} (d : WrittenRecord k w h M f bytes bytes₁ work w₁ r) where
      number_is : r.refusal ≡ write_refusal k w h M f bytes work
      unfolding write_answer
      number_is = ap (λ (a : Written). a.refusal) d.answer

      -- 5: the record needs more bytes
      pub listed_short : (r.refusal ≡ 0 → ⊥)
          → WrittenCutListed k w h M limit f bytes bytes₁ out out counted counted lost lost work w₁ (refused_by r.refusal)
      unfolding write_cut_list_answer write_out write_work
      listed_short x =
          let is-five : write_refusal k w h M f bytes work ≡ 5 =
          write_is ∙ out_met (length (record_of k w h M f)) (length bytes) (λ u. x (number_is ∙ write_is ∙ u)) in
          let by : refusal ≡ 5 = whole ∙ is-five in
          record {
            answer = rw (by, number_is, is-five);
            written = rw by (d.output ∙ rw is-five);
            cut_plate = rw by;
            count_table = rw by;
            loss_table = rw by;
            space = rw (begins-is, z) (d.space ∙ rw is-five);
            accepted = λ none. absurd (x (number_is ∙ sym whole ∙ none));
            is_cut = λ none. absurd (x (number_is ∙ sym whole ∙ none));
            is_list = λ none. absurd (x (number_is ∙ sym whole ∙ none));
          }

      module _ (none : r.refusal ≡ 0) where
        no_refusal : write_refusal k w h M f bytes work ≡ 0
        no_refusal = sym number_is ∙ none

        pl : Plate k w h M f
        pl = d.accepted no_refusal

        long : r.length ≡ length (record_of k w h M f)
        unfolding write_answer
        long = ap (λ (a : Written). a.length) d.answer ∙ rw no_refusal

        bytes-are : bytes₁ ≡ over (record_of k w h M f) bytes
        unfolding write_out
        bytes-are = d.output ∙ rw no_refusal

        space_is : w₁ ≡ work_after true (w * h) work
        unfolding write_work
        space_is = d.space ∙ rw no_refusal

        -- the bytes that are passed on are the record
        bytes_passed : take r.length bytes₁ ≡ record_of k w h M f
        bytes_passed = rw bytes-are (over-take (record_of k w h M f) bytes r.length (sym long))

        read_is : {v : List ℕ} → v ≡ work_after true (w * h) work → read_of (take r.length bytes₁) (length v) ≡ plate true k w h M f
        read_is {v} q =
            let space : 8 * (w * h) ≤ length v = omega (arith, fits.sizes.space, zeroed_length (w * h) work fits.sizes.space, ap length q) in
            rw bytes_passed (read_new pl (length v) space)

        -- the cut of it
        module _ {out₁ w₂ : List ℕ} {r₂ : Head} (c : CutRecord (read_of (take r.length bytes₁) (length w₁)) limit out out₁ w₁ w₂ r₂) where
          t : CutRecord (plate true k w h M f) limit out out₁ w₁ w₂ r₂
          t = rw (read_is space_is) at c

          cz : cut_refusal (plate true k w h M f) limit (length out) ≡ 0
          cz = cut-zero pl limit fits.sizes.limit_low fits.sizes.limit_high out fits.sizes.room

          -- it is not refused
          pub cut_taken : r₂.refusal ≡ 0
          cut_taken = ap (λ (a : Head). a.refusal) t.answer ∙ cz

          w₂-is : w₂ ≡ work_after true (w * h) work
          w₂-is = t.space ∙ ap (work_after true (w * h)) space_is ∙ zeroed_again (w * h) work

          -- the size list of it
          module _ {counted₁ lost₁ w₃ : List ℕ} {r₃ : SizeHead}
              (s : ListedSizes (read_of (take r.length bytes₁) (length w₂)) counted counted₁ lost lost₁ w₂ w₃ r₃) where
            u : ListedSizes (plate true k w h M f) counted counted₁ lost lost₁ w₂ w₃ r₃
            u = rw (read_is w₂-is) at s

            sz : size_refusal (plate true k w h M f) (length counted) (length lost) ≡ 0
            sz = size_zero pl counted lost fits.counts_fit fits.losses_fit

            -- it is not refused
            pub sizes_taken : r₃.refusal ≡ 0
            sizes_taken = ap (λ (a : SizeHead). a.refusal) u.answer ∙ sz

            pub listed_done : WrittenCutListed k w h M limit f bytes bytes₁ out out₁ counted counted₁ lost lost₁ work w₃
                (record { refusal = 0; length = r.length; nodes = r₃.nodes; darkest = r₃.darkest; held = r₃.held })
            unfolding write_cut_list_answer
            listed_done =
                let by : refusal ≡ 0 = whole ∙ no_refusal in
                let w₃-is : w₃ ≡ work_after true (w * h) work = u.space ∙ ap (work_after true (w * h)) w₂-is ∙ zeroed_again (w * h) work in
                let cut-is : out₁ ≡ over (cut k w h limit f) out = t.output ∙ rw cz in
                let counts_are : counted₁ ≡ over (counts k w h f) counted = u.count_table ∙ rw sz in
                let losses_are : lost₁ ≡ over (losses k w h f) lost = u.loss_table ∙ rw sz in
                let nodes_are : r₃.nodes ≡ length (nodes_of k w f) = ap (λ (a : SizeHead). a.nodes) u.answer ∙ rw sz in
                let dark-is : r₃.darkest ≡ darkest f = ap (λ (a : SizeHead). a.darkest) u.answer ∙ rw sz in
                let held-is : r₃.held ≡ held k w h f = ap (λ (a : SizeHead). a.held) u.answer ∙ rw sz in
                record {
                  answer = same_answer (sym by) (long ∙ picked (length (record_of k w h M f)) by) (nodes_are ∙ picked (length (nodes_of k w f)) by)
                      (dark-is ∙ picked (darkest f) by) (held-is ∙ picked (held k w h f) by);
                  written = rw by bytes-are;
                  cut_plate = rw by cut-is;
                  count_table = rw by counts_are;
                  loss_table = rw by losses_are;
                  space = rw (begins-is, z) w₃-is;
                  accepted = λ q. pl;
                  is_cut = λ q. rw (cut-is, over-take (cut k w h limit f) out (w * h) (cut-length pl limit)) (is_cut pl limit fits.sizes.limit_high);
                  is_list = λ q.
                      rw (counts_are, losses_are, dark-is, held-is) (is_list pl counted lost (λ (a : ℕ). total (cut k w h a f)) (λ a l m. refl));
                }

-- ---- given its space nothing is refused

pub not_refused : {k w h M : ℕ} {f : List ℕ} → Plate k w h M f → (limit : ℕ) → 1 ≤ limit → limit ≤ w * h → (bytes out counted lost work : List ℕ)
    → length (record_of k w h M f) ≤ length bytes → w * h ≤ length out
    → w * h - 1 ≤ length counted → w * h - 1 ≤ length lost → 8 * (w * h) ≤ length work
    → write_cut_list_refusal k w h M limit f bytes out counted lost work ≡ 0
unfolding write_cut_list_refusal
not_refused {k} {w} {h} {M} {f} pl limit low high bytes out counted lost work a b c d e =
    let sizes : Filterable k w h M limit f (length out) (length work) =
    record { taken = pl; limit_low = low; limit_high = high; room = b; space = e } in
    early_later k w h M limit f (length out) (length counted) (length lost) (length work) (out_refusal (length (record_of k w h M f)) (length bytes) 0)
    (record { sizes = sizes; counts_fit = c; losses_fit = d })
    ∙ rw (le-ltb (length bytes) (length (record_of k w h M f)) a)
