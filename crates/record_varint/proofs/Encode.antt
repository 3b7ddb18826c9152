-- Several numbers, one form after the other: the bytes tell the numbers and where they end.
use mathlib.Core.Path.{◌≡◌, refl, sym, ap, ◌∙◌}
use mathlib.Core.Logic.{by_cases}
use mathlib.Core.List.{List, [], ◌∷◌, ◌++◌, append_assoc}
use Prim.Native.Nat.{ℕ, zero, suc, ◌+◌, ◌-◌, ◌*◌, ◌≤◌, ◌<◌}
use native.Mathlib.Omega.{arith}
use native.Mathlib.Decide.{dec_lt}
use lib.ListN.{length, get_or, drop, drop_of_length-le, length-append, get_or-append}
use lib.Seq.{drop-cons, drop-drop, drop-append_seam, get_or-append-add}
use Rattle.meaning.specs.Record.{varint, encode}
use Rattle.record_varint.specs.Field.{value, field_bound, accepted, field_at}
use Rattle.record_varint.proofs.Groups.{varint_least, varint-most, varint-bytes}
use Rattle.record_varint.proofs.Form.{varint-value}
use Rattle.record_varint.proofs.Reading.{Accepted, field-written}

-- ---- numbers that have a form
abbrev pub Small : List ℕ → Type 0
Small [] = Unit {0}
Small (v ∷ vs) = (v < field_bound) × Small vs

pub small_append : (vs ws : List ℕ) → Small vs → Small ws → Small (vs ++ ws)
small_append [] ws a b = b
small_append (v ∷ vs) ws a b = (a.0, small_append vs ws a.1 b)

pub small_at : (vs : List ℕ) → Small vs → (i : ℕ) → get_or vs i 0 < field_bound
small_at [] a i = omega arith
small_at (v ∷ vs) a zero = a.0
small_at (v ∷ vs) a (suc i) = small_at vs a.1 i

pub small_all : (vs : List ℕ) → ((i : ℕ) → i < length vs → get_or vs i 0 < field_bound) → Small vs
small_all [] h = tt
small_all (v ∷ vs) h = (h 0 (omega arith), small_all vs (λ i k. h (suc i) (omega arith)))

-- ---- the bytes of several numbers
pub encode_append : (vs ws : List ℕ) → encode (vs ++ ws) ≡ encode vs ++ encode ws
unfolding encode
encode_append [] ws = refl
encode_append (v ∷ vs) ws = rw (encode_append vs ws) (sym (append_assoc (varint v) (encode vs) (encode ws)))

pub encode-more : (vs : List ℕ) (i : ℕ) → i < length vs → encode (drop i vs) ≡ varint (get_or vs i 0) ++ encode (drop (suc i) vs)
unfolding encode
encode-more vs i h = rw (drop-cons vs i 0)

pub encode-none : (vs : List ℕ) (i : ℕ) → length vs ≤ i → encode (drop i vs) ≡ []
unfolding encode
encode-none vs i h = rw (drop_of_length-le vs h)

pub encode_least : (vs : List ℕ) → length vs ≤ length (encode vs)
unfolding encode
encode_least [] = omega arith
encode_least (v ∷ vs) = omega (arith, varint_least v, encode_least vs, length-append (varint v) (encode vs))

pub encode-most : (vs : List ℕ) → length (encode vs) ≤ 5 * length vs
unfolding encode
encode-most [] = omega arith
encode-most (v ∷ vs) = omega (arith, varint-most v, encode-most vs, length-append (varint v) (encode vs))

pub encode-bytes : (vs : List ℕ) (i : ℕ) → get_or (encode vs) i 0 < 256
unfolding encode
encode-bytes [] i = omega arith
encode-bytes (v ∷ vs) i =
    by_cases (dec_lt i (length (varint v)))
    (λ h. rw (get_or-append (varint v) (encode vs) 0 i h) (varint-bytes v i))
    (λ h. let e : length (varint v) + (i - length (varint v)) ≡ i = omega arith in
    rw (← e, get_or-append-add (varint v) (encode vs) (i - length (varint v)) 0) (encode-bytes vs (i - length (varint v))))

-- ---- the bytes tell the numbers
pub varint_unique : (v w : ℕ) (r t : List ℕ) → v < field_bound → w < field_bound → varint v ++ r ≡ varint w ++ t → (v ≡ w) × (r ≡ t)
varint_unique v w r t a b e =
    let is : v ≡ w = sym (varint-value v r a) ∙ ap value e ∙ varint-value w t b in (
      is,
      sym (drop-append_seam (varint v) r)
          ∙ ap (λ (l : List ℕ). drop (length (varint v)) l) e
          ∙ ap (λ (n : ℕ). drop (length (varint n)) (varint w ++ t)) is
          ∙ drop-append_seam (varint w) t,
    )

-- as many numbers with the same bytes, whatever follows, are the same, and so is what follows
pub encode_unique : (vs ws r t : List ℕ) → Small vs → Small ws → length vs ≡ length ws → encode vs ++ r ≡ encode ws ++ t → (vs ≡ ws) × (r ≡ t)
unfolding encode
encode_unique [] [] r t a b n e = (refl, e)
encode_unique [] (w ∷ ws) r t a b n e = absurd (omega arith)
encode_unique (v ∷ vs) [] r t a b n e = absurd (omega arith)
encode_unique (v ∷ vs) (w ∷ ws) r t a b n e =
    let e' : varint v ++ (encode vs ++ r) ≡ varint w ++ (encode ws ++ t) =
    sym (append_assoc (varint v) (encode vs) r) ∙ e ∙ append_assoc (varint w) (encode ws) t in
    let first = varint_unique v w (encode vs ++ r) (encode ws ++ t) a.0 b.0 e' in
    let rest = encode_unique vs ws r t a.1 b.1 (omega arith) first.1 in
    let is : v ≡ w = first.0 in
    let are : vs ≡ ws = rest.0 in
    (cc, rest.1)

-- no two lists of numbers have the same bytes
pub encode_injective : (vs ws : List ℕ) → Small vs → Small ws → encode vs ≡ encode ws → vs ≡ ws
unfolding encode
encode_injective [] [] a b e = refl
encode_injective [] (w ∷ ws) a b e = absurd (omega (arith, encode_least (w ∷ ws), ap length e))
encode_injective (v ∷ vs) [] a b e = absurd (omega (arith, encode_least (v ∷ vs), ap length e))
encode_injective (v ∷ vs) (w ∷ ws) a b e =
    let first = varint_unique v w (encode vs) (encode ws) a.0 b.0 e in
    let is : v ≡ w = first.0 in
    let are : vs ≡ ws = encode_injective vs ws a.1 b.1 first.1 in
    cc

-- ---- reading the numbers one after the other
module _ (s : List ℕ) (at v : ℕ) (vs r : List ℕ) (stands : drop at s ≡ encode (v ∷ vs) ++ r) where
  first_form : drop at s ≡ varint v ++ (encode vs ++ r)
  unfolding encode
  first_form = stands ∙ append_assoc (varint v) (encode vs) r

  -- where the forms of several numbers stand, reading gives the first
  pub encode_read : (lo hi : ℕ) → v < field_bound → lo ≤ v → v ≤ hi → field_at s at lo hi ≡ accepted v (at + length (varint v))
  encode_read lo hi small a b = rw first_form (field-written v (encode vs ++ r) at lo hi small a b)

  -- and after it stand those of the others
  pub encode_rest : drop (at + length (varint v)) s ≡ encode vs ++ r
  encode_rest =
      sym (drop-drop (length (varint v)) at s) ∙ ap (λ (l : List ℕ). drop (length (varint v)) l) first_form
      ∙ drop-append_seam (varint v) (encode vs ++ r)

-- a number that was accepted, before the forms of others
pub accepted_encode : (s : List ℕ) (at lo hi v next : ℕ) (vs r : List ℕ) → Accepted s at lo hi v next → drop next s ≡ encode vs ++ r
    → drop at s ≡ encode (v ∷ vs) ++ r
unfolding encode
accepted_encode s at lo hi v next vs r p e =
    p.form ∙ ap (λ (l : List ℕ). varint v ++ l) e ∙ sym (append_assoc (varint v) (encode vs) r)
