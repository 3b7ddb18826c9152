-- A sound header is a front part of the bytes that decides by itself: whatever follows it is the raster. Each part of the grammar is one too,
-- if the bytes after it begin as the next part does.
use mathlib.Core.Path.{◌≡◌, refl, sym, ap, ◌∙◌}
use mathlib.Core.Bool.{Bool, true, false, ◌&&◌}
use mathlib.Core.List.{List, [], ◌∷◌, ◌++◌, append_assoc}
use mathlib.Core.Logic.{by_cases}
use Prim.Native.Nat.{ℕ, suc, ◌+◌, ◌≤◌}
use native.Mathlib.Decide.{dec_lt}
use native.Mathlib.Omega.{arith}
use borrow.Author.Tests.{eqb-true, eqb-false, ne_eqb}
use lib.Dec.{eqb}
use lib.ListN.{length, take, drop, length-append, take-append-drop}
use lib.Seq.{drop_at, take_at, length-take-le}
use Rattle.meaning.specs.Sets.{pick}
use Rattle.pgm_header.specs.Grammar.{
  Token,
  number_then,
  gap_then,
  fault,
  malformed,
  no_letters,
  blank,
  in_comment,
  is_digit,
  front,
  digits_value,
  mix,
  comment,
  one_blank,
  after_gap,
  gap,
  number,
  opening,
  ParsedHeader,
  sound,
  on_gap,
  on_number,
  header,
}
use Rattle.pgm_header.proofs.Front.{front-again, front_miss, front_within}
use Rattle.pgm_header.proofs.Digits.{digit_range, number_few, number_many, number-none}
use Rattle.pgm_header.proofs.Skipping.{comment_ends, comment_inside, mix_blank, mix_opens, mix_other}
use Rattle.pgm_header.proofs.Parsing.{from_blank, from_greatest, from_gap₃, from_height, from_gap₂, from_width, header-from}

-- ---- a front part that decides by itself

-- s is a front part of at least n bytes and then t. The front part and any bytes after it are as Begins says; of the front part and bytes
-- that are as After says, g answers `done` of these bytes.
record Leads {X : Type 0} (Begins After : List ℕ → Type 0) (n : ℕ) (g done : List ℕ → X) (s t : List ℕ) : Type 0 where
  head : List ℕ
  split : s ≡ head ++ t
  long : n ≤ length head
  begins : (r : List ℕ) → Begins (head ++ r)
  again : (r : List ℕ) → After r → g (head ++ r) ≡ done r

-- no two answers that differ are the same: `cc` gives 0 ≡ 1 where they are
pub apart : {X : Type 0} → ◌≡◌ {A = ℕ} 0 1 → X
apart z = absurd (omega arith)

-- any bytes
abbrev Any : List ℕ → Type 0
Any s = Unit {0}

-- bytes that do not begin with a digit
abbrev NoDigit : List ℕ → Type 0
NoDigit s = front is_digit s ≡ 0

-- bytes that begin with neither a blank nor a comment
abbrev NoSkip : List ℕ → Type 0
NoSkip s = mix s ≡ gap_then s

-- two front parts, one after the other
module _ {X Y : Type 0} {B M A : List ℕ → Type 0} {n m : ℕ} (on : X → Y) (g then : List ℕ → X) (done : List ℕ → Y) {s t u : List ℕ} where
  both_parts : Leads B M n g then s t → Leads M A m (λ r. on (then r)) done t u → Leads B A (n + m) (λ r. on (g r)) done s u
  both_parts a b = record {
    head = a.head ++ b.head;
    split = a.split ∙ ap (λ (l : List ℕ). a.head ++ l) b.split ∙ sym (append_assoc a.head b.head u);
    long = omega (arith, length-append a.head b.head, a.long, b.long);
    begins = λ r. rw (append_assoc a.head b.head r) (a.begins (b.head ++ r));
    again = λ r p. rw (append_assoc a.head b.head r) (ap on (a.again (b.head ++ r) (b.begins r)) ∙ b.again r p);
  }

-- a front part with no bytes
no_bytes : {X : Type 0} {A : List ℕ → Type 0} (g done : List ℕ → X) {s t : List ℕ} → ((r : List ℕ) → A r → g r ≡ done r) → s ≡ t
    → Leads Any A 0 g done s t
no_bytes g done same e = record { head = []; split = e; long = omega arith; begins = λ r. tt; again = same }

-- one byte before a front part
module _ {X : Type 0} {B A : List ℕ → Type 0} {n m : ℕ} (g g' done : List ℕ → X) (b : ℕ) {s t : List ℕ} where
  byte_before : ((r : List ℕ) → g (b ∷ r) ≡ g' r) → m ≤ suc n → Leads B A n g' done s t → Leads Any A m g done (b ∷ s) t
  byte_before same l k = record {
    head = b ∷ k.head;
    split = ap (λ (r : List ℕ). b ∷ r) k.split;
    long = omega (arith, k.long, l);
    begins = λ r. tt;
    again = λ r p. same (k.head ++ r) ∙ k.again r p;
  }

-- ---- blanks and comments

-- g skips a front part of s that may be empty, and leaves t
abbrev Skips : (List ℕ → Token) → List ℕ → List ℕ → Type 0
Skips g s t = Leads Any NoSkip 0 g gap_then s t

skips-none : (s t : List ℕ) → mix s ≡ gap_then s → mix s ≡ gap_then t → Skips mix s t
skips-none s t here e = no_bytes mix gap_then (λ r p. p) (cc)

module _ (b : ℕ) (s t : List ℕ) (in-mix : mix s ≡ gap_then t → Skips mix s t) (in-comment : comment s ≡ gap_then t → Skips comment s t) where
  mix_cons : (x y : Bool) → blank b ≡ x → eqb b 35 ≡ y → mix (b ∷ s) ≡ gap_then t → Skips mix (b ∷ s) t
  mix_cons true y i j e = byte_before mix mix gap_then b (λ r. mix_blank b r i) (omega arith) (in-mix (sym (mix_blank b s i) ∙ e))
  mix_cons false true i j e =
      let is = eqb-true b 35 j in
      byte_before mix comment gap_then b (λ r. mix_opens b r is) (omega arith) (in-comment (sym (mix_opens b s is) ∙ e))
  mix_cons false false i j e = skips-none (b ∷ s) t (mix_other b s i (eqb-false b 35 j)) e

  comment_cons : (x : Bool) → in_comment b ≡ x → comment (b ∷ s) ≡ gap_then t → Skips comment (b ∷ s) t
  comment_cons true i e =
      byte_before comment comment gap_then b (λ r. comment_inside b r i) (omega arith) (in-comment (sym (comment_inside b s i) ∙ e))
  comment_cons false i e =
      byte_before comment mix gap_then b (λ r. comment_ends b r i) (omega arith) (in-mix (sym (comment_ends b s i) ∙ e))

mutual
  unfolding mix

  mix_skips : (s t : List ℕ) → mix s ≡ gap_then t → Skips mix s t
  mix_skips [] t e = skips-none [] t refl e
  mix_skips (b ∷ s) t e = mix_cons b s t (λ f. mix_skips s t f) (λ f. comment_skips s t f) (blank b) (eqb b 35) refl refl e

  comment_skips : (s t : List ℕ) → comment s ≡ gap_then t → Skips comment s t
  comment_skips [] t e = apart cc
  comment_skips (b ∷ s) t e = comment_cons b s t (λ f. mix_skips s t f) (λ f. comment_skips s t f) (in_comment b) refl e

-- ---- a blank, and a gap

-- a digit is no blank, and no blank a digit
digit_no_blank : (b : ℕ) → is_digit b ≡ true → blank b ≡ false
unfolding blank
digit_no_blank b i =
    let (low, high) = digit_range b i in
    rw (ne_eqb b 32 (λ e. omega arith), ne_eqb b 9 (λ e. omega arith), ne_eqb b 13 (λ e. omega arith), ne_eqb b 10 (λ e. omega arith))

blank_no_digit : (b : ℕ) → blank b ≡ true → is_digit b ≡ false
blank_no_digit b i = go (is_digit b) refl
  where
    go : (x : Bool) → is_digit b ≡ x → is_digit b ≡ false
    go true j = let other = digit_no_blank b j in cc
    go false j = j

blank-leads : (s t : List ℕ) → one_blank s ≡ gap_then t → Leads NoDigit Any 1 one_blank gap_then s t
unfolding one_blank
blank-leads [] t e = apart cc
blank-leads (b ∷ s) t e = go (blank b) refl e
  where
    go : (x : Bool) → blank b ≡ x → pick x (gap_then s) malformed ≡ gap_then t → Leads NoDigit Any 1 one_blank gap_then (b ∷ s) t
    go false i f = apart cc
    go true i f = record {
      head = b ∷ [];
      split = let same : s ≡ t = cc in ap (λ (r : List ℕ). b ∷ r) same;
      long = omega arith;
      begins = λ r. front_miss is_digit b r (blank_no_digit b i);
      again = λ r p. rw i;
    }

gap_leads : (s t : List ℕ) → gap s ≡ gap_then t → Leads NoDigit NoSkip 1 gap gap_then s t
unfolding gap
gap_leads s t e = go (one_blank s) refl e
  where
    go : (k : Token) → one_blank s ≡ k → after_gap k mix ≡ gap_then t → Leads NoDigit NoSkip 1 (λ r. after_gap (one_blank r) mix) gap_then s t
    go (gap_then l) i f = both_parts (λ k. after_gap k mix) one_blank gap_then gap_then (blank-leads s l i) (mix_skips l t f)
    go (number_then v l) i f = apart cc
    go (fault n) i f = apart cc

-- "P5" and a gap
opening-leads : (s t : List ℕ) → opening s ≡ gap_then t → Leads Any NoSkip 3 opening gap_then s t
unfolding opening
opening-leads [] t e = apart cc
opening-leads (p ∷ []) t e = apart cc
opening-leads (p ∷ five ∷ s) t e = go (eqb p 80 && eqb five 53) refl e
  where
    go : (x : Bool) → (eqb p 80 && eqb five 53) ≡ x → pick x (gap s) no_letters ≡ gap_then t → Leads Any NoSkip 3 opening gap_then (p ∷ five ∷ s) t
    go false i f = apart cc
    go true i f =
        let from-five = byte_before {m = 2} (λ r. opening (p ∷ r)) gap gap_then five (λ r. rw i) (omega arith) (gap_leads s t f) in
        byte_before opening (λ r. opening (p ∷ r)) gap_then p (λ r. refl) (omega arith) from-five

-- ---- a number

-- blanks and comments end where a digit stands
pub mix_digit : (b : ℕ) (s : List ℕ) → is_digit b ≡ true → mix (b ∷ s) ≡ gap_then (b ∷ s)
mix_digit b s i = let (low, high) = digit_range b i in mix_other b s (digit_no_blank b i) (λ e. omega arith)

mix_digits : (s : List ℕ) → 1 ≤ front is_digit s → NoSkip s
unfolding front
mix_digits [] l = absurd (omega arith)
mix_digits (b ∷ s) l = go (is_digit b) refl
  where
    go : (x : Bool) → is_digit b ≡ x → NoSkip (b ∷ s)
    go true i = mix_digit b s i
    go false i = absurd (omega (arith, l, front_miss is_digit b s i))

module _ (s : List ℕ) where
  -- the number of digits at the front, and these digits
  abbrev many : ℕ
  many = front is_digit s

  abbrev digits : List ℕ
  digits = take many s

  -- they are one to five where there is a number
  number-some : {v : ℕ} {t : List ℕ} → number s ≡ number_then v t → 1 ≤ many
  number-some e = by_cases (dec_lt 0 many) (λ l. l) (λ l. let none = number-none s (omega arith) in apart cc)

  number-most : {v : ℕ} {t : List ℕ} → number s ≡ number_then v t → many ≤ 5
  number-most e = by_cases (dec_lt 5 many) (λ l. let over = number_many s l in apart cc) (λ l. omega arith)

  digits_long : length digits ≡ many
  digits_long = length-take-le many s (front_within is_digit s)

  -- with bytes after them that do not begin with a digit they are the same number
  number-again : (r : List ℕ) → 1 ≤ many → many ≤ 5 → NoDigit r → number (digits ++ r) ≡ number_then (digits_value 0 digits) r
  number-again r some most stop =
      let same : front is_digit (digits ++ r) ≡ many = omega (arith, front-again is_digit s r, stop) in
      number_few (digits ++ r) (omega arith) (omega arith) ∙ rw (same, take_at digits r many digits_long, drop_at digits r many digits_long)

number-leads : (s : List ℕ) (v : ℕ) (t : List ℕ) → number s ≡ number_then v t → Leads NoSkip NoDigit 1 number (number_then v) s t
number-leads s v t e =
    let some = number-some s e in
    let most = number-most s e in
    let few = number_few s some most in
    let value : digits_value 0 (digits s) ≡ v = cc in
    let after : drop (many s) s ≡ t = cc in
    record {
      head = digits s;
      split = rw after at (sym (take-append-drop (many s) s));
      long = omega (arith, some, digits_long s);
      begins = λ r. mix_digits (digits s ++ r) (omega (arith, some, front-again is_digit s r));
      again = λ r p. rw value at (number-again s r some most p);
    }

-- ---- the header from each of its parts on

-- where g answers that a header is sound, the bytes before the raster decide that by themselves
abbrev Decides : (List ℕ → Type 0) → ℕ → (List ℕ → ParsedHeader) → Type 0
Decides B n g = (s : List ℕ) (w h M : ℕ) (raster : List ℕ) → g s ≡ sound w h M raster → Leads B Any n g (sound w h M) s raster

module _ {B A : List ℕ → Type 0} {n m : ℕ} (g : List ℕ → Token) where
  gap_decides : (next : List ℕ → ParsedHeader) → ((s t : List ℕ) → g s ≡ gap_then t → Leads B A n g gap_then s t) → Decides A m next
      → Decides B (n + m) (λ s. on_gap (g s) next)
  gap_decides next first rest s w h M raster e = go (g s) refl e
    where
      go : (k : Token) → g s ≡ k → on_gap k next ≡ sound w h M raster → Leads B Any (n + m) (λ r. on_gap (g r) next) (sound w h M) s raster
      go (gap_then l) i f = both_parts (λ k. on_gap k next) g gap_then (sound w h M) (first s l i) (rest l w h M raster f)
      go (number_then v l) i f = apart cc
      go (fault c) i f = apart cc

  number_decides : (next : ℕ → List ℕ → ParsedHeader)
      → ((s : List ℕ) (v : ℕ) (t : List ℕ) → g s ≡ number_then v t → Leads B A n g (number_then v) s t) → ((v : ℕ) → Decides A m (next v))
      → Decides B (n + m) (λ s. on_number (g s) next)
  number_decides next first rest s w h M raster e = go (g s) refl e
    where
      go : (k : Token) → g s ≡ k → on_number k next ≡ sound w h M raster
          → Leads B Any (n + m) (λ r. on_number (g r) next) (sound w h M) s raster
      go (number_then v l) i f = both_parts (λ k. on_number k next) g (number_then v) (sound w h M) (first s v l i) (rest v l w h M raster f)
      go (gap_then l) i f = apart cc
      go (fault c) i f = apart cc

-- the raster
raster_decides : (w h M : ℕ) → Decides Any 0 (sound w h M)
raster_decides w h M s w' h' M' raster e = no_bytes (sound w h M) (sound w' h' M') (λ r p. cc) (cc)

blank_decides : (w h M : ℕ) → Decides NoDigit 1 (from_blank w h M)
blank_decides w h M = gap_decides one_blank (sound w h M) blank-leads (raster_decides w h M)

greatest_decides : (w h : ℕ) → Decides NoSkip 2 (from_greatest w h)
greatest_decides w h = number_decides number (from_blank w h) number-leads (blank_decides w h)

gap₃_decides : (w h : ℕ) → Decides NoDigit 3 (from_gap₃ w h)
gap₃_decides w h = gap_decides gap (from_greatest w h) gap_leads (greatest_decides w h)

height_decides : (w : ℕ) → Decides NoSkip 4 (from_height w)
height_decides w = number_decides number (from_gap₃ w) number-leads (gap₃_decides w)

gap₂_decides : (w : ℕ) → Decides NoDigit 5 (from_gap₂ w)
gap₂_decides w = gap_decides gap (from_height w) gap_leads (height_decides w)

width_decides : Decides NoSkip 6 from_width
width_decides = number_decides number from_gap₂ number-leads gap₂_decides

header_decides : Decides Any 9 (λ s. on_gap (opening s) from_width)
header_decides = gap_decides opening from_width opening-leads width_decides

-- ---- the header

-- a sound header is a front part of the bytes that decides by itself: whatever follows it is the raster
pub record Headed (s : List ℕ) (w h M : ℕ) (raster : List ℕ) : Type 0 where
  pub head : List ℕ
  pub split : s ≡ head ++ raster
  -- "P5", three gaps and three numbers of at least one byte each, one blank
  pub long : 9 ≤ length head
  pub again : (r : List ℕ) → header (head ++ r) ≡ sound w h M r

pub header_headed : (s : List ℕ) {w h M : ℕ} {raster : List ℕ} → header s ≡ sound w h M raster → Headed s w h M raster
header_headed s {w} {h} {M} {raster} e =
    let k = header_decides s w h M raster (sym (header-from s) ∙ e) in
    record { head = k.head; split = k.split; long = k.long; again = λ r. header-from (k.head ++ r) ∙ k.again r tt }
