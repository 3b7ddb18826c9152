-- Laws of lists of numbers: the list of a function's values, the place of a member, lists of distinct numbers, lists along which a key rises.
use mathlib.Core.Path.{◌≡◌, refl, sym, ap, ◌∙◌}
use mathlib.Core.Logic.{◌⊎◌, inl, inr}
use mathlib.Core.Bool.{Bool, true, false, ◌||◌}
use mathlib.Core.List.{List, [], ◌∷◌, ◌++◌, map}
use Prim.Native.Nat.{ℕ, zero, suc, ◌+◌, ◌-◌, ◌≤◌, ◌<◌}
use native.Mathlib.Nat.{not-suc-le-zero, le_of_suc-le-suc, zero-add, suc-add, add-zero, add-suc}
use native.Mathlib.Decide.{dec_le}
use native.Mathlib.Omega.{arith}
use lib.Dec.{T, eqb, eqb→eq, eqb_refl}
use lib.ListN.{drop, length, get_or, length-map, length-append, length-drop, take}
use lib.Seq.{take_all}
use Rattle.meaning.specs.Sets.{Distinct, area, bit, cons_if, elem, gather, nth, place, rising, span, table}
use Rattle.theory_lists.specs.Members.{Rising}
use Rattle.theory_lists.proofs.Sets.{area_grows, below_suc}
use Rattle.theory_lists.proofs.Tests.{either_cases, either_left, either_right}

-- ---- the list of a function's values

get_d_span {ℓ} : {X : Type ℓ} (f : ℕ → X) (from n q : ℕ) (d : X) → q < n → get_or (map f (span from n)) q d ≡ f (from + q)
unfolding span
get_d_span f from zero q d h = absurd (not-suc-le-zero h)
get_d_span f from (suc n) zero d h = ap f (sym (add-zero from))
get_d_span f from (suc n) (suc q) d h = get_d_span f (suc from) n q d (le_of_suc-le-suc h) ∙ ap f (suc-add from q ∙ sym (add-suc from q))

pub get_d_table {ℓ} : {X : Type ℓ} (n : ℕ) (f : ℕ → X) (q : ℕ) (d : X) → q < n → get_or (table n f) q d ≡ f q
unfolding table
get_d_table n f q d h = get_d_span f 0 n q d h ∙ ap f (zero-add q)

length-span : (from n : ℕ) → length (span from n) ≡ n
unfolding span
length-span from zero = refl
length-span from (suc n) = ap suc (length-span (suc from) n)

pub length-table {ℓ} : {X : Type ℓ} (n : ℕ) (f : ℕ → X) → length (table n f) ≡ n
unfolding table
length-table n f = length-map (span 0 n) f ∙ length-span 0 n

span_more : {X : Type 0} (g : ℕ → X) (from i : ℕ) → map g (span from (suc i)) ≡ map g (span from i) ++ (g (from + i) ∷ [])
unfolding span
span_more g from zero = rw add-zero
span_more g from (suc i) = rw (add-suc, ← suc-add, span_more g (suc from) i)

-- one more value
pub table-suc : {X : Type 0} (g : ℕ → X) (i : ℕ) → table (suc i) g ≡ table i g ++ (g i ∷ [])
unfolding table
table-suc g i = span_more g 0 i ∙ rw zero-add

-- functions that agree below n have one table
pub table_same : {X : Type 0} (n : ℕ) (g g' : ℕ → X) → ((p : ℕ) → p < n → g p ≡ g' p) → table n g ≡ table n g'
unfolding table
table_same zero g g' e = refl
table_same (suc n) g g' e =
    table-suc g n ∙ rw (table_same n g g' (λ p l. e p (omega arith)), e n (omega arith)) (sym (table-suc g' n))

-- a list that is mapped, by place
pub get_d_map : (h : ℕ → ℕ) (f : List ℕ) (p : ℕ) → p < length f → get_or (map h f) p 0 ≡ h (get_or f p 0)
get_d_map h [] p l = absurd (not-suc-le-zero l)
get_d_map h (x ∷ f) zero l = refl
get_d_map h (x ∷ f) (suc p) l = get_d_map h f p (le_of_suc-le-suc l)

-- ---- members

elem-left : (xs ys : List ℕ) (q : ℕ) → T (elem xs q) → T (elem (xs ++ ys) q)
elem-left [] ys q t = absurd t
elem-left (x ∷ xs) ys q t = elim (either_cases (eqb x q) (elem xs q) t) [
  | inl a ↦ either_left (eqb x q) (elem (xs ++ ys) q) a
  | inr b ↦ either_right (eqb x q) (elem (xs ++ ys) q) (elem-left xs ys q b)
]

elem_right : (xs ys : List ℕ) (q : ℕ) → T (elem ys q) → T (elem (xs ++ ys) q)
elem_right [] ys q t = t
elem_right (x ∷ xs) ys q t = either_right (eqb x q) (elem (xs ++ ys) q) (elem_right xs ys q t)

one : (b : Bool) (q : ℕ) → T b → T (elem (cons_if b q []) q)
one true q t = either_left (eqb q q) false (eqb_refl q)
one false q t = absurd t

pub elem-rising : (n : ℕ) (s : ℕ → Bool) (q : ℕ) → q < n → T (s q) → T (elem (rising n s) q)
unfolding rising
elem-rising zero s = λ q l t. absurd (not-suc-le-zero l)
elem-rising (suc n) s = below_suc (λ (q : ℕ). T (s q) → T (elem (rising (suc n) s) q))
    (λ q l t. elem-left (rising n s) (cons_if (s n) n []) q (elem-rising n s q l t))
    (λ t. elem_right (rising n s) (cons_if (s n) n []) n (one (s n) n t))

pub gather_cong : (m : ℕ) (g g' : ℕ → List ℕ) → ((t : ℕ) → g t ≡ g' t) → gather m g ≡ gather m g'
unfolding gather
gather_cong zero g g' e = refl
gather_cong (suc m) g g' e = rw (gather_cong m g g' e, e m)

pub elem-gather : (m : ℕ) (g : ℕ → List ℕ) (q t : ℕ) → t < m → T (elem (g t) q) → T (elem (gather m g) q)
unfolding gather
elem-gather zero g q = λ t l. absurd (not-suc-le-zero l)
elem-gather (suc m) g q = below_suc (λ (t : ℕ). T (elem (g t) q) → T (elem (gather (suc m) g) q))
    (λ t l e. elem-left (gather m g) (g m) q (elem-gather m g q t l e))
    (elem_right (gather m g) (g m) q)

pub place_is : (xs : List ℕ) (q : ℕ) → T (elem xs q) → (place xs q < length xs) × (nth xs (place xs q) ≡ q)
unfolding place
place_is [] q t = absurd t
place_is (x ∷ xs) q t = go (eqb x q) refl t (place_is xs q)
  where
    go : (b : Bool) → eqb x q ≡ b → T (b || elem xs q) → (T (elem xs q) → (place xs q < length xs) × (nth xs (place xs q) ≡ q))
        → (elim b [ true ↦ 0 | false ↦ suc (place xs q) ] < suc (length xs)) × (nth (x ∷ xs) (elim b [ true ↦ 0 | false ↦ suc (place xs q) ]) ≡ q)
    go true e t ih = (omega arith, eqb→eq x q (rw e tt))
    go false e t ih = let r = ih t in (omega arith, r.1)

pub elem-nth : (xs : List ℕ) (i : ℕ) → i < length xs → T (elem xs (nth xs i))
elem-nth [] i l = absurd (not-suc-le-zero l)
elem-nth (x ∷ xs) zero l = either_left (eqb x x) (elem xs x) (eqb_refl x)
elem-nth (x ∷ xs) (suc i) l = either_right (eqb x (nth xs i)) (elem xs (nth xs i)) (elem-nth xs i (le_of_suc-le-suc l))

pub elem_append : (xs ys : List ℕ) (q : ℕ) → T (elem (xs ++ ys) q) → T (elem xs q) ⊎ T (elem ys q)
elem_append [] ys q t = inr t
elem_append (x ∷ xs) ys q t = go (either_cases (eqb x q) (elem (xs ++ ys) q) t) (elem_append xs ys q)
  where
    go : T (eqb x q) ⊎ T (elem (xs ++ ys) q) → (T (elem (xs ++ ys) q) → T (elem xs q) ⊎ T (elem ys q)) → T (eqb x q || elem xs q) ⊎ T (elem ys q)
    go (inl a) ih = inl (either_left (eqb x q) (elem xs q) a)
    go (inr b) ih = elim (ih b) [
      | inl c ↦ inl (either_right (eqb x q) (elem xs q) c)
      | inr d ↦ inr d
    ]

-- ---- lists along which a key rises

module _ (h : ℕ → ℕ) where
  pub rising_append : (xs ys : List ℕ) → Rising h xs → Rising h ys → ((p q : ℕ) → T (elem xs p) → T (elem ys q) → h p < h q) → Rising h (xs ++ ys)
  rising_append [] ys r s c = s
  rising_append (x ∷ xs) ys r s c = (
    λ q t. elim (elem_append xs ys q t) [
      | inl a ↦ r.0 q a
      | inr b ↦ c x q (either_left (eqb x x) (elem xs x) (eqb_refl x)) b
    ],
    rising_append xs ys r.1 s (λ p q t u. c p q (either_right (eqb x p) (elem xs p) t) u),
  )

  pub rising-nth : (xs : List ℕ) → Rising h xs → (i j : ℕ) → i < j → j < length xs → h (nth xs i) < h (nth xs j)
  rising-nth [] r i j l m = absurd (not-suc-le-zero m)
  rising-nth (x ∷ xs) r zero zero l m = absurd (not-suc-le-zero l)
  rising-nth (x ∷ xs) r zero (suc j) l m = r.0 (nth xs j) (elem-nth xs j (le_of_suc-le-suc m))
  rising-nth (x ∷ xs) r (suc i) zero l m = absurd (not-suc-le-zero l)
  rising-nth (x ∷ xs) r (suc i) (suc j) l m = rising-nth xs r.1 i j (le_of_suc-le-suc l) (le_of_suc-le-suc m)

  module _ (xs : List ℕ) (r : Rising h xs) where
    pub nth_le : (i j : ℕ) → i ≤ j → j < length xs → h (nth xs i) ≤ h (nth xs j)
    nth_le i j l m = elim (dec_le j i) [
      | yes k ↦ let e : i ≡ j = omega arith in omega (arith, ap (λ (k : ℕ). h (nth xs k)) e)
      | no k ↦ let s : i < j = omega arith in omega (arith, rising-nth xs r i j s m)
    ]

    -- a smaller key stands before
    pub nth_lt : (i j : ℕ) → i < length xs → h (nth xs i) < h (nth xs j) → i < j
    nth_lt i j l m = elim (dec_le j i) [
      | yes k ↦ absurd (omega (arith, nth_le j i k l))
      | no k ↦ omega arith
    ]

    -- one key, one place
    pub nth_inj : (i j : ℕ) → i < length xs → j < length xs → h (nth xs i) ≡ h (nth xs j) → i ≡ j
    nth_inj i j li lj e = elim (dec_le i j) [
      | yes a ↦ elim (dec_le j i) [
        | yes b ↦ omega arith
        | no b ↦ absurd (let s : i < j = omega arith in omega (arith, rising-nth xs r i j s lj))
      ]
      | no a ↦ absurd (let s : j < i = omega arith in omega (arith, rising-nth xs r j i s li))
    ]

-- a list that rises has no number twice
pub rising_distinct : (h : ℕ → ℕ) (xs : List ℕ) → Rising h xs → Distinct xs
rising_distinct h [] r = tt
rising_distinct h (x ∷ xs) r = (λ t. omega (arith, r.0 x t), rising_distinct h xs r.1)

-- ---- `rising` and `gather` hold no more than they should, and rise

one_sound : (b : Bool) (n q : ℕ) → T (elem (cons_if b n []) q) → T b × (n ≡ q)
one_sound true n q t = (tt, elim (either_cases (eqb n q) false t) [ inl a ↦ eqb→eq n q a | inr b ↦ absurd b ])
one_sound false n q t = absurd t

one_rising : (h : ℕ → ℕ) (b : Bool) (n : ℕ) → Rising h (cons_if b n [])
one_rising h true n = (λ q t. absurd t, tt)
one_rising h false n = tt

pub rising_sound : (n : ℕ) (s : ℕ → Bool) (q : ℕ) → T (elem (rising n s) q) → (q < n) × T (s q)
unfolding rising
rising_sound zero s q t = absurd t
rising_sound (suc n) s q t = go (elem_append (rising n s) (cons_if (s n) n []) q t) (rising_sound n s q)
  where
    go : T (elem (rising n s) q) ⊎ T (elem (cons_if (s n) n []) q) → (T (elem (rising n s) q) → (q < n) × T (s q)) → (q < suc n) × T (s q)
    go (inl a) ih = let r = ih a in (omega arith, r.1)
    go (inr b) ih = let r = one_sound (s n) n q b in (omega (arith, r.1), rw r.1 at r.0)

pub rising-length : (n : ℕ) (s : ℕ → Bool) → length (rising n s) ≡ area n s
unfolding rising area
rising-length zero s = refl
rising-length (suc n) s = omega (arith, length-append (rising n s) (cons_if (s n) n []), one (s n), rising-length n s)
  where
    one : (b : Bool) → length (cons_if b n []) ≡ bit b
    one true = refl
    one false = refl

pub rising-rising : (h : ℕ → ℕ) (n : ℕ) (s : ℕ → Bool) → ((p q : ℕ) → p < q → q < n → T (s p) → T (s q) → h p < h q) → Rising h (rising n s)
unfolding rising
rising-rising h zero s up = tt
rising-rising h (suc n) s up =
    rising_append h (rising n s) (cons_if (s n) n []) (rising-rising h n s (λ p q l m. up p q l (omega arith))) (one_rising h (s n) n)
    (λ p q t u.
    let a = rising_sound n s p t in
    let b = one_sound (s n) n q u in
    rw (← b.1) (up p n a.0 (omega arith) a.1 b.0))

pub gather_sound : (m : ℕ) (g : ℕ → List ℕ) (q : ℕ) → T (elem (gather m g) q) → (t : ℕ) × (t < m) × T (elem (g t) q)
unfolding gather
gather_sound zero g q u = absurd u
gather_sound (suc m) g q u = go (elem_append (gather m g) (g m) q u) (gather_sound m g q)
  where
    go : T (elem (gather m g) q) ⊎ T (elem (g m) q) → (T (elem (gather m g) q) → (t : ℕ) × (t < m) × T (elem (g t) q))
        → (t : ℕ) × (t < suc m) × T (elem (g t) q)
    go (inl a) ih = let r = ih a in (r.0, omega arith, r.2)
    go (inr b) ih = (m, omega arith, b)

pub gather-rising : (h : ℕ → ℕ) (m : ℕ) (g : ℕ → List ℕ) → ((t : ℕ) → Rising h (g t))
    → ((t u p q : ℕ) → t < u → T (elem (g t) p) → T (elem (g u) q) → h p < h q) → Rising h (gather m g)
unfolding gather
gather-rising h zero g r up = tt
gather-rising h (suc m) g r up =
    rising_append h (gather m g) (g m) (gather-rising h m g r up) (r m)
    (λ p q a b. let s = gather_sound m g p a in up s.0 m p q s.1 s.2 b)

-- ---- lists that rise and hold the same are the same

pub rising-same : (h : ℕ → ℕ) (xs ys : List ℕ) → Rising h xs → Rising h ys
    → ((q : ℕ) → T (elem xs q) → T (elem ys q)) → ((q : ℕ) → T (elem ys q) → T (elem xs q)) → xs ≡ ys
rising-same h [] [] r s a b = refl
rising-same h [] (y ∷ ys) r s a b = absurd (b y (either_left (eqb y y) (elem ys y) (eqb_refl y)))
rising-same h (x ∷ xs) [] r s a b = absurd (a x (either_left (eqb x x) (elem xs x) (eqb_refl x)))
rising-same h (x ∷ xs) (y ∷ ys) r s a b = step (rising-same h xs ys r.1 s.1 to from)
  where
    -- the two heads are one: each is the other, or after it
    head : x ≡ y
    head = elim (either_cases (eqb y x) (elem ys x) (a x (either_left (eqb x x) (elem xs x) (eqb_refl x)))) [
      | inl e ↦ let u : y ≡ x = eqb→eq y x e in omega arith
      | inr v ↦ elim (either_cases (eqb x y) (elem xs y) (b y (either_left (eqb y y) (elem ys y) (eqb_refl y)))) [
        | inl e ↦ eqb→eq x y e
        | inr w ↦ absurd (omega (arith, s.0 x v, r.0 y w))
      ]
    ]

    to : (q : ℕ) → T (elem xs q) → T (elem ys q)
    to q t = elim (either_cases (eqb y q) (elem ys q) (a q (either_right (eqb x q) (elem xs q) t))) [
      | inl e ↦ let u : y ≡ q = eqb→eq y q e in absurd (omega (arith, r.0 q t, ap h head, ap h u))
      | inr v ↦ v
    ]

    from : (q : ℕ) → T (elem ys q) → T (elem xs q)
    from q t = elim (either_cases (eqb x q) (elem xs q) (b q (either_right (eqb y q) (elem ys q) t))) [
      | inl e ↦ let u : x ≡ q = eqb→eq x q e in absurd (omega (arith, s.0 q t, ap h head, ap h u))
      | inr v ↦ v
    ]

    step : xs ≡ ys → x ∷ xs ≡ y ∷ ys
    step e = cc head

-- ---- a list that rises, and the first part of it

-- ys rises and has all of xs, and what ys has that is not after a member of xs is in xs: then ys begins with xs
pub rising_prefix : (h : ℕ → ℕ) (xs ys : List ℕ) → Rising h xs → Rising h ys → ((q : ℕ) → T (elem xs q) → T (elem ys q))
    → ((p q : ℕ) → T (elem xs p) → T (elem ys q) → h q ≤ h p → T (elem xs q)) → (i : ℕ) → i < length xs → (i < length ys) × (nth ys i ≡ nth xs i)
rising_prefix h [] ys r s a b i l = absurd (not-suc-le-zero l)
rising_prefix h (x ∷ xs) [] r s a b i l = absurd (a x (either_left (eqb x x) (elem xs x) (eqb_refl x)))
rising_prefix h (x ∷ xs) (y ∷ ys) r s a b i l = go i l (rising_prefix h xs ys r.1 s.1 to from)
  where
    first_x : T (eqb x x || elem xs x)
    first_x = either_left (eqb x x) (elem xs x) (eqb_refl x)

    first_y : T (eqb y y || elem ys y)
    first_y = either_left (eqb y y) (elem ys y) (eqb_refl y)

    -- y is no later than x, so it is in xs, and no earlier
    early : h y ≤ h x
    early = elim (either_cases (eqb y x) (elem ys x) (a x first_x)) [
      | inl e ↦ omega (arith, ap h (eqb→eq y x e))
      | inr v ↦ omega (arith, s.0 x v)
    ]

    head : y ≡ x
    head = elim (either_cases (eqb x y) (elem xs y) (b x y first_x first_y early)) [
      | inl e ↦ let u : x ≡ y = eqb→eq x y e in omega arith
      | inr v ↦ absurd (omega (arith, r.0 y v, early))
    ]

    to : (q : ℕ) → T (elem xs q) → T (elem ys q)
    to q t = elim (either_cases (eqb y q) (elem ys q) (a q (either_right (eqb x q) (elem xs q) t))) [
      | inl e ↦ let u : y ≡ q = eqb→eq y q e in absurd (omega (arith, r.0 q t, ap h head, ap h u))
      | inr v ↦ v
    ]

    from : (p q : ℕ) → T (elem xs p) → T (elem ys q) → h q ≤ h p → T (elem xs q)
    from p q t u k = elim (either_cases (eqb x q) (elem xs q) (b p q (either_right (eqb x p) (elem xs p) t) (either_right (eqb y q) (elem ys q) u) k)) [
      | inl e ↦ let v : x ≡ q = eqb→eq x q e in absurd (omega (arith, s.0 q u, ap h head, ap h v))
      | inr v ↦ v
    ]

    go : (i : ℕ) → i < suc (length xs) → ((i : ℕ) → i < length xs → (i < length ys) × (nth ys i ≡ nth xs i))
        → (i < suc (length ys)) × (nth (y ∷ ys) i ≡ nth (x ∷ xs) i)
    go zero l ih = (omega arith, head)
    go (suc i) l ih = let r = ih i (le_of_suc-le-suc l) in (omega arith, r.1)

-- ---- a set as a list of distinct numbers

pub members_distinct : (n : ℕ) (s : ℕ → Bool) → Distinct (rising n s)
members_distinct n s = rising_distinct (λ (q : ℕ). q) (rising n s) (rising-rising (λ (q : ℕ). q) n s (λ p q l m t u. l))

-- a list of distinct pixels is no longer than its set is large
pub distinct_area : (n : ℕ) (xs : List ℕ) → Distinct xs → ((q : ℕ) → T (elem xs q) → q < n) → length xs ≤ area n (elem xs)
distinct_area n [] d i = omega arith
distinct_area n (x ∷ xs) d i =
    let ih : length xs ≤ area n (elem xs) = distinct_area n xs d.1 (λ q t. i q (either_right (eqb x q) (elem xs q) t)) in
    elim (area_grows n (elem xs) (elem (x ∷ xs)) (λ q l t. either_right (eqb x q) (elem xs q) t)) [
      | inl l ↦ omega arith
      | inr w ↦ absurd (d.0 (w x (i x (first x xs)) (first x xs)))
    ]
  where
    first : (x : ℕ) (xs : List ℕ) → T (eqb x x || elem xs x)
    first x xs = either_left (eqb x x) (elem xs x) (eqb_refl x)

-- the part from a place on is all that is left
pub take_rest : (s : List ℕ) (i : ℕ) → take (length s - i) (drop i s) ≡ drop i s
take_rest s i = take_all (length s - i) (drop i s) (omega (arith, length-drop i s))
