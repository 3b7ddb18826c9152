-- Sets of pixels, sums and lists by index. A set is a test on numbers, of which only those below n count.
use Rattle.std.specs.Prelude.{Bool, true, false, ◌||◌, List, [], ◌∷◌, ◌++◌, map, ℕ, zero, suc, ◌+◌, ◌<◌, max, T, eqb, get_or}

-- x where the test passes, else y
abbrev pub pick {ℓ} : {X : Type ℓ} → Bool → X → X → X
pick true x y = x
pick false x y = y

-- 1 where the test passes, else 0
abbrev pub bit : Bool → ℕ
bit true = 1
bit false = 0

-- does any number below n pass the test
unfoldable pub some : ℕ → (ℕ → Bool) → Bool
some zero f = false
some (suc n) f = let rest = some n f in f n || rest

-- how many numbers below n are in the set: the set's area, in pixels
unfoldable pub area : ℕ → (ℕ → Bool) → ℕ
area zero s = 0
area (suc n) s = bit (s n) + area n s

-- g 0 + .. + g (n - 1)
unfoldable pub sum : ℕ → (ℕ → ℕ) → ℕ
sum zero g = 0
sum (suc n) g = g n + sum n g

-- the greatest of h 0, .., h (n - 1); 0 where n is 0
unfoldable pub most : ℕ → (ℕ → ℕ) → ℕ
most zero h = 0
most (suc n) h = max (h n) (most n h)

-- the greatest number up to the bound that is good; 0 where none is
unfoldable pub greatest : (ℕ → Bool) → ℕ → ℕ
greatest good zero = zero
greatest good (suc t) = let r = greatest good t in pick (good (suc t)) (suc t) r

-- the lowest number below n that passes, and n where none does
unfoldable pub lowest : ℕ → (ℕ → Bool) → ℕ
lowest zero s = 0
lowest (suc n) s = let r = lowest n s in elim (s r) [ true ↦ r | false ↦ suc n ]

-- every member of s below n is a member of s'
abbrev pub Within : ℕ → (ℕ → Bool) → (ℕ → Bool) → Type 0
Within n s s' = (q : ℕ) → q < n → T (s q) → T (s' q)

-- ---- lists by index

-- the numbers from `from` on, n of them
unfoldable pub span : ℕ → ℕ → List ℕ
span from zero = []
span from (suc n) = from ∷ span (suc from) n

-- f 0, f 1, up to f (n - 1)
unfoldable pub table {ℓ} : {X : Type ℓ} → ℕ → (ℕ → X) → List X
unfolding span
table n f = map f (span 0 n)

-- the number at place i
abbrev pub nth : List ℕ → ℕ → ℕ
nth xs i = get_or xs i 0

-- a list of Bools as the set of the places that hold `true`
abbrev pub has : List Bool → ℕ → Bool
has s q = get_or s q false

-- the first place of q
unfoldable pub place : List ℕ → ℕ → ℕ
place [] q = 0
place (x ∷ xs) q = elim (eqb x q) [ true ↦ 0 | false ↦ suc (place xs q) ]

-- ---- a list of numbers as a set

abbrev pub elem : List ℕ → ℕ → Bool
elem [] q = false
elem (x ∷ xs) q = eqb x q || elem xs q

abbrev pub Distinct : List ℕ → Type 0
Distinct [] = Unit {0}
Distinct (x ∷ xs) = (T (elem xs x) → ⊥) × Distinct xs

abbrev pub cons_if : Bool → ℕ → List ℕ → List ℕ
cons_if true x xs = x ∷ xs
cons_if false x xs = xs

-- the members of s below n, rising
unfoldable pub rising : ℕ → (ℕ → Bool) → List ℕ
rising zero s = []
rising (suc n) s = rising n s ++ cons_if (s n) n []

-- g 0, g 1, up to g (m - 1), one after the other
unfoldable pub gather : ℕ → (ℕ → List ℕ) → List ℕ
gather zero g = []
gather (suc m) g = gather m g ++ g m
