-- Flat zones and regional maxima.
use Rattle.std.specs.Prelude.{◌⊎◌, Bool, not, ◌&&◌, List, ℕ, ◌≤◌, ◌<◌, T, leb, eqb, length}
use Rattle.meaning.specs.Sets.{area, bit, some, table, has}
use Rattle.meaning.specs.Component.{component}
use Rattle.meaning.specs.Plate.{touch, grey, on_trim_edge}
use Rattle.meaning.specs.Opening.{Reaches}

-- the pixels of p's grey
abbrev pub alike : (ℕ → ℕ) → ℕ → ℕ → Bool
alike g p q = eqb (g q) (g p)

-- the flat zone of p: the greatest connected set of p's grey that holds p
unfoldable pub flat_zone : ℕ → (ℕ → ℕ → Bool) → (ℕ → ℕ) → ℕ → List Bool
unfolding component
flat_zone n near g p = component n near (alike g p) p

-- p's flat zone is a regional maximum: its outside neighbours are all strictly darker
abbrev pub Maximum : ℕ → (ℕ → ℕ → Bool) → (ℕ → ℕ) → ℕ → Type 0
Maximum n near g p =
    (q r : ℕ) → q < n → r < n → T (has (flat_zone n near g p) q) → T (near q r) → (T (has (flat_zone n near g p) r) → ⊥) → g r < g p

-- every regional maximum of g qualifies
abbrev pub MaximaKept : ℕ → (ℕ → ℕ → Bool) → ((ℕ → Bool) → Bool) → (ℕ → ℕ) → Type 0
MaximaKept n near keep g = (p : ℕ) → p < n → Maximum n near g p → T (keep (has (flat_zone n near g p)))

-- the test: no pixel of the flat zone has an outside neighbour as light or lighter. It passes exactly where `Maximum` holds (crate theorems, 8)
unfoldable pub maximum : ℕ → (ℕ → ℕ → Bool) → (ℕ → ℕ) → ℕ → Bool
unfolding flat_zone some
maximum n near g p =
    let z = flat_zone n near g p in
    not (some n (λ (q : ℕ). has z q && some n (λ (r : ℕ). near q r && (not (has z r) && leb (g p) (g r)))))

-- the marks of a plate: 1 inside a maximum and 0 elsewhere
unfoldable pub marks : ℕ → ℕ → List ℕ → List ℕ
unfolding maximum table touch
marks k w f = table (length f) (λ (p : ℕ). bit (maximum (length f) (touch k w) (grey f) p))

-- every regional maximum of a plate has at least the limit's pixels or reaches the trim edge
abbrev pub LargeMaxima : ℕ → ℕ → ℕ → ℕ → List ℕ → Type 0
LargeMaxima k w h limit g =
    (p : ℕ) → p < length g → Maximum (length g) (touch k w) (grey g) p
    → (limit ≤ area (length g) (has (flat_zone (length g) (touch k w) (grey g) p)))
    ⊎ Reaches (length g) (on_trim_edge w h) (has (flat_zone (length g) (touch k w) (grey g) p))
