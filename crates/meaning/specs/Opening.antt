-- Patches, and the opening of a plate. An opening goes by a criterion, a test that says which sets of pixels qualify; here it is
-- "at least the limit's pixels, or a pixel of the trim edge". The theory holds for every increasing criterion (attribute openings).
use Rattle.std.specs.Prelude.{◌⊎◌, Bool, true, ◌&&◌, ◌||◌, List, ℕ, ◌*◌, ◌≤◌, ◌<◌, T, eqb, leb, length}
use Rattle.meaning.specs.Sets.{Within, area, greatest, pick, some, table, has, elem, Distinct}
use Rattle.meaning.specs.Paths.{Joined}
use Rattle.meaning.specs.Component.{component}
use Rattle.meaning.specs.Plate.{touch, grey, negative, on_trim_edge}

-- the level set at t: the pixels of grey at least t
abbrev pub lighter : (ℕ → ℕ) → ℕ → ℕ → Bool
lighter f t q = leb t (f q)

-- a patch (SPECIFICATION 3): the component of p in the level set at t
unfoldable pub patch : ℕ → (ℕ → ℕ → Bool) → (ℕ → ℕ) → ℕ → ℕ → List Bool
unfolding component
patch n near f t p = component n near (lighter f t) p

-- the opened value of p: the greatest t, up to p's grey, at which p's patch qualifies
unfoldable pub opened_at : ℕ → (ℕ → ℕ → Bool) → ((ℕ → Bool) → Bool) → (ℕ → ℕ) → ℕ → ℕ
unfolding greatest patch
opened_at n near keep f p = greatest (λ (t : ℕ). let c = patch n near f t p in keep (has c)) (f p)

-- ---- which sets qualify

-- what the theory asks of a criterion: a set that holds a qualifying set qualifies, and so does the whole grid
pub record Criterion (n : ℕ) (keep : (ℕ → Bool) → Bool) : Type 0 where
  pub increasing : (s s' : ℕ → Bool) → Within n s s' → T (keep s) → T (keep s')
  pub all : T (keep (λ (q : ℕ). true))

-- a set qualifies at a limit by an attribute that is at least the limit
abbrev pub at_least : ((ℕ → Bool) → ℕ) → ℕ → (ℕ → Bool) → Bool
at_least att limit s = leb limit (att s)

-- what the theory asks of an attribute: it grows with the set, it is 1 at least where there is a pixel, and the whole grid's is n
pub record Attribute (n : ℕ) (att : (ℕ → Bool) → ℕ) : Type 0 where
  pub increasing : (s s' : ℕ → Bool) → Within n s s' → att s ≤ att s'
  pub positive : (s : ℕ → Bool) (q : ℕ) → q < n → T (s q) → 1 ≤ att s
  pub all : n ≤ att (λ (q : ℕ). true)

-- a set holds a pixel of the edge, as a test and as a statement. n: the pixels
unfoldable pub reaches : ℕ → (ℕ → Bool) → (ℕ → Bool) → Bool
unfolding some
reaches n edge s = some n (λ (q : ℕ). s q && edge q)

abbrev pub Reaches : ℕ → (ℕ → Bool) → (ℕ → Bool) → Type 0
Reaches n edge s = (q : ℕ) × (q < n) × T (s q) × T (edge q)

-- the one place that knows the qualifying attribute of a set of pixels of a plate of width w and height h: all the pixels where it holds one of the
-- trim edge, so that it qualifies at every limit; else its area
abbrev pub attribute : (w h : ℕ) → (ℕ → Bool) → ℕ
attribute w h s = pick (reaches (w * h) (on_trim_edge w h) s) (w * h) (area (w * h) s)

-- ---- the opening and closing of a plate

-- the opened value of each pixel
unfoldable pub opened : ℕ → ℕ → ℕ → ℕ → List ℕ → List ℕ
unfolding opened_at table touch area reaches on_trim_edge
opened k w h limit f = table (length f) (opened_at (length f) (touch k w) (at_least (attribute w h) limit) (grey f))

-- the closed value is the greatest grey M minus the opened value on the negative
unfoldable pub closed : ℕ → ℕ → ℕ → ℕ → ℕ → List ℕ → List ℕ
unfolding opened negative
closed k w h M limit f = negative M (opened k w h limit (negative M f))

-- ---- cleaning a plate on a side

-- the side is 1, light patches, or 2, dark patches
abbrev pub light_side : ℕ
light_side = 1

abbrev pub dark_side : ℕ
dark_side = 2

unfoldable pub side_fits : ℕ → Bool
side_fits side = eqb side light_side || eqb side dark_side

-- a plate cleaned on a side: closed on the dark one, opened on the light one
unfoldable pub cleaned : ℕ → ℕ → ℕ → ℕ → ℕ → ℕ → List ℕ → List ℕ
unfolding opened closed
cleaned side k w h M limit f = pick (eqb side dark_side) (closed k w h M limit f) (opened k w h limit f)

-- ---- the specification's words

-- a connected set of distinct pixels that contains p, with no grey below t, and that has at least `limit` pixels or holds one of the edge
pub record Region (n : ℕ) (near : ℕ → ℕ → Bool) (edge : ℕ → Bool) (f : ℕ → ℕ) (limit t p : ℕ) : Type 0 where
  pub pixels : List ℕ
  pub distinct : Distinct pixels
  pub inside : (q : ℕ) → T (elem pixels q) → q < n
  pub holds : T (elem pixels p)
  pub qualifies : (limit ≤ length pixels) ⊎ ((q : ℕ) × T (elem pixels q) × T (edge q))
  pub light : (q : ℕ) → T (elem pixels q) → t ≤ f q
  pub connected : (a b : ℕ) → T (elem pixels a) → T (elem pixels b) → Joined n near (elem pixels) a b

-- the same for any criterion: a qualifying connected set that holds p, with no grey below t
pub record Qualifying (n : ℕ) (near : ℕ → ℕ → Bool) (keep : (ℕ → Bool) → Bool) (f : ℕ → ℕ) (t p : ℕ) : Type 0 where
  pub set : ℕ → Bool
  pub holds : T (set p)
  pub kept : T (keep set)
  pub light : (q : ℕ) → q < n → T (set q) → t ≤ f q
  pub connected : (a b : ℕ) → a < n → b < n → T (set a) → T (set b) → Joined n near set a b
