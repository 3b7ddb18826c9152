-- What demand 3 says of a cut and of a size list of a plate. k: connectivity, w: width, h: height, f: the plate.
use Rattle.std.specs.Prelude.{◌≡◌, not, ◌&&◌, List, ℕ, suc, ◌+◌, ◌-◌, ◌*◌, ◌≤◌, ◌<◌, eqb, length}
use Rattle.meaning.specs.Sets.{area, sum, nth}
use Rattle.meaning.specs.Plate.{NowhereLighter, on_trim_edge, touch, grey}
use Rattle.meaning.specs.Maxima.{LargeMaxima}
use Rattle.meaning.specs.Nodes.{area_of, holds, nodes_of}
use Rattle.meaning.specs.Opening.{reaches}
use Rattle.meaning.specs.Cut.{total}

-- g is the cut at the limit: the lightest plate that is nowhere lighter than f and whose regional maxima have at least the limit's pixels or reach the
-- trim edge
pub record IsCut (k w h limit : ℕ) (f g : List ℕ) : Type 0 where
  pub nowhere_lighter : NowhereLighter g f
  pub large_maxima : LargeMaxima k w h limit g
  pub lightest : (other : List ℕ) → NowhereLighter other f → LargeMaxima k w h limit other → NowhereLighter other g

-- the tables, the darkest grey and the grey held are the size list; `cut_total` gives the totals of the cuts
pub record IsSizeList (k w h : ℕ) (f counts losses : List ℕ) (dark held : ℕ) (cut_total : ℕ → ℕ) : Type 0 where
  -- at each area the number of nodes off the trim edge
  pub node_counts : (a : ℕ) → 1 ≤ a → a < w * h
      → nth counts (a - 1)
      ≡ area (length (nodes_of k w f)) (λ (i : ℕ).
      not (reaches (length f) (on_trim_edge w h) (holds (length f) (touch k w) (grey f) (nodes_of k w f) i))
      && eqb (area_of (length f) (touch k w) (grey f) (nodes_of k w f) i) a)
  -- and the grey lost, which with the total of the cut at one more makes the total of the cut at that area
  pub grey_lost : (a : ℕ) → 1 ≤ a → a < w * h → nth losses (a - 1) + cut_total (suc a) ≡ cut_total a
  -- the grey held, which with the darkest grey over every pixel makes the total of the cut at the full limit
  pub grey-held : held + dark * (w * h) ≡ cut_total (w * h)
  -- all losses, the grey held and the darkest grey over every pixel make the plate's total
  pub whole : sum (w * h - 1) (nth losses) + held + dark * (w * h) ≡ total f
