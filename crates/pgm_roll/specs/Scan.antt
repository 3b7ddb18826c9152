-- What a pass over a roll finds.
use Rattle.std.specs.Prelude.{◌≡◌, true, List, ℕ, ◌-◌, ◌≤◌, ◌<◌, drop, get_or, length, take, Option, Some, None, Result, Ok, Err, OnOk, IfOk}
use Rattle.meaning.specs.Plate.{grid_fits}
use Rattle.pgm.specs.File.{greys_of}
use Rattle.pgm_roll.specs.Roll.{Image, count_of, largest, no_image, pixels, place_answer, plates, plates_of, roll}
use Rattle.refusals.specs.Numbers.{number_of}
use Rattle.refusals.specs.declared.Refusal.{Refusal}
use Rattle.pgm_roll.specs.declared.FoundPlate.{FoundPlate}
use Rattle.pgm_roll.specs.declared.PlateAt.{PlateAt}
use Rattle.pgm_roll.specs.declared.RollCount.{RollCount}
use Rattle.pgm_roll.specs.declared.RollScan.{RollScan}

-- the greys of the raster that stands in the file where c says
abbrev pub greys_at : List ℕ → PlateAt → List ℕ
greys_at file c = greys_of c.greatest (take (c.end - c.raster) (drop c.raster file))

-- the plate p stands in the file where c says
pub record Stands (file : List ℕ) (c : PlateAt) (p : Image) : Type 0 where
  pub width : c.width ≡ p.width
  pub height : c.height ≡ p.height
  pub greatest : c.greatest ≡ p.greatest
  pub from : c.raster ≤ c.end
  pub till : c.end ≤ length file
  pub greys : greys_at file c ≡ p.greys
  pub sizes : grid_fits p.width p.height ≡ true
  pub long : length p.greys ≡ pixels p

-- the plate of a number among the plates `ps` is c, and there is none where the number is not below the count
abbrev pub Chosen : List ℕ → ℕ → ℕ → List Image → Option FoundPlate → Type 0
Chosen file number count ps None = count ≤ number
Chosen file number count ps (Some c) = (number < count) × Stands file (place_answer (Ok c)) (get_or ps number no_image)

-- the count of a pass, or the refusal
abbrev pub scan_count : Result RollScan Refusal → RollCount
scan_count (Ok r) = record { refusal = 0; count = r.count }
scan_count (Err e) = record { refusal = number_of e; count = 0 }

-- the pixels of the largest plate that a pass found; 0 where it is refused
abbrev pub scan_largest : Result RollScan Refusal → ℕ
scan_largest (Ok r) = r.largest
scan_largest (Err e) = 0

-- a pass over the roll, which looks for the plate of a number, answered r
pub record Scanned (file : List ℕ) (number : ℕ) (r : Result RollScan Refusal) : Type 0 where
  pub counted : scan_count r ≡ count_of (roll file)
  pub sound : OnOk r (roll file ≡ plates (plates_of (roll file)))
  pub most : scan_largest r ≡ largest (plates_of (roll file))
  pub found : IfOk r (λ (s : RollScan). Chosen file number s.count (plates_of (roll file)) s.chosen)
