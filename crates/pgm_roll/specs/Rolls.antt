-- Rolls, as a claim over all bytes: a roll is plate files one after the other, and each of its plates is what its own bytes read as alone. It speaks
-- of the definitions that the contracts of `roll_count`, `roll_plate`, `plate_at`, `read_pgm` and `write_pgm` equate with what they answer.
use Rattle.std.specs.Prelude.{◌≡◌, true, List, [], ◌∷◌, ◌++◌, ℕ, ◌-◌, ◌≤◌, ◌<◌, drop, length, take}
use Rattle.meaning.specs.Plate.{Plate, connectivity_fits}
use Rattle.pgm.specs.File.{read_pgm}
use Rattle.pgm_write.specs.Writing.{pgm_of}
use Rattle.pgm_roundtrip.specs.PlateFiles.{ReadsAs}
use Rattle.pgm_roll.specs.Roll.{Image, before, pixels, plate_at, plates, refused, roll}

-- given the space, the file alone is read as the plate p
pub record Reads (file : List ℕ) (p : Image) : Type 0 where
  pub alone : (room : ℕ) → pixels p ≤ room → ReadsAs p.width p.height p.greatest p.greys file room

-- files one after the other
unfoldable pub joined : List (List ℕ) → List ℕ
joined [] = []
joined (file ∷ files) = file ++ joined files

-- each file alone is read as its plate
abbrev pub ReadEach : List (List ℕ) → List Image → Type 0
ReadEach [] [] = Unit {0}
ReadEach (file ∷ files) (p ∷ ps) = Reads file p × ReadEach files ps
ReadEach [] (p ∷ ps) = ⊥
ReadEach (file ∷ files) [] = ⊥

-- the bytes are plate files, one after the other, of these plates
pub record PlateFiles (s : List ℕ) (ps : List Image) : Type 0 where
  pub files : List (List ℕ)
  pub make_up : s ≡ joined files
  pub each : ReadEach files ps

-- plate files one after the other, and then a faulty plate: its bytes, which are all that are left but for 28, are refused alone by n, which is not 15
pub record FirstFault (s : List ℕ) (n : ℕ) : Type 0 where
  pub sound : List ℕ
  pub ps : List Image
  pub ahead : PlateFiles sound ps
  pub faulty : List ℕ
  pub left : List ℕ
  pub split : s ≡ sound ++ (faulty ++ left)
  pub some : 0 < length faulty
  pub all : (n ≡ 28 → ⊥) → left ≡ []
  pub alone : (room : ℕ) → (read_pgm faulty room).refusal ≡ n
  pub kind : n ≡ 15 → ⊥

-- the plate is accepted, with each connectivity
abbrev pub Accepted : Image → Type 0
Accepted p = (k : ℕ) → connectivity_fits k ≡ true → Plate k p.width p.height p.greatest p.greys

abbrev pub AllAccepted : List Image → Type 0
AllAccepted [] = Unit {0}
AllAccepted (p ∷ ps) = Accepted p × AllAccepted ps

-- the written files of plates, one after the other
unfoldable pub written : List Image → List ℕ
unfolding pgm_of
written [] = []
written (p ∷ ps) = pgm_of p.width p.height p.greatest p.greys ++ written ps

pub record RollClaim : Type 0 where
  -- no bytes are a roll of none
  pub none : roll [] ≡ plates []
  -- a roll of one plate is what the file alone is read as
  pub one : (file : List ℕ) (p : Image) → (roll file ≡ plates (p ∷ []) → Reads file p) × (Reads file p → roll file ≡ plates (p ∷ []))
  -- the plates of a roll are those of plate files one after the other, which make it up
  pub each : (s : List ℕ) (ps : List Image) → roll s ≡ plates ps → PlateFiles s ps
  pub together : (s : List ℕ) (ps : List Image) → PlateFiles s ps → roll s ≡ plates ps
  -- after a sound roll the roll of any bytes goes on
  pub further : (s more : List ℕ) (ps : List Image) → roll s ≡ plates ps → roll (s ++ more) ≡ before ps (roll more)
  -- its plates are accepted
  pub accepted : (s : List ℕ) (ps : List Image) → roll s ≡ plates ps → AllAccepted ps
  -- the first faulty plate refuses it with its number
  pub refusal : (s : List ℕ) (n : ℕ) → (roll s ≡ refused n → FirstFault s n) × (FirstFault s n → roll s ≡ refused n)
  -- the bytes from the place of a plate to its end, alone, are read as the plate, and the roll goes on after them
  pub step : (s : List ℕ) (at : ℕ) → (plate_at s at).refusal ≡ 0 → let e = (plate_at s at).end in
      (p : Image) × (Reads (take (e - at) (drop at s)) p × (roll (drop at s) ≡ before (p ∷ []) (roll (drop e s))))
  -- the written files of accepted plates, one after the other, are the roll of these plates
  pub back : (ps : List Image) → AllAccepted ps → roll (written ps) ≡ plates ps
