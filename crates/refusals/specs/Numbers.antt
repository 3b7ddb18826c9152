-- The number by which SPECIFICATION 9 knows each refusal.
use Rattle.std.specs.Prelude.{ℕ, Result, Ok, Err}
use Rattle.refusals.specs.declared.Refusal.{Refusal}
use Rattle.refusals.specs.declared.Refusal.TheVariants.{Connectivity, Grid, PlateLength, Limit, OutputLength, WorkLength, Letters, GapOrNumber, FileGreatest}
use Rattle.refusals.specs.declared.Refusal.TheVariants.{RasterShort, RasterLong, FieldUnended, FieldMalformed, FieldRange, RecordLong, RecordOther}
use Rattle.refusals.specs.declared.Refusal.TheVariants.{PlateNumber, Side, GreyAbove, Greatest, Form}

abbrev pub number_of : Refusal → ℕ
number_of Connectivity = 1
number_of Grid = 2
number_of PlateLength = 3
number_of Limit = 4
number_of OutputLength = 5
number_of WorkLength = 6
number_of Letters = 10
number_of GapOrNumber = 11
number_of FileGreatest = 12
number_of RasterShort = 14
number_of RasterLong = 15
number_of FieldUnended = 20
number_of FieldMalformed = 21
number_of FieldRange = 22
number_of RecordLong = 23
number_of RecordOther = 24
number_of PlateNumber = 25
number_of Side = 26
number_of GreyAbove = 28
number_of Greatest = 29
number_of Form = 30

-- the number of what an answer refuses; 0 is no refusal
abbrev pub refusal_of : {T : Type 0} → Result T Refusal → ℕ
refusal_of (Ok value) = 0
refusal_of (Err refusal) = number_of refusal
