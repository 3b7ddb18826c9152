-- A refusal's number is not 0.
use Rattle.std.proofs.Common.{◌≡◌, arith}
use Rattle.refusals.specs.declared.Refusal.{Refusal}
use Rattle.refusals.specs.declared.Refusal.TheVariants.{Connectivity, Grid, PlateLength, Limit, OutputLength, WorkLength, Letters, GapOrNumber, FileGreatest}
use Rattle.refusals.specs.declared.Refusal.TheVariants.{RasterShort, RasterLong, FieldUnended, FieldMalformed, FieldRange, RecordLong, RecordOther}
use Rattle.refusals.specs.declared.Refusal.TheVariants.{PlateNumber, Side, GreyAbove, Greatest, Form}
use Rattle.refusals.specs.Numbers.{number_of}

pub number_nonzero : (r : Refusal) → number_of r ≡ 0 → ⊥
number_nonzero Connectivity e = omega arith
number_nonzero Grid e = omega arith
number_nonzero PlateLength e = omega arith
number_nonzero Limit e = omega arith
number_nonzero OutputLength e = omega arith
number_nonzero WorkLength e = omega arith
number_nonzero Letters e = omega arith
number_nonzero GapOrNumber e = omega arith
number_nonzero FileGreatest e = omega arith
number_nonzero RasterShort e = omega arith
number_nonzero RasterLong e = omega arith
number_nonzero FieldUnended e = omega arith
number_nonzero FieldMalformed e = omega arith
number_nonzero FieldRange e = omega arith
number_nonzero RecordLong e = omega arith
number_nonzero RecordOther e = omega arith
number_nonzero PlateNumber e = omega arith
number_nonzero Side e = omega arith
number_nonzero GreyAbove e = omega arith
number_nonzero Greatest e = omega arith
number_nonzero Form e = omega arith
