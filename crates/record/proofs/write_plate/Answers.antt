-- `record::write_plate` meets its contract.
use mathlib.Core.Path.{sym}
use Rattle.plate_refusals.proofs.Refusals.{out_none}
use Rattle.record.proofs.Standing.{greys_stand}
use Rattle.record.proofs.write_plate.Goals as goal

pub write_greys-requires : goal.write_greys-requires
write_greys-requires c = greys_stand c.requires (out_none _ _ 0 (sym c.in_ok-check_out.ensures)).0
