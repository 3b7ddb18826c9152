-- `record_fields::same` meets its contract. The invariant: the bytes begin with the form's first i fields.
use Prim.Native.Nat.{◌-◌}
use lib.ListN.{drop}
use Rattle.record_varint.proofs.Loops.{Matched}
use Rattle.record_fields.specs.Fields.{column_fields, first_field}
use Rattle.record_fields.proofs.same.Given as goal

abbrev pub invariant-loop-i : goal.invariant-loop-i
invariant-loop-i l = Matched (drop (first_field l.new) (column_fields l.t.shape l.w l.t.count)) l.s (l.i - first_field l.new) l.at
