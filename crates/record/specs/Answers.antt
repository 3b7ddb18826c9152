-- The operations' answers as the C functions give them, which the definitions of `Writing` and `Reading` speak of: a refusal's number and zeros, or 0 and
-- what is given.
use Rattle.std.specs.Prelude.{ℕ, Result, Ok, Err}
use Rattle.refusals.specs.declared.Refusal.{Refusal}
use Rattle.refusals.specs.Numbers.{number_of}
use Rattle.plate_refusals.specs.declared.PlateHead.{PlateHead}
use Rattle.record.specs.declared.Head.{Head}
use Rattle.record.specs.declared.SizeHead.{SizeHead}
use Rattle.record.specs.declared.SizeList.{SizeList}
use Rattle.record.specs.declared.Written.{Written}

-- of writing: the length of the record
abbrev pub written_answer : Result ℕ Refusal → Written
written_answer (Ok size) = record { refusal = 0; length = size }
written_answer (Err refusal) = record { refusal = number_of refusal; length = 0 }

-- of reading and of cutting: the plate's sizes, greatest grey and connectivity
abbrev pub read_answer : Result PlateHead Refusal → Head
read_answer (Ok plate) =
    record { refusal = 0; width = plate.width; height = plate.height; greatest = plate.greatest; connectivity = plate.connectivity }
read_answer (Err refusal) = record { refusal = number_of refusal; width = 0; height = 0; greatest = 0; connectivity = 0 }

-- of the size list: also the number of nodes, the darkest grey, the grey held
abbrev pub sizes_answer : Result SizeList Refusal → SizeHead
sizes_answer (Ok list) = record {
  refusal = 0;
  width = list.plate.width;
  height = list.plate.height;
  greatest = list.plate.greatest;
  connectivity = list.plate.connectivity;
  nodes = list.nodes;
  darkest = list.darkest;
  held = list.held;
}
sizes_answer (Err refusal) = record {
  refusal = number_of refusal;
  width = 0;
  height = 0;
  greatest = 0;
  connectivity = 0;
  nodes = 0;
  darkest = 0;
  held = 0;
}
