-- What `write_cut_list` answers as the C function gives it, which the definitions of `WriteCutList` speak of: a refusal's number and zeros, or 0 and what
-- is given.
use Rattle.std.specs.Prelude.{Result, Ok, Err}
use Rattle.refusals.specs.declared.Refusal.{Refusal}
use Rattle.refusals.specs.Numbers.{number_of}
use Rattle.record_write_cut_list.specs.declared.CutList.{CutList}
use Rattle.record_write_cut_list.specs.declared.CutListed.{CutListed}

abbrev pub cut_list_answer : Result CutList Refusal → CutListed
cut_list_answer (Ok list) = record { refusal = 0; length = list.length; nodes = list.nodes; darkest = list.darkest; held = list.held }
cut_list_answer (Err refusal) = record { refusal = number_of refusal; length = 0; nodes = 0; darkest = 0; held = 0 }
