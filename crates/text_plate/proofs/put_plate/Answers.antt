-- `text_plate::put_plate` meets its contract: nothing is refused, and the record is the plate's, so what is listed is what the definition says.
use Rattle.std.proofs.Common.{◌≡◌, ◌≤◌, arith, length, length-take-le, sym, take}
use Rattle.meaning.specs.Record.{record_of}
use Rattle.theorems.proofs.Plates.{plate_some}
use Rattle.text_lines.proofs.Texts.{puts_puts}
use Rattle.text_plate.specs.Text.{four}
use Rattle.text_plate.proofs.Plates.{listed_low, listed-taken, listed_text, sizes_ok, written-bytes, written_ok, written-taken, written-within}
use Rattle.text_plate.proofs.put_plate.Goals as goal
use Rattle.text_plate.proofs.put_plate.Goals.{After-unwrap-size}

pub unwrap-size-requires : goal.unwrap-size-requires
unwrap-size-requires c =
    let r = c.requires in
    written_ok c.write_record.result (written-taken r.plate r.small (omega arith) (omega arith) c.write_record.ensures)

-- the record stands at the front of the output
same : (c : After-unwrap-size) → let a = c.args in take c.unwrap-size.result c.write_record.new.out ≡ record_of four a.width a.height a.greatest a.image.now
same c =
    let r = c.requires in
    written-bytes r.plate r.small (omega arith) (omega arith) (rw c.unwrap-size.ensures at c.write_record.ensures)

within : (c : After-unwrap-size) → c.unwrap-size.result ≤ length c.write_record.new.out
within c =
    let r = c.requires in
    written-within r.plate r.small (omega arith) (omega arith) (rw c.unwrap-size.ensures at c.write_record.ensures)

pub slice_bounds-bytes-end : goal.slice_bounds-bytes-end
slice_bounds-bytes-end c = within (goal.at.slice_bounds-bytes-end c).After-unwrap-size

pub slice_bounds-size_list-end : goal.slice_bounds-size_list-end
slice_bounds-size_list-end c = sym (length-take-le _ _ (within (goal.at.slice_bounds-size_list-end c).After-unwrap-size))

pub unwrap-list-requires : goal.unwrap-list-requires
unwrap-list-requires c =
    let r = c.requires in
    let e = same (goal.at.unwrap-list-requires c).After-unwrap-size in
    sizes_ok c.size_list.result (listed-taken r.plate r.small e (omega arith) (omega arith) (omega arith) c.size_list.ensures)

pub overflow_sub-image : goal.overflow_sub-image
overflow_sub-image c = plate_some c.requires.plate

pub put_held-requires : goal.put_held-requires
put_held-requires c = omega (arith, c.requires.room, plate_some c.requires.plate)

pub put_rest-requires-clause-room : goal.put_rest-requires-clause-room
put_rest-requires-clause-room c = omega (arith, c.requires.room, plate_some c.requires.plate)

pub put_rest-requires-clause-greatest_value : goal.put_rest-requires-clause-greatest_value
put_rest-requires-clause-greatest_value c =
    let r = c.requires in
    let e = same (goal.at.put_rest-requires-clause-greatest_value c).After-unwrap-size in
    listed_low r.plate r.small e (omega arith) (omega arith) (omega arith) (rw c.unwrap-list.ensures at c.size_list.ensures)

pub returns-clause-puts : goal.returns-clause-puts
returns-clause-puts c =
    let r = c.requires in
    let e = same (goal.at.returns-clause-puts c).After-unwrap-size in
    let text = listed_text r.plate r.small e (omega arith) (omega arith) (omega arith) (rw c.unwrap-list.ensures at c.size_list.ensures) in
    let lines = puts_puts (puts_puts c.put_head.ensures.puts c.put_sizes.ensures.puts) c.put_held.ensures.puts in
    rw text at (puts_puts lines c.put_rest.ensures.puts)

pub returns-clause-upper_bound : goal.returns-clause-upper_bound
returns-clause-upper_bound c = omega (arith, plate_some c.requires.plate)
