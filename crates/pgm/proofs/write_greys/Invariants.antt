-- The greys that are written so far are pasted over the front of the output.
use Rattle.pgm.specs.File.{greys_of}
use Rattle.pgm.proofs.Writing.{Writing}
use Rattle.pgm.proofs.write_greys.Given as goal

abbrev pub invariant-loop-p : goal.invariant-loop-p
invariant-loop-p l = Writing (greys_of l.greatest l.raster) l.initial.place-items l.p l.place-items
