use Rattle.matrix.proofs.Gather.{Gathered}
use Rattle.seating.specs.Lines.{line_spots}
use Rattle.seating.proofs.seating.lines.copy_line.Given as goal

abbrev pub invariant-loop-c : goal.invariant-loop-c
invariant-loop-c g l = Gathered l.s l.initial.x-items l.x-items (line_spots l.axis l.i l.seats) l.c
