use Rattle.seating.specs.Lines.{Written, line_spots}
use Rattle.seating.proofs.seating.lines.write_line.Given as goal

abbrev pub invariant-loop-c : goal.invariant-loop-c
invariant-loop-c g l = Written (line_spots l.axis l.i l.seats) l.line l.c l.initial.s l.s
