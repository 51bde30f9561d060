use Rattle.flat.proofs.Spaces.{Spaced}
use Rattle.flat.proofs.lines.space_lines.Given as goal

abbrev pub invariant-loop-c : goal.invariant-loop-c
invariant-loop-c g l = Spaced l.initial.s l.s l.cols l.rows l.i l.n l.x l.c
