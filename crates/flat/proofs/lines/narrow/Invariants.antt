use Rattle.flat.proofs.Deletes.{Closed}
use Rattle.flat.proofs.lines.narrow.Given as goal

abbrev pub invariant-loop-c : goal.invariant-loop-c
invariant-loop-c g l = Closed l.initial.s l.s l.lines l.n l.i l.c
