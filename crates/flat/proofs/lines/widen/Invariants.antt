use Rattle.flat.proofs.Inserts.{Opened}
use Rattle.flat.proofs.lines.widen.Given as goal

abbrev pub invariant-loop-c : goal.invariant-loop-c
invariant-loop-c g l = Opened l.initial.s l.s l.line l.lines l.n l.i l.c
