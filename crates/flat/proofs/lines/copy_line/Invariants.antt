use Rattle.std.proofs.Common.{◌+◌, ◌*◌}
use Rattle.matrix.proofs.Gather.{Gathered}
use Rattle.flat.proofs.lines.copy_line.Given as goal

abbrev pub invariant-loop-c : goal.invariant-loop-c
invariant-loop-c g l = Gathered l.s l.initial.x-items l.x-items (λ k. k * l.rows + l.i) l.c
