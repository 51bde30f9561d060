use Rattle.flat.proofs.Flips.{Flipped, Mirrored}
use Rattle.flat.proofs.lines.flip_lines.Given as goal

abbrev pub invariant-loop-r : goal.invariant-loop-r
invariant-loop-r g l = Flipped l.initial.s l.s l.rows l.cols l.r

abbrev pub invariant-loop-c : goal.invariant-loop-c
invariant-loop-c g l = Mirrored l.initial.s l.s l.rows l.c
