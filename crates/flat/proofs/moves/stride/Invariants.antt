use Rattle.std.proofs.Common.{◌-◌}
use Rattle.flat.proofs.Stretches.{Strode}
use Rattle.flat.proofs.moves.stride.Given as goal

abbrev pub invariant-loop-done : goal.invariant-loop-done
invariant-loop-done g l = Strode l.initial.s l.s l.from l.to l.n l.done

abbrev pub decreases-loop-done : goal.decreases-loop-done
decreases-loop-done g l = l.n - l.done
