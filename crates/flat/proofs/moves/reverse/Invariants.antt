use Rattle.std.proofs.Common.{◌+◌, ◌-◌, ◌*◌}
use Rattle.flat.specs.Moves.{Facing}
use Rattle.flat.proofs.moves.reverse.Given as goal

abbrev pub invariant-loop-k : goal.invariant-loop-k
invariant-loop-k g l = Facing l.initial.s l.s l.p (l.p + l.n - l.k * 8) (l.k * 8)

abbrev pub invariant-loop-k-2 : goal.invariant-loop-k-2
invariant-loop-k-2 g l = Facing l.fn.s l.s l.p (l.p + l.n - l.k) l.k
