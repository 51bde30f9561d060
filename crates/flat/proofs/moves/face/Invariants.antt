use Rattle.std.proofs.Common.{reverse}
use Rattle.flat.specs.Moves.{Copied}
use Rattle.flat.proofs.moves.face.Given as goal

abbrev pub invariant-loop-k : goal.invariant-loop-k
invariant-loop-k g l = Copied l.initial.first l.first l.s l.p 0 l.k × Copied l.initial.second l.second l.s l.q 0 l.k

abbrev pub invariant-loop-k-2 : goal.invariant-loop-k-2
invariant-loop-k-2 g l = Copied l.initial.s l.s (reverse l.second) 0 l.p l.k

abbrev pub invariant-loop-k-3 : goal.invariant-loop-k-3
invariant-loop-k-3 g l = Copied l.initial.s l.s (reverse l.first) 0 l.q l.k
