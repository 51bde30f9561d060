use Rattle.walks.proofs.Readings.{Read}
use Rattle.walks.proofs.walk.read.Given as goal

abbrev pub invariant-loop-k : goal.invariant-loop-k
invariant-loop-k g l = Read g.W.Walk.moved l.initial.walk l.walk (g.W.Walk.ahead l.initial.walk l.grid) (g.W.Walk.ahead l.walk l.grid) l.initial.memory l.memory l.k
