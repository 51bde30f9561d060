use Rattle.matrix.proofs.Longer.{SoFar}
use Rattle.uses.specs.Lists.{next, reply}
use Rattle.uses.proofs.lists.runs.run.Given as goal

abbrev pub invariant-loop-k : goal.invariant-loop-k
invariant-loop-k g l = SoFar (λ m. next m l.lines) (λ m. reply m l.lines) (g.B.Board.limits l.initial.b) (g.B.Board.limits l.b) l.calls (record { matrix = g.B.Board.matrix l.initial.b; memory = l.initial.memory }) (record { matrix = g.B.Board.matrix l.b; memory = l.memory }) l.initial.answers l.answers l.k
