use Rattle.grid.specs.Grids.{matrix}
use Rattle.walks.proofs.Takings.{Taken}
use Rattle.walks.proofs.lines.LinesWalk.take_from.Given as goal

abbrev pub invariant-loop-k : goal.invariant-loop-k
invariant-loop-k g l = Taken (matrix l.grid) l.ends l.initial.self l.self l.initial.lines l.lines l.k
