use Rattle.grid.specs.Grids.{matrix}
use Rattle.grid.proofs.Sames.{SameRow, SameRows}
use Rattle.grid.proofs.grid.Grid.same.Given as goal

abbrev pub invariant-loop-r : goal.invariant-loop-r
invariant-loop-r g l = SameRows (matrix l.self) (matrix l.other) l.cols l.r

abbrev pub invariant-loop-c : goal.invariant-loop-c
invariant-loop-c g l = SameRow (matrix l.self) (matrix l.other) l.c l.r
