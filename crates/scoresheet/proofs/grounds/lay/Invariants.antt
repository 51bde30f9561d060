use Rattle.matrix.proofs.Longer.{SoFar}
use Rattle.scoresheet.specs.Rows.{row_said, row_laid}
use Rattle.scoresheet.proofs.grounds.lay.Given as goal

abbrev pub invariant-loop-k : goal.invariant-loop-k
invariant-loop-k g l = SoFar (λ m. row_laid m l.cells) (λ m. row_said m l.cells) (g.B.Board.limits l.initial.board) (g.B.Board.limits l.board) l.rows (g.B.Board.matrix l.initial.board) (g.B.Board.matrix l.board) l.initial.starts l.starts l.k
