use Rattle.std.proofs.Common.{◌≡◌, ◌++◌}
use Rattle.scoresheet.specs.Unrolls.{row_asked, cells_asked}
use Rattle.scoresheet.proofs.script.Plan.ask_cells.Given as goal

-- the places of the row so far
abbrev pub invariant-loop-c : goal.invariant-loop-c
invariant-loop-c g l = (l.self.items ≡ l.initial.self.items) × (l.self.pool ≡ l.initial.self.pool) × (l.self.calls.items ≡ l.initial.self.calls.items ++ row_asked l.r l.c)

-- the rows so far
abbrev pub invariant-loop-r : goal.invariant-loop-r
invariant-loop-r g l = (l.self.items ≡ l.initial.self.items) × (l.self.pool ≡ l.initial.self.pool) × (l.self.calls.items ≡ l.initial.self.calls.items ++ cells_asked l.r l.cols)
