use Rattle.std.proofs.Common.{◌+◌, ◌*◌}
use Rattle.mapping.proofs.Passes.{Passed}
use Rattle.mapping.proofs.map.answer_cells.Given as goal

abbrev pub invariant-loop-i : goal.invariant-loop-i
invariant-loop-i g l = Passed g.R.CellRule.rule l.source.cells.now l.fn.memory l.memory (l.o * l.across + l.i)

abbrev pub invariant-loop-o : goal.invariant-loop-o
invariant-loop-o g l = Passed g.R.CellRule.rule l.source.cells.now l.fn.memory l.memory (l.o * l.across)
