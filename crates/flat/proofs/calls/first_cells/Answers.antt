use Rattle.std.proofs.Common.{sym, arith, take_all}
use Rattle.flat.proofs.calls.first_cells.Goals as goal

pub returns-else-cells-gt-CELLS-clause-cells : goal.returns-else-cells-gt-CELLS-clause-cells
returns-else-cells-gt-CELLS-clause-cells g c = sym (take_all 65536 c.args.cells.now (omega arith))
