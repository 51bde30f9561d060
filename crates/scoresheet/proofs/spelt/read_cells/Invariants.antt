use Rattle.std.proofs.Common.{take}
use Rattle.listing.specs.Calls.{texts}
use Rattle.scoresheet.specs.Cells.{Gained}
use Rattle.scoresheet.proofs.spelt.read_cells.Given as goal

-- the cells of the words so far
abbrev pub invariant-loop-at : goal.invariant-loop-at
invariant-loop-at g l = Gained g.T.Written.spells (take l.at (texts l.words)) l.initial.cells.items l.cells.items
