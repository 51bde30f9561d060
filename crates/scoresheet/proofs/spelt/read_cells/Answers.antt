use Rattle.std.proofs.Common.{rules}
use Rattle.scoresheet.proofs.Gains.{gained_more, cells_none, cells_short}
use Rattle.scoresheet.proofs.spelt.read_cells.Goals as goal

-- a word spells no cell
pub returns-in_err-cell : goal.returns-in_err-cell
returns-in_err-cell g c = record { read = cells_none _ _ _ (search rules) _ _ _ _ _ _ c.loop-at.invariant c.read.ensures.cell (search rules) (search rules) }

-- there is no memory for a cell
pub returns-in_err-push : goal.returns-in_err-push
returns-in_err-push g c = record { read = cells_short _ _ _ _ _ _ _ _ c.loop-at.invariant c.in_err-push.ensures.items c.from_residual-in_err-push.ensures.1 }

pub loop-at-preserved : goal.loop-at-preserved
loop-at-preserved g c = gained_more _ _ _ (search rules) _ _ _ _ _ _ c.loop-at.invariant c.read.ensures.cell (search rules) c.in_ok-push.ensures.items
