-- What every board owes, shown of the grid.
use Rattle.matrix.specs.Rules.{Within}
use Rattle.matrix.proofs.Held.{held_within}
use Rattle.grid.specs.declared.grid.Grid.{Grid}
use Rattle.grid.specs.Grids.{matrix, limits}

pub grid_within : {T : Type 0} (g : Grid T) → Within (limits g) (matrix g)
grid_within g = held_within g.shape g.cells.now
