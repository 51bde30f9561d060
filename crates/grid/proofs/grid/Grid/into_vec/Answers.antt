use Rattle.matrix.specs.Shapes.{form}
use Rattle.matrix.proofs.Flats.{held_shown}
use Rattle.grid.proofs.grid.Grid.into_vec.Goals as goal

pub returns-clause-flat : goal.returns-clause-flat
returns-clause-flat g c = held_shown (form c.args.self.shape) c.args.self.cells.now
