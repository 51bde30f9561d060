use Rattle.matrix.specs.Shapes.{form}
use Rattle.matrix.proofs.Along.{lies_along}
use Rattle.flat.proofs.calls.rows_along.Goals as goal

pub returns-clause-lies : goal.returns-clause-lies
returns-clause-lies g c = lies_along c.args.axis (form c.args.shape) _ _ c.args.s.now c.along.ensures.answer c.fitted.ensures.answer
