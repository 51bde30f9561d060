use Rattle.std.proofs.Common.{rules}
use Rattle.matrix.specs.Matrix.{remove_row}
use Rattle.matrix.specs.Shapes.{form}
use Rattle.matrix.proofs.Along.{changed_along}
use Rattle.flat.proofs.calls.remove.Goals as goal

pub returns-clause-effect : goal.returns-clause-effect
returns-clause-effect g c =
    let a = c.args in
    changed_along (remove_row a.i) a.axis _ (form c.delete_line.result) _ _ _ _ c.along.ensures.answer (search rules) c.delete_line.ensures.effect c.rows_along-shape.ensures.lies
