use Rattle.std.proofs.Common.{rules}
use Rattle.matrix.specs.Matrix.{insert_row}
use Rattle.matrix.specs.Shapes.{form}
use Rattle.matrix.proofs.Along.{changed_along}
use Rattle.flat.proofs.calls.insert.Goals as goal

pub returns-clause-effect : goal.returns-clause-effect
returns-clause-effect g c =
    let a = c.args in
    changed_along (insert_row a.i a.line.now) a.axis _ (form c.insert_line.result) _ _ _ _ c.along.ensures.answer (search rules) c.insert_line.ensures.effect c.rows_along-shape.ensures.lies
