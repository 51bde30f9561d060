use Rattle.std.proofs.Common.{length, ap, ◌∙◌, arith}
use Rattle.matrix.specs.Matrix.{filled}
use Rattle.matrix.specs.Rules.{grid_limits}
use Rattle.matrix.specs.Shapes.{held}
use Rattle.matrix.proofs.Makes.{made_new, limits_taken, new_order}
use Rattle.grid.proofs.grid.Grid.init_with_order.Goals as goal

pub returns : goal.returns
returns g c =
    let xs = c.args.cells.now in
    let first = c.first_cells-first.result.now in
    let e = c.first_cells-first.ensures.cells in
    let shape = c.new_shape-shape.ensures.answer in
    record {
      effect = c.fill.ensures.effect ∙ ap (λ f. filled (held f first).rows (held f first).cols c.args.x) shape ∙ made_new c.args.order c.args.rows c.args.cols c.args.x xs first e;
      over = record { limits = ap grid_limits (omega arith) ∙ limits_taken xs first e; order = new_order c.args.order (length xs) c.args.rows c.args.cols c.new_shape-shape.result shape; memory = c.first_cells-first.ensures.memory };
    }
