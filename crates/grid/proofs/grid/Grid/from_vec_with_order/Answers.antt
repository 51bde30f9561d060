use Rattle.std.proofs.Common.{ap, ◌∙◌}
use Rattle.matrix.specs.Shapes.{held}
use Rattle.matrix.proofs.Makes.{made_vec, limits_taken, vec_order}
use Rattle.grid.proofs.grid.Grid.from_vec_with_order.Goals as goal

pub returns : goal.returns
returns g c =
    let xs = c.args.cells.now in
    let ys = c.first_cells.result.now in
    let e = c.first_cells.ensures.cells in
    let shape = c.vec_shape-shape.ensures.answer in
    record {
      effect = ap (λ f. held f ys) shape ∙ made_vec c.args.order c.args.n c.args.cols xs ys e;
      over = record { limits = limits_taken xs ys e; order = vec_order c.args.order _ c.args.n c.args.cols c.vec_shape-shape.result shape; memory = c.first_cells.ensures.memory };
      cells = e;
    }
