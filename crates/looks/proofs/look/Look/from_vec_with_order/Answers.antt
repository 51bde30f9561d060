use Rattle.std.proofs.Common.{◌≡◌, take, refl, ap, ◌∙◌, arith}
use Rattle.matrix.specs.Shapes.{held}
use Rattle.matrix.proofs.Makes.{made_vec, vec_order}
use Rattle.matrix.proofs.Stretches.{take_clipped}
use Rattle.looks.proofs.look.Look.from_vec_with_order.Goals as goal

pub returns : goal.returns
returns g c =
    let xs = c.args.cells.now in
    let n = c.min.result in
    let e : take n xs ≡ take 65536 xs = take_clipped xs 65536 n (omega arith) in
    let shape = c.vec_shape-shape.ensures.answer in
    record {
      effect = ap (λ f. held f (take n xs)) shape ∙ made_vec c.args.order c.args.n c.args.cols xs (take n xs) e;
      over = record { cells = e; order = vec_order c.args.order _ c.args.n c.args.cols c.vec_shape-shape.result shape; memory = refl };
    }
