use Rattle.std.proofs.Common.{◌*◌, drop, sym, ap, ◌∙◌, arith}
use Rattle.matrix.specs.Matrix.{filled}
use Rattle.matrix.specs.Shapes.{Form, form}
use Rattle.matrix.proofs.Cells.{drop_ext}
use Rattle.flat.proofs.Helds.{stays, filled_laid}
use Rattle.flat.proofs.calls.fill.Goals as goal

pub returns : goal.returns
returns g c =
    let f = form c.args.shape in
    let t = form c.fitted-shape.result in
    let done = c.fill_part.ensures.effect in
    let xs = c.args.s.now in
    let ys = c.fill_part.new.s in
    let e = c.fitted-shape.ensures.answer in
    record {
      effect = stays (λ m. filled m.rows m.cols c.args.x) f t xs ys e done.len (filled_laid t xs ys c.args.x done);
      past = ap (λ (z : Form). drop (z.rows * z.cols) ys) (sym e) ∙ drop_ext (t.rows * t.cols) ys xs done.len (λ k h. done.above k (omega arith)) ∙ ap (λ (z : Form). drop (z.rows * z.cols) xs) e;
    }
