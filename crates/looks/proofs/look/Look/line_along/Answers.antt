use Rattle.std.proofs.Common.{◌*◌, take, drop, ap, ◌∙◌, arith}
use Rattle.matrix.specs.Matrix.{row}
use Rattle.matrix.specs.Shapes.{form}
use Rattle.matrix.proofs.Along.{lies_along}
use Rattle.looks.proofs.Parts.{row_laid}
use Rattle.looks.proofs.look.Look.line_along.Goals as goal

pub returns-in-RowMajor-clause-line : goal.returns-in-RowMajor-clause-line
returns-in-RowMajor-clause-line g c =
    let xs = c.args.self.now.cells.now in
    let s = c.fitted-shape.result in
    ap (λ n. take n (drop (c.args.i * s.cols) xs)) (omega arith)
    ∙ row_laid (form s) c.args.i xs c.in-RowMajor.is (omega arith) c.fitted-shape.ensures.fits
    ∙ ap (row c.args.i) (lies_along c.args.axis (form c.args.self.now.shape) _ (form s) xs c.along.ensures.answer c.fitted-shape.ensures.answer)
