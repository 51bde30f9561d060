use Rattle.std.proofs.Common.{length, refl, ap, ◌∙◌, arith}
use Rattle.matrix.specs.Shapes.{form, laid, inserted_form}
use Rattle.flat.proofs.Inserts.{inserted_outer}
use Rattle.flat.proofs.Orders.{inserted_row_major, inserted_column_major}
use Rattle.flat.proofs.lines.insert_line.Goals as goal
use Rattle.flat.proofs.lines.insert_line.Goals.{in-RowMajor, in-ColumnMajor}

pub returns-clause-effect : goal.returns-clause-effect
returns-clause-effect g c =
    let f = form c.args.shape in
    let xs = c.args.s.now in
    let line = c.args.line.now in
    let i = c.args.i in
    elim c.match-shape.branch [
      | in-RowMajor w ↦ ap (laid (inserted_form (length line) f)) w.s-is
          ∙ inserted_row_major f i xs _ line c.requires.fits w.in-RowMajor.is (inserted_outer xs _ _ line f.rows (length line) i (omega arith) refl w.slide.ensures.effect w.copy.ensures.effect)
      | in-ColumnMajor w ↦ ap (laid (inserted_form (length line) f)) w.s-is ∙ inserted_column_major f i xs _ line c.requires.fits w.in-ColumnMajor.is w.widen.ensures.effect
    ]
