use Rattle.std.proofs.Common.{◌-◌, refl, ap, ◌∙◌, arith}
use Rattle.matrix.specs.Matrix.{remove_row}
use Rattle.matrix.specs.Shapes.{form, laid, deleted_form}
use Rattle.flat.proofs.Deletes.{removed_outer}
use Rattle.flat.proofs.Orders.{in_row_major, in_column_major}
use Rattle.flat.proofs.lines.delete_line.Goals as goal
use Rattle.flat.proofs.lines.delete_line.Goals.{in-RowMajor, in-ColumnMajor}

pub returns-clause-effect : goal.returns-clause-effect
returns-clause-effect g c =
    let f = form c.args.shape in
    let xs = c.args.s.now in
    let i = c.args.i in
    ap (λ k. laid (record { rows = f.rows - 1; cols = k; order = f.order }) c.match-shape.s) c.left_across.ensures.answer ∙ elim c.match-shape.branch [
      | in-RowMajor w ↦ ap (laid (deleted_form f)) w.s-is
          ∙ in_row_major (remove_row i) f (deleted_form f) xs _ w.in-RowMajor.is refl (removed_outer xs _ f.rows f.cols i (omega arith) w.slide.ensures.effect)
      | in-ColumnMajor w ↦ ap (laid (deleted_form f)) w.s-is ∙ in_column_major (remove_row i) f (deleted_form f) xs _ w.in-ColumnMajor.is refl w.narrow.ensures.effect
    ]
