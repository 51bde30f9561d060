use Rattle.std.proofs.Common.{◌≡◌, ℕ, refl, ap, ◌∙◌, subst, arith}
use Rattle.matrix.specs.Matrix.{space_rows}
use Rattle.matrix.specs.Shapes.{form, laid, spaced_form}
use Rattle.flat.proofs.Spaces.{Spaced, spaced_turn, spaced_all, spaced_outer}
use Rattle.flat.proofs.Orders.{in_row_major, in_column_major}
use Rattle.flat.proofs.lines.space_lines.Goals as goal
use Rattle.flat.proofs.lines.space_lines.Goals.{in-RowMajor, in-ColumnMajor+else-loop-c-test}

pub loop-c-preserved : goal.loop-c-preserved
loop-c-preserved g c = spaced_turn _ _ _ _ _ _ _ c.loop-c.c c.args.x (omega arith) (omega arith) c.loop-c.invariant c.part-in-loop-c.ensures.effect

pub returns-clause-effect : goal.returns-clause-effect
returns-clause-effect g c =
    let f = form c.args.shape in
    let xs = c.args.s.now in
    let i = c.args.i in
    let n = c.args.n in
    let x = c.args.x in
    elim c.match-shape.branch [
      | in-RowMajor w ↦ ap (laid (spaced_form n f)) w.s-is
          ∙ in_row_major (space_rows i n x) f (spaced_form n f) xs _ w.in-RowMajor.is refl (spaced_outer xs _ f.rows f.cols i n x (omega arith) w.part.ensures.effect)
      | in-ColumnMajor+else-loop-c-test w ↦
          let none : w.loop-c.c ≡ 0 = omega arith in
          ap (laid (spaced_form n f)) w.s-is
          ∙ in_column_major (space_rows i n x) f (spaced_form n f) xs _ w.in-ColumnMajor.is refl
          (spaced_all xs _ f.cols f.rows i n x (omega arith) (subst (λ (k : ℕ). Spaced xs w.loop-c.s f.cols f.rows i n x k) none w.loop-c.invariant))
    ]
