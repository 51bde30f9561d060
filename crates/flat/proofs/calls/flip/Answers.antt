use Rattle.std.proofs.Common.{◌≡◌, length, sym, refl, ap, ◌∙◌, rules}
use Rattle.matrix.specs.Matrix.{flip_rows}
use Rattle.matrix.specs.Shapes.{form, fitted, held}
use Rattle.matrix.specs.Axes.{along, along_form}
use Rattle.matrix.proofs.Along.{along_twice, lies_along}
use Rattle.flat.proofs.calls.flip.Goals as goal

pub returns : goal.returns
returns g c =
    let a = c.args in
    let f = form a.shape in
    let ys = c.flip_lines.new.s in
    let whole : length a.s.now ≡ length ys = search rules in
    let lies = lies_along a.axis f _ _ ys refl (c.rows_along-shape.ensures.form ∙ ap (λ n. fitted n (along_form a.axis f)) whole) in
    record { effect = sym (along_twice a.axis (held f ys)) ∙ ap (along a.axis) (sym lies ∙ c.flip_lines.ensures.effect ∙ ap flip_rows c.rows_along-shape.ensures.lies) }
