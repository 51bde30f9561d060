use Rattle.std.proofs.Common.{length, ap, ◌∙◌, refl, length-set, rules}
use Rattle.matrix.specs.Matrix.{put_cell}
use Rattle.matrix.specs.Shapes.{form, fitted, laid, place}
use Rattle.matrix.proofs.Held.{put_laid}
use Rattle.matrix.proofs.Whole.{inside_some}
use Rattle.flat.proofs.Helds.{stays}
use Rattle.flat.proofs.calls.put.Goals as goal

pub returns-clause-effect : goal.returns-clause-effect
returns-clause-effect g c =
    let f = form c.args.shape in
    let xs = c.args.s.now in
    let ys = c.poke.new.s in
    let t = fitted (length xs) f in
    let r = c.args.r in
    let col = c.args.c in
    let k = c.in_ok-k.k in
    let written = c.poke.ensures.effect in
    let p = inside_some t.rows t.cols r col (place t.order t.rows t.cols r col) k (search rules) in
    stays (put_cell r col c.args.x) f t xs ys refl (ap length written ∙ length-set xs _ c.args.x)
    (ap (laid t) written ∙ put_laid t xs r col k c.args.x p.0 p.1 p.2 (search rules))
