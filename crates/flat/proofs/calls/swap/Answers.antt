use Rattle.std.proofs.Common.{◌≡◌, length, ap, ◌∙◌, refl, rules}
use Rattle.std.specs.List.{swap}
use Rattle.std.proofs.lemmas.List.Edits.{length-swap}
use Rattle.matrix.specs.Matrix.{swap_cells}
use Rattle.matrix.specs.Shapes.{form, fitted, laid, place}
use Rattle.matrix.proofs.Held.{swap_laid}
use Rattle.matrix.proofs.Whole.{inside_some}
use Rattle.flat.proofs.Helds.{stays}
use Rattle.flat.proofs.calls.swap.Goals as goal

pub returns-clause-effect : goal.returns-clause-effect
returns-clause-effect g c =
    let f = form c.args.shape in
    let xs = c.args.s.now in
    let ys = c.swap.new.self in
    let t = fitted (length xs) f in
    let a = c.args.a in
    let b = c.args.b in
    let j = c.in_ok-j.j in
    let k = c.in_ok-k.k in
    let swapped : ys ≡ swap xs j k = c.swap.ensures.after in
    let p = inside_some t.rows t.cols a.0 a.1 (place t.order t.rows t.cols a.0 a.1) j (search rules) in
    let q = inside_some t.rows t.cols b.0 b.1 (place t.order t.rows t.cols b.0 b.1) k (search rules) in
    stays (swap_cells a b) f t xs ys refl (ap length swapped ∙ length-swap xs j k)
    (ap (laid t) swapped ∙ swap_laid t xs a b j k p.0 p.1 p.2 (search rules) q.0 q.1 q.2 (search rules))
