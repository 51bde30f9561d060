-- From cells that lie in a form to what memory means under a shape.
use Rattle.std.proofs.Common.{◌≡◌, ◌+◌, ◌*◌, List, length, Some, sym, refl, ap, ◌∙◌, arith}
use Rattle.std.specs.List.{slice_get}
use Rattle.matrix.specs.Matrix.{Matrix, inside, filled}
use Rattle.matrix.specs.Shapes.{Form, place, laid, fitted, held}
use Rattle.matrix.proofs.Whole.{same_inside, whole_inside}
use Rattle.matrix.proofs.Held.{place_below}
use Rattle.flat.specs.Moves.{Filled}

-- the form stays
pub stays : {T : Type 0} (F : Matrix T → Matrix T) (f g : Form) (xs ys : List T) → g ≡ fitted (length xs) f → length ys ≡ length xs → laid g ys ≡ F (laid g xs) → held f ys ≡ F (held f xs)
stays F f g xs ys e l p = ap (λ n. laid (fitted n f) ys) l ∙ ap (λ z. laid z ys) (sym e) ∙ p ∙ ap (λ z. F (laid z xs)) e

pub filled_laid : {T : Type 0} (g : Form) (xs ys : List T) (x : T) → Filled xs ys 0 (g.rows * g.cols) x → laid g ys ≡ filled g.rows g.cols x
filled_laid {T} g xs ys x p =
    same_inside (laid g ys) (filled g.rows g.cols x)
    (whole_inside g.rows g.cols (λ r c. slice_get ys (place g.order g.rows g.cols r c)))
    (whole_inside g.rows g.cols (λ r c. Some x))
    refl refl
    (λ r c hr hc.
    let k = place g.order g.rows g.cols r c in
    let e : k ≡ 0 + k = omega arith in
    ap (inside g.rows g.cols r c) (ap (slice_get ys) e ∙ p.filled k (place_below g.order g.rows g.cols r c hr hc)))
