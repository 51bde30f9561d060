-- Flat cells along an axis: a call on the rows of the shape along the axis is the call along the axis.
use Rattle.std.proofs.Common.{◌≡◌, ◌*◌, ◌≤◌, List, length, refl, ap, ◌∙◌}
use Rattle.matrix.specs.declared.axis.Axis.{Axis}
use Rattle.matrix.specs.declared.axis.Axis.TheVariants.{Row, Col}
use Rattle.matrix.specs.Matrix.{Matrix}
use Rattle.matrix.specs.Shapes.{Form, laid, fitted, held}
use Rattle.matrix.specs.declared.limits.Limits.{Limits}
use Rattle.matrix.specs.Rules.{Within}
use Rattle.matrix.specs.Axes.{along, along_form}
use Rattle.matrix.proofs.Held.{held_turned, held_in, within_turned}

pub along_twice : {T : Type 0} (ax : Axis) (m : Matrix T) → along ax (along ax m) ≡ m
along_twice Row m = refl
along_twice Col m = refl

held_along : {T : Type 0} (ax : Axis) (f : Form) (xs : List T) → held (along_form ax f) xs ≡ along ax (held f xs)
held_along Row f xs = refl
held_along Col f xs = held_turned f xs

-- g is f along the axis, and t what of it the memory has room for
pub lies_along : {T : Type 0} (ax : Axis) (f g t : Form) (xs : List T) → g ≡ along_form ax f → t ≡ fitted (length xs) g → laid t xs ≡ along ax (held f xs)
lies_along ax f g t xs eg et = ap (λ z. laid z xs) et ∙ ap (λ z. held z xs) eg ∙ held_along ax f xs

-- b is n along the axis, and the memory has room for it
stands_along : {T : Type 0} (ax : Axis) (n b : Form) (ys : List T) → b ≡ along_form ax n → n.rows * n.cols ≤ length ys → held b ys ≡ along ax (laid n ys)
stands_along ax n b ys eb room = ap (λ z. held z ys) eb ∙ held_along ax n ys ∙ ap (along ax) (held_in n ys room)

-- xs lie in t as m along the axis, and ys in n as F makes of that: they are what F makes of m along the axis
pub changed_along : {T : Type 0} (F : Matrix T → Matrix T) (ax : Axis) (t n b : Form) (xs ys : List T) (m : Matrix T) → b ≡ along_form ax n → n.rows * n.cols ≤ length ys → laid n ys ≡ F (laid t xs) → laid t xs ≡ along ax m → held b ys ≡ along ax (F (along ax m))
changed_along F ax t n b xs ys m eb room done lies = stands_along ax n b ys eb room ∙ ap (along ax) (done ∙ ap F lies)

pub within_along : {T : Type 0} {l : Limits} {m : Matrix T} (ax : Axis) → Within l m → Within l (along ax m)
within_along Row w = w
within_along Col w = within_turned w
