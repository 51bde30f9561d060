-- The form of a grid that is made.
use Rattle.std.specs.Prelude.{ℕ, ◌/◌, cond, ◌||◌, ◌==◌}
use Rattle.cells.specs.Refusals.{answered}
use Rattle.matrix.specs.declared.shape.Order.{Order}
use Rattle.matrix.specs.Shapes.{Form, vacant}
use Rattle.matrix.specs.Rules.{from_vec_answer, new_answer}

abbrev pub from_vec_form : ℕ → ℕ → ℕ → Order → Form
from_vec_form N n cols o = answered (from_vec_answer N n cols) (cond (n == 0) (vacant o) (record { rows = n / cols; cols = cols; order = o })) (vacant o)

abbrev pub new_form : ℕ → ℕ → ℕ → Order → Form
new_form N rows cols o = answered (new_answer N rows cols) (cond (rows == 0 || cols == 0) (vacant o) (record { rows = rows; cols = cols; order = o })) (vacant o)
