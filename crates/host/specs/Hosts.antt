-- What a host program means by its numbers, and the number that answers it.
use Rattle.std.specs.Prelude.{◌≡◌, ℕ, cond, List, length, Ok, Err, Result, ◌==◌}
use Rattle.cells.specs.declared.refusal.Refusal.{Refusal}
use Rattle.cells.specs.Refusals.{number, answered}
use Rattle.matrix.specs.declared.shape.Order.{Order}
use Rattle.matrix.specs.declared.shape.Order.TheVariants.{RowMajor, ColumnMajor}
use Rattle.matrix.specs.Matrix.{Matrix}
use Rattle.matrix.specs.Shapes.{held}
use Rattle.matrix.specs.Makings.{new_form}
use Rattle.matrix.specs.Rules.{new_answer}

abbrev pub ordered : ℕ → Order
ordered n = cond (n == 0) RowMajor ColumnMajor

-- the matrix that a host's numbers mean over its cells: the empty one where no grid is made of them
abbrev pub hosted : {T : Type 0} → ℕ → ℕ → ℕ → List T → Matrix T
hosted rows cols order xs = held (new_form (length xs) rows cols (ordered order)) xs

-- The cells mean this matrix to a host that gives its size.
abbrev pub Means : {T : Type 0} → ℕ → List T → Matrix T → Type 0
Means order xs m = hosted m.rows m.cols order xs ≡ m

-- the answer of a call on a grid of n cells: what its making is refused for comes first
abbrev pub said : ℕ → ℕ → ℕ → Result Unit Refusal → Result Unit Refusal
said n rows cols rest = answered (new_answer n rows cols) rest (new_answer n rows cols)

-- 0 for yes, else the number of the refusal
abbrev pub code : {A : Type 0} → Result A Refusal → ℕ
code (Ok _) = 0
code (Err e) = number e

-- What stands after a call that answered n: `done` if it was accepted, `same` if it was refused.
abbrev pub coded : {X : Type 0} → ℕ → X → X → X
coded n done same = cond (n == 0) done same
