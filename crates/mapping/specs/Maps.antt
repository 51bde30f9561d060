-- What a mapping of a matrix answers, and what it gives.
use Rattle.std.specs.Prelude.{ℕ, ◌*◌, Result, option_map, nat_lt}
use Rattle.cells.specs.declared.refusal.Refusal.{Refusal}
use Rattle.cells.specs.Refusals.{refused, accepted, answered}
use Rattle.matrix.specs.declared.axis.Axis.{Axis}
use Rattle.matrix.specs.declared.axis.Axis.TheVariants.{Row, Col}
use Rattle.matrix.specs.declared.shape.Order.{Order}
use Rattle.matrix.specs.declared.shape.Order.TheVariants.{RowMajor, ColumnMajor}
use Rattle.matrix.specs.Matrix.{Matrix, empty}
use Rattle.matrix.specs.Rules.{cell_limit}

-- f of each cell, at its place
abbrev pub mapped : {A B : Type 0} → (A → B) → Matrix A → Matrix B
mapped f m = record { rows = m.rows; cols = m.cols; cell = λ r c. option_map f (m.cell r c) }

-- A matrix is mapped into a memory of N cells.
abbrev pub map_answer : {T : Type 0} → ℕ → Matrix T → Result Unit Refusal
map_answer N m =
    refused 1 (nat_lt cell_limit N)
    (refused 8 (nat_lt N (m.rows * m.cols))
    accepted)

-- the cells answered, and nothing where the check refuses
abbrev pub map_ref : {A B : Type 0} → (A → B) → ℕ → Matrix A → Matrix B
map_ref f N m = answered (map_answer N m) (mapped f m) empty

-- the axis whose lines lie one after the other in flat cells
abbrev pub outer : Order → Axis
outer RowMajor = Row
outer ColumnMajor = Col
