-- The rules of lines along an axis: those of rows, and those of columns as rows of the matrix turned.
use Rattle.std.specs.Prelude.{ℕ, List, Result}
use Rattle.cells.specs.declared.refusal.Refusal.{Refusal}
use Rattle.matrix.specs.declared.limits.Limits.{Limits}
use Rattle.matrix.specs.Matrix.{Matrix, turned, insert_row, expand_rows, prepend_rows, remove_row, row, flip_rows}
use Rattle.matrix.specs.Shapes.{Form, turned_form}
use Rattle.matrix.specs.Rules.{insert_row_answer, more_rows_answer, remove_row_answer, delete_row_answer}
use Rattle.matrix.specs.declared.axis.Axis.{Axis}
use Rattle.matrix.specs.declared.axis.Axis.TheVariants.{Row, Col}

-- rows for columns
abbrev pub other : Axis → Axis
other Row = Col
other Col = Row

-- the axis that one is beneath, where the rows are lines along `facing`
abbrev pub beneath : Axis → Axis → Axis
beneath Row ax = ax
beneath Col ax = other ax

-- of a row's and a column's, the one along the axis first
abbrev pub pair : {A : Type 0} → Axis → A → A → A × A
pair Row a b = (a, b)
pair Col a b = (b, a)

abbrev pub along : {T : Type 0} → Axis → Matrix T → Matrix T
along Row m = m
along Col m = turned m

abbrev pub along_form : Axis → Form → Form
along_form Row f = f
along_form Col f = turned_form f

abbrev pub inserted : {T : Type 0} → Axis → ℕ → List T → Matrix T → Matrix T
inserted ax i line m = along ax (insert_row i line (along ax m))

abbrev pub expanded : {T : Type 0} → Axis → ℕ → T → Matrix T → Matrix T
expanded ax n x m = along ax (expand_rows n x (along ax m))

abbrev pub prepended : {T : Type 0} → Axis → ℕ → T → Matrix T → Matrix T
prepended ax n x m = along ax (prepend_rows n x (along ax m))

abbrev pub removed : {T : Type 0} → Axis → ℕ → Matrix T → Matrix T
removed ax i m = along ax (remove_row i (along ax m))

abbrev pub line_of : {T : Type 0} → Axis → ℕ → Matrix T → List T
line_of ax i m = row i (along ax m)

abbrev pub flipped : {T : Type 0} → Axis → Matrix T → Matrix T
flipped ax m = along ax (flip_rows (along ax m))

abbrev pub insert_along : {T : Type 0} → Limits → Axis → ℕ → List T → Matrix T → Result Unit Refusal
insert_along l ax i line m = insert_row_answer l i line (along ax m)

abbrev pub more_along : {T : Type 0} → Limits → Axis → ℕ → Matrix T → Result Unit Refusal
more_along l ax n m = more_rows_answer l n (along ax m)

abbrev pub remove_along : {T : Type 0} → Axis → ℕ → List T → Matrix T → Result Unit Refusal
remove_along ax i memory m = remove_row_answer i memory (along ax m)

abbrev pub delete_along : {T : Type 0} → Axis → ℕ → Matrix T → Result Unit Refusal
delete_along ax i m = delete_row_answer i (along ax m)
