-- How flat cells are read as a matrix.
use Rattle.std.specs.Prelude.{ℕ, ◌+◌, ◌-◌, ◌*◌, ◌/◌, ◌%◌, cond, List, length, nat_le}
use Rattle.std.specs.List.{slice_get}
use Rattle.matrix.specs.declared.shape.Order.{Order}
use Rattle.matrix.specs.declared.shape.Order.TheVariants.{RowMajor, ColumnMajor}
use Rattle.matrix.specs.declared.shape.Shape.{Shape}
use Rattle.matrix.specs.Matrix.{Matrix, inside, left_across, listed}

-- the rows, the columns and the order of a shape
pub record Form : Type 0 where
  pub rows : ℕ
  pub cols : ℕ
  pub order : Order

abbrev pub form : Shape → Form
form s = record { rows = s.rows; cols = s.cols; order = s.order }

-- The flat place of the cell (r, c) of an R × C matrix.
abbrev pub place : Order → ℕ → ℕ → ℕ → ℕ → ℕ
place RowMajor R C r c = r * C + c
place ColumnMajor R C r c = c * R + r

-- The matrix that a list of cells holds in a form.
abbrev pub laid : {T : Type 0} → Form → List T → Matrix T
laid f xs = record { rows = f.rows; cols = f.cols; cell = λ r c. inside f.rows f.cols r c (slice_get xs (place f.order f.rows f.cols r c)) }

-- R × C cells that lie row by row
abbrev pub rowwise : {T : Type 0} → ℕ → ℕ → List T → Matrix T
rowwise R C xs = laid (record { rows = R; cols = C; order = RowMajor }) xs

abbrev pub other : Order → Order
other RowMajor = ColumnMajor
other ColumnMajor = RowMajor

abbrev pub turned_form : Form → Form
turned_form f = record { rows = f.cols; cols = f.rows; order = other f.order }

abbrev pub vacant : Order → Form
vacant o = record { rows = 0; cols = 0; order = o }

-- the form when a row of n cells has come in, and when a row has gone
abbrev pub inserted_form : ℕ → Form → Form
inserted_form n f = record { rows = f.rows + 1; cols = n; order = f.order }

abbrev pub deleted_form : Form → Form
deleted_form f = record { rows = f.rows - 1; cols = left_across f.rows f.cols; order = f.order }

-- the form when n rows more have come
abbrev pub spaced_form : ℕ → Form → Form
spaced_form n f = record { rows = f.rows + n; cols = f.cols; order = f.order }

-- the form where n cells are enough for it, else the empty one
abbrev pub fitted : ℕ → Form → Form
fitted n f = cond (nat_le (f.rows * f.cols) n) f (vacant f.order)

-- What memory means under a shape: the matrix that it holds, and the empty one where it has too few cells.
abbrev pub held : {T : Type 0} → Form → List T → Matrix T
held f xs = laid (fitted (length xs) f) xs

-- The cells of a matrix in flat order.
abbrev pub flat : {T : Type 0} → Order → Matrix T → List T
flat RowMajor m = listed (m.rows * m.cols) (λ k. m.cell (k / m.cols) (k % m.cols))
flat ColumnMajor m = listed (m.rows * m.cols) (λ k. m.cell (k % m.rows) (k / m.rows))
