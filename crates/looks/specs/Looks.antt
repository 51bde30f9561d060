-- What a look means, and which part of its flat cells a line is.
use Rattle.std.specs.Prelude.{◌≡◌, ℕ, ◌*◌, cond, List, take, drop, Some, None, Option, nat_lt}
use Rattle.std.specs.Borrow.{Bor, RattleType}
use Rattle.std.specs.Ptr.{as_ptr, ptr_add}
use Rattle.matrix.specs.declared.shape.Order.{Order}
use Rattle.matrix.specs.declared.shape.Order.TheVariants.{RowMajor, ColumnMajor}
use Rattle.matrix.specs.Matrix.{Matrix, turned}
use Rattle.matrix.specs.Shapes.{form, other, held}
use Rattle.matrix.specs.declared.axis.Axis.{Axis}
use Rattle.matrix.specs.declared.axis.Axis.TheVariants.{Row, Col}
use Rattle.looks.specs.declared.look.Look.{Look}

abbrev pub matrix : {T : Type 0} → Look T → Matrix T
matrix l = held (form l.shape) l.cells.now

abbrev pub order : {T : Type 0} → Look T → Order
order l = l.shape.order

-- the C flat cells from place r × C on, where a row of that number lies in row-major order; absent in the other order and without such a row
abbrev pub row_part : {T : Type 0} → ℕ → Order → Matrix T → List T → Option (List T)
row_part r RowMajor m cells = cond (nat_lt r m.rows) (Some (take m.cols (drop (r * m.cols) cells))) None
row_part r ColumnMajor m cells = None

-- the column rule: the row rule on the matrix turned
abbrev pub col_part : {T : Type 0} → ℕ → Order → Matrix T → List T → Option (List T)
col_part c o m cells = row_part c (other o) (turned m) cells

abbrev pub part_along : {T : Type 0} → Axis → ℕ → Order → Matrix T → List T → Option (List T)
part_along Row i o m cells = row_part i o m cells
part_along Col i o m cells = col_part i o m cells

-- what a look has of the cells that it was made over: their first 65,536, or all where there are no more, and its order
pub record Over {T : Type 0} (o : Order) (lent : Bor (List T)) (l : Look T) : Type 0 where
  pub cells : l.cells.now ≡ take 65536 lent.now
  pub order : order l ≡ o
  pub memory : as_ptr l.cells ≡ as_ptr lent

-- the part begins n cells after the first of the flat cells, in their very memory
abbrev pub PartAt : (R : RattleType) → ℕ → Bor (List R.Denot) → Bor (List R.Denot) → Type 0
PartAt R n cells part = as_ptr part ≡ ptr_add R n (as_ptr cells)
