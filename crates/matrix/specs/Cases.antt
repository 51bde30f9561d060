-- Small sheets worked by hand. A is 1 2 3 / 4 5 6.
use Rattle.std.specs.Prelude.{◌≡◌, ℕ, List, [], ◌∷◌, Ok, Err}
use Rattle.cells.specs.Refusals.{numbered}
use Rattle.matrix.specs.declared.shape.Order.TheVariants.{RowMajor, ColumnMajor}
use Rattle.matrix.specs.Matrix.{Matrix, empty, insert_row, remove_row, row, rotate_right}
use Rattle.matrix.specs.Shapes.{laid, other, flat}
use Rattle.matrix.specs.Rules.{grid_limits, insert_row_answer, from_vec_answer, from_vec}

abbrev across : List ℕ
across = 1 ∷ 2 ∷ 3 ∷ 4 ∷ 5 ∷ 6 ∷ []

abbrev down : List ℕ
down = 1 ∷ 4 ∷ 2 ∷ 5 ∷ 3 ∷ 6 ∷ []

-- A read from flat cells in either order
abbrev a_row_major : Matrix ℕ
a_row_major = laid (record { rows = 2; cols = 3; order = RowMajor }) across

abbrev a_column_major : Matrix ℕ
a_column_major = laid (record { rows = 2; cols = 3; order = ColumnMajor }) down

abbrev line : List ℕ
line = 7 ∷ 8 ∷ 9 ∷ []

pub record Cases : Type 0 where
  pub inserted_row_major : flat RowMajor (insert_row 1 line a_row_major) ≡ 1 ∷ 2 ∷ 3 ∷ 7 ∷ 8 ∷ 9 ∷ 4 ∷ 5 ∷ 6 ∷ []
  pub inserted_column_major : flat ColumnMajor (insert_row 1 line a_column_major) ≡ 1 ∷ 7 ∷ 4 ∷ 2 ∷ 8 ∷ 5 ∷ 3 ∷ 9 ∷ 6 ∷ []
  pub removed_line : row 0 a_column_major ≡ 1 ∷ 2 ∷ 3 ∷ []
  pub removed_rest : flat ColumnMajor (remove_row 0 a_column_major) ≡ 4 ∷ 5 ∷ 6 ∷ []
  pub rotated : flat (other RowMajor) (rotate_right a_row_major) ≡ 4 ∷ 5 ∷ 6 ∷ 1 ∷ 2 ∷ 3 ∷ []
  pub rotated_rows : (rotate_right a_row_major).rows ≡ 3
  pub rotated_cols : (rotate_right a_row_major).cols ≡ 2
  pub at_the_end : insert_row_answer (grid_limits 9) 2 line a_row_major ≡ Ok tt
  pub past_the_end : insert_row_answer (grid_limits 9) 3 line a_row_major ≡ Err (numbered 6)
  pub no_cells : from_vec RowMajor 0 7 across ≡ empty
  pub no_cells_taken : from_vec_answer 6 0 7 ≡ Ok tt
  pub no_columns : from_vec_answer 6 4 0 ≡ Err (numbered 2)
  pub full : insert_row_answer (grid_limits 8) 0 line a_row_major ≡ Err (numbered 8)
  pub room_again : insert_row_answer (grid_limits 8) 0 line (remove_row 0 a_row_major) ≡ Ok tt
