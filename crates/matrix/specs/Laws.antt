-- Laws of the definitions, at every kind of cell.
use Rattle.std.specs.Prelude.{◌≡◌, ℕ, ◌*◌, ◌<◌, ◌≤◌, List, length}
use Rattle.matrix.specs.Matrix.{Matrix, Shaped, put_cell, insert_row, insert_col, remove_row, remove_col, row, col, over, turned, flip_rows, flip_cols, rotate_left, rotate_right, rotate_half}
use Rattle.matrix.specs.Shapes.{Form, laid, held, turned_form, flat}

-- Turning twice is nothing, and each column rule is the row rule turned.
pub record Turns (T : Type 0) : Type 0 where
  pub twice : (m : Matrix T) → turned (turned m) ≡ m
  pub put : (r c : ℕ) (x : T) (m : Matrix T) → turned (put_cell r c x m) ≡ put_cell c r x (turned m)
  pub insert : (i : ℕ) (line : List T) (m : Matrix T) → insert_col i line m ≡ turned (insert_row i line (turned m))
  pub remove : (i : ℕ) (m : Matrix T) → remove_col i m ≡ turned (remove_row i (turned m))
  pub line : (i : ℕ) (m : Matrix T) → col i m ≡ row i (turned m)
  pub flip : (m : Matrix T) → flip_cols m ≡ turned (flip_rows (turned m))
  pub held : (f : Form) (xs : List T) → held (turned_form f) xs ≡ turned (held f xs)

-- What is put in comes out again, and what was taken out can be put back.
pub record Undone (T : Type 0) : Type 0 where
  pub matrix : (i : ℕ) (line : List T) (m : Matrix T) → Shaped m → (0 < m.rows → length line ≡ m.cols) → remove_row i (insert_row i line m) ≡ m
  pub line : (i : ℕ) (line : List T) (m : Matrix T) → row i (insert_row i line m) ≡ line
  pub back : (i : ℕ) (m : Matrix T) → Shaped m → i < m.rows → insert_row i (row i m) (remove_row i m) ≡ m

-- Flips undo themselves, and a rotation is a transposition and a flip.
pub record Mirrors (T : Type 0) : Type 0 where
  pub rows : (m : Matrix T) → Shaped m → flip_rows (flip_rows m) ≡ m
  pub cols : (m : Matrix T) → Shaped m → flip_cols (flip_cols m) ≡ m
  pub left : (m : Matrix T) → rotate_left m ≡ flip_rows (turned m)
  pub right : (m : Matrix T) → rotate_right m ≡ flip_cols (turned m)
  pub half : (m : Matrix T) → rotate_half m ≡ flip_rows (flip_cols m)

-- The cells of a matrix in flat order are those that the list began with.
abbrev pub Shown : Type 0 → Type 0
Shown T = (f : Form) (xs : List T) → f.rows * f.cols ≤ length xs → xs ≡ over (flat f.order (laid f xs)) xs
