-- What each call answers: the first refusal that holds in the order of its number, or yes.
use Rattle.std.specs.Prelude.{ℕ, ◌+◌, ◌*◌, ◌/◌, ◌%◌, ◌≤◌, min, cond, not, ◌&&◌, ◌||◌, List, length, Result, ◌==◌, nat_le, nat_lt}
use Rattle.cells.specs.declared.refusal.Refusal.{Refusal}
use Rattle.cells.specs.Refusals.{refused, accepted, answered}
use Rattle.matrix.specs.declared.shape.Order.{Order}
use Rattle.matrix.specs.declared.limits.Limits.{Limits}
use Rattle.matrix.specs.Matrix.{Matrix, Shaped, empty, filled, turned}
use Rattle.matrix.specs.Shapes.{laid}

-- No board has a side or a count of cells above these.
abbrev pub side_limit : ℕ
side_limit = 256

abbrev pub cell_limit : ℕ
cell_limit = 65536

-- What every board owes: limits within those, and a matrix within its limits.
pub record Within {T : Type 0} (l : Limits) (m : Matrix T) : Type 0 where
  pub shaped : Shaped m
  pub side : l.side ≤ side_limit
  pub most : l.most ≤ cell_limit
  pub tall : m.rows ≤ l.side
  pub wide : m.cols ≤ l.side
  pub room : m.rows * m.cols ≤ l.most

-- the limits of a grid over n cells of memory
abbrev pub grid_limits : ℕ → Limits
grid_limits n = record { side = side_limit; most = min n cell_limit }

-- a line of n cells goes in at i, where `count` lines of `across` cells stand
abbrev pub insert_answer : Limits → ℕ → ℕ → ℕ → ℕ → Result Unit Refusal
insert_answer l i n count across =
    refused 4 (n == 0)
    (refused 5 (not (count == 0) && not (n == across))
    (refused 6 (nat_lt count i)
    (refused 7 (nat_lt l.side (count + 1) || nat_lt l.side n)
    (refused 8 (nat_lt l.most ((count + 1) * n))
    accepted))))

abbrev pub insert_row_answer : {T : Type 0} → Limits → ℕ → List T → Matrix T → Result Unit Refusal
insert_row_answer l i line m = insert_answer l i (length line) m.rows m.cols

abbrev pub insert_col_answer : {T : Type 0} → Limits → ℕ → List T → Matrix T → Result Unit Refusal
insert_col_answer l i line m = insert_row_answer l i line (turned m)

-- n lines more to `count` lines of `across` cells; for no lines, and in an empty matrix, nothing is done and nothing refused
abbrev pub more_answer : Limits → ℕ → ℕ → ℕ → Result Unit Refusal
more_answer l n count across =
    cond (n == 0 || across == 0) accepted
    (refused 7 (nat_lt l.side (count + n))
    (refused 8 (nat_lt l.most ((count + n) * across))
    accepted))

abbrev pub more_rows_answer : {T : Type 0} → Limits → ℕ → Matrix T → Result Unit Refusal
more_rows_answer l n m = more_answer l n m.rows m.cols

abbrev pub more_cols_answer : {T : Type 0} → Limits → ℕ → Matrix T → Result Unit Refusal
more_cols_answer l n m = more_rows_answer l n (turned m)

-- line i of `count` goes out into n cells of memory
abbrev pub remove_answer : ℕ → ℕ → ℕ → ℕ → Result Unit Refusal
remove_answer i n count across =
    refused 6 (nat_le count i)
    (refused 9 (nat_lt n across)
    accepted)

abbrev pub remove_row_answer : {T : Type 0} → ℕ → List T → Matrix T → Result Unit Refusal
remove_row_answer i memory m = remove_answer i (length memory) m.rows m.cols

abbrev pub remove_col_answer : {T : Type 0} → ℕ → List T → Matrix T → Result Unit Refusal
remove_col_answer i memory m = remove_row_answer i memory (turned m)

-- a line goes, and nobody takes it
abbrev pub delete_row_answer : {T : Type 0} → ℕ → Matrix T → Result Unit Refusal
delete_row_answer i m = refused 6 (nat_le m.rows i) accepted

abbrev pub delete_col_answer : {T : Type 0} → ℕ → Matrix T → Result Unit Refusal
delete_col_answer i m = delete_row_answer i (turned m)

abbrev pub put_answer : {T : Type 0} → ℕ → ℕ → Matrix T → Result Unit Refusal
put_answer r c m = refused 6 (nat_le m.rows r || nat_le m.cols c) accepted

-- two cells change places: what a put of the first would answer, and then of the second
abbrev pub swap_answer : {T : Type 0} → ℕ × ℕ → ℕ × ℕ → Matrix T → Result Unit Refusal
swap_answer a b m = refused 6 (nat_le m.rows a.0 || nat_le m.cols a.1) (put_answer b.0 b.1 m)

-- A grid is made of the n flat cells at the start of a memory of N cells.
abbrev pub from_vec_answer : ℕ → ℕ → ℕ → Result Unit Refusal
from_vec_answer N n cols =
    refused 1 (nat_lt cell_limit N)
    (cond (n == 0) accepted
    (refused 2 (cols == 0 || not (n % cols == 0))
    (refused 7 (nat_lt side_limit (n / cols) || nat_lt side_limit cols)
    (refused 8 (nat_lt N n)
    accepted))))

-- n cells in lines of `cols`, and nothing where the check refuses
abbrev pub from_vec : {T : Type 0} → Order → ℕ → ℕ → List T → Matrix T
from_vec o n cols xs = answered (from_vec_answer (length xs) n cols) (cond (n == 0) empty (laid (record { rows = n / cols; cols = cols; order = o }) xs)) empty

-- A grid is made of one cell everywhere, over a memory of N cells.
abbrev pub new_answer : ℕ → ℕ → ℕ → Result Unit Refusal
new_answer N rows cols =
    refused 1 (nat_lt cell_limit N)
    (cond (rows == 0 || cols == 0) accepted
    (refused 7 (nat_lt side_limit rows || nat_lt side_limit cols)
    (refused 8 (nat_lt N (rows * cols))
    accepted)))

abbrev pub init : {T : Type 0} → ℕ → ℕ → ℕ → T → Matrix T
init N rows cols x = answered (new_answer N rows cols) (cond (rows == 0 || cols == 0) empty (filled rows cols x)) empty
