-- What a matrix is, and what each call makes of it.
use Rattle.std.specs.Prelude.{◌≡◌, ℕ, zero, suc, ◌+◌, ◌-◌, ◌<◌, ◌≤◌, cond, ◌&&◌, ◌||◌, List, [], ◌∷◌, ◌++◌, length, drop, Some, None, Option, ◌==◌, nat_lt}
use Rattle.std.specs.List.{slice_get}

-- How many rows and columns, and the cell at each place, absent outside.
pub record Matrix (T : Type 0) : Type 0 where
  pub rows : ℕ
  pub cols : ℕ
  pub cell : ℕ → ℕ → Option T

-- What every board's matrix keeps to: no rows exactly without columns, a cell at each place inside and none outside.
pub record Shaped {T : Type 0} (m : Matrix T) : Type 0 where
  pub no_rows : m.rows ≡ 0 → m.cols ≡ 0
  pub no_cols : m.cols ≡ 0 → m.rows ≡ 0
  pub below : (r c : ℕ) → m.rows ≤ r → m.cell r c ≡ None
  pub right : (r c : ℕ) → m.cols ≤ c → m.cell r c ≡ None
  pub full : (r c : ℕ) → r < m.rows → c < m.cols → (x : T) × (m.cell r c ≡ Some x)

abbrev pub empty : {T : Type 0} → Matrix T
empty = record { rows = 0; cols = 0; cell = λ r c. None }

-- x at a place (r, c) of an R × C matrix, absent outside
abbrev pub inside : {T : Type 0} → ℕ → ℕ → ℕ → ℕ → Option T → Option T
inside R C r c x = cond (nat_lt r R) (cond (nat_lt c C) x None) None

-- one cell everywhere
abbrev pub filled : {T : Type 0} → ℕ → ℕ → T → Matrix T
filled R C x = record { rows = R; cols = C; cell = λ r c. inside R C r c (Some x) }

abbrev pub put_cell : {T : Type 0} → ℕ → ℕ → T → Matrix T → Matrix T
put_cell r c x m = record { rows = m.rows; cols = m.cols; cell = λ a b. cond (a == r) (cond (b == c) (Some x) (m.cell a b)) (m.cell a b) }

-- the cells at places a and b, each in the other's place
abbrev pub swap_cells : {T : Type 0} → ℕ × ℕ → ℕ × ℕ → Matrix T → Matrix T
swap_cells a b m = record { rows = m.rows; cols = m.cols; cell = λ r c. cond (r == b.0 && c == b.1) (m.cell a.0 a.1) (cond (r == a.0 && c == a.1) (m.cell b.0 b.1) (m.cell r c)) }

-- x goes to place i; what stood before i stays, the rest moves by one.
abbrev pub spliced : {X : Type 0} → ℕ → X → (ℕ → X) → ℕ → X
spliced i x f k = cond (nat_lt k i) (f k) (cond (k == i) x (f (k - 1)))

-- x goes to the g places from i on; what stood before i stays, the rest moves by g.
abbrev pub gapped : {X : Type 0} → ℕ → ℕ → X → (ℕ → X) → ℕ → X
gapped i g x f k = cond (nat_lt k i) (f k) (cond (nat_lt k (i + g)) x (f (k - g)))

abbrev pub insert_row : {T : Type 0} → ℕ → List T → Matrix T → Matrix T
insert_row i line m = record { rows = m.rows + 1; cols = length line; cell = λ r c. spliced i (slice_get line c) (λ k. m.cell k c) r }

abbrev pub insert_col : {T : Type 0} → ℕ → List T → Matrix T → Matrix T
insert_col i line m = record { rows = length line; cols = m.cols + 1; cell = λ r c. spliced i (slice_get line r) (λ k. m.cell r k) c }

-- n rows of x put in at i
abbrev pub space_rows : {T : Type 0} → ℕ → ℕ → T → Matrix T → Matrix T
space_rows i n x m = record { rows = m.rows + n; cols = m.cols; cell = λ r c. gapped i n (cond (nat_lt c m.cols) (Some x) None) (λ k. m.cell k c) r }

-- n rows more; nothing for no rows, and in an empty matrix
abbrev pub more_rows : {T : Type 0} → ℕ → ℕ → T → Matrix T → Matrix T
more_rows i n x m = cond (n == 0 || m.cols == 0) m (space_rows i n x m)

-- after the rest, and before it
abbrev pub expand_rows : {T : Type 0} → ℕ → T → Matrix T → Matrix T
expand_rows n x m = more_rows m.rows n x m

abbrev pub prepend_rows : {T : Type 0} → ℕ → T → Matrix T → Matrix T
prepend_rows n x m = more_rows 0 n x m

-- Which place comes to k where place i is taken out.
abbrev pub skipped : ℕ → ℕ → ℕ
skipped i k = cond (nat_lt k i) k (k + 1)

-- How long the lines across are when one of `lines` goes: the last one takes all with it.
abbrev pub left_across : ℕ → ℕ → ℕ
left_across lines across = cond (lines == 1) 0 across

-- what stays when row i goes
abbrev pub remove_row : {T : Type 0} → ℕ → Matrix T → Matrix T
remove_row i m = record { rows = m.rows - 1; cols = left_across m.rows m.cols; cell = λ r c. m.cell (skipped i r) c }

abbrev pub remove_col : {T : Type 0} → ℕ → Matrix T → Matrix T
remove_col i m = record { rows = left_across m.cols m.rows; cols = m.cols - 1; cell = λ r c. m.cell r (skipped i c) }

-- f 0, f 1 and so on, n of them, as a list that ends where f is absent
abbrev pub before : {T : Type 0} → Option T → List T → List T
before (Some x) xs = x ∷ xs
before None xs = []

abbrev pub listed : {T : Type 0} → ℕ → (ℕ → Option T) → List T
listed zero f = []
listed (suc n) f = before (f 0) (listed n (λ k. f (suc k)))

-- the line that goes: a row or a column, from first to last
abbrev pub row : {T : Type 0} → ℕ → Matrix T → List T
row i m = listed m.cols (λ c. m.cell i c)

abbrev pub col : {T : Type 0} → ℕ → Matrix T → List T
col i m = listed m.rows (λ r. m.cell r i)

-- a line put into the first cells of a memory, the rest unchanged
abbrev pub over : {T : Type 0} → List T → List T → List T
over line xs = line ++ drop (length line) xs

abbrev pub turned : {T : Type 0} → Matrix T → Matrix T
turned m = record { rows = m.cols; cols = m.rows; cell = λ r c. m.cell c r }

abbrev pub flip_rows : {T : Type 0} → Matrix T → Matrix T
flip_rows m = record { rows = m.rows; cols = m.cols; cell = λ r c. cond (nat_lt r m.rows) (m.cell (m.rows - 1 - r) c) None }

abbrev pub flip_cols : {T : Type 0} → Matrix T → Matrix T
flip_cols m = record { rows = m.rows; cols = m.cols; cell = λ r c. cond (nat_lt c m.cols) (m.cell r (m.cols - 1 - c)) None }

abbrev pub rotate_left : {T : Type 0} → Matrix T → Matrix T
rotate_left m = record { rows = m.cols; cols = m.rows; cell = λ r c. cond (nat_lt r m.cols) (m.cell c (m.cols - 1 - r)) None }

abbrev pub rotate_right : {T : Type 0} → Matrix T → Matrix T
rotate_right m = record { rows = m.cols; cols = m.rows; cell = λ r c. cond (nat_lt c m.rows) (m.cell (m.rows - 1 - c) r) None }

abbrev pub rotate_half : {T : Type 0} → Matrix T → Matrix T
rotate_half m = record { rows = m.rows; cols = m.cols; cell = λ r c. inside m.rows m.cols r c (m.cell (m.rows - 1 - r) (m.cols - 1 - c)) }

-- the column rules: the row rules on the matrix turned
abbrev pub expand_cols : {T : Type 0} → ℕ → T → Matrix T → Matrix T
expand_cols n x m = turned (expand_rows n x (turned m))

abbrev pub prepend_cols : {T : Type 0} → ℕ → T → Matrix T → Matrix T
prepend_cols n x m = turned (prepend_rows n x (turned m))
