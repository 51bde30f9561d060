-- From cells that lie row by row to both orders.
use Rattle.std.proofs.Common.{◌≡◌, ℕ, ◌+◌, ◌-◌, ◌*◌, ◌<◌, ◌≤◌, List, length, sym, refl, ap, ◌∙◌, subst, ⊎_elim, mul_comm, arith}
use Rattle.std.specs.List.{slice_get}
use Rattle.std.proofs.lemmas.Bool.{cases_lt}
use Rattle.matrix.specs.declared.shape.Order.{Order}
use Rattle.matrix.specs.declared.shape.Order.TheVariants.{RowMajor, ColumnMajor}
use Rattle.matrix.specs.Matrix.{Matrix, turned, insert_row, insert_col, rotate_half, row, col, over}
use Rattle.matrix.specs.Shapes.{Form, place, laid, rowwise, inserted_form}
use Rattle.matrix.proofs.Cells.{spliced_same}
use Rattle.matrix.proofs.Whole.{same_matrix, inside_below}
use Rattle.matrix.proofs.Held.{inside_turned, laid_turned}
use Rattle.flat.specs.Moves.{Reversed}
use Rattle.flat.proofs.Flips.{reversed_all}

laid_row : {T : Type 0} (f : Form) (xs : List T) → f.order ≡ RowMajor → laid f xs ≡ rowwise f.rows f.cols xs
laid_row f xs o = ap (λ z. laid (record { rows = f.rows; cols = f.cols; order = z }) xs) o

laid_column : {T : Type 0} (f : Form) (xs : List T) → f.order ≡ ColumnMajor → laid f xs ≡ turned (rowwise f.cols f.rows xs)
laid_column f xs o = ap (λ z. laid (record { rows = f.rows; cols = f.cols; order = z }) xs) o ∙ laid_turned (record { rows = f.cols; cols = f.rows; order = RowMajor }) xs

-- what is made of row-major cells, of which each row is a run
pub in_row_major : {T : Type 0} (F : Matrix T → Matrix T) (f t : Form) (xs ys : List T) → f.order ≡ RowMajor → t.order ≡ f.order → rowwise t.rows t.cols ys ≡ F (rowwise f.rows f.cols xs) → laid t ys ≡ F (laid f xs)
in_row_major F f t xs ys o e p = laid_row t ys (e ∙ o) ∙ p ∙ ap F (sym (laid_row f xs o))

-- what is made of column-major cells, of which each column is a run, and a row has one cell in each
pub in_column_major : {T : Type 0} (F : Matrix T → Matrix T) (f t : Form) (xs ys : List T) → f.order ≡ ColumnMajor → t.order ≡ f.order → rowwise t.cols t.rows ys ≡ turned (F (turned (rowwise f.cols f.rows xs))) → laid t ys ≡ F (laid f xs)
in_column_major F f t xs ys o e p = laid_column t ys (e ∙ o) ∙ ap turned p ∙ ap F (sym (laid_column f xs o))

-- without rows, how many columns were named does not matter
insert_any : {T : Type 0} (f : Form) (n i : ℕ) (line xs : List T) → (0 < f.rows → n ≡ f.cols) → insert_row i line (laid (record { rows = f.rows; cols = n; order = f.order }) xs) ≡ insert_row i line (laid f xs)
insert_any {T} f n i line xs fits = ⊎_elim
    (λ (h : 0 < f.rows). ap (λ j. insert_row i line (laid (record { rows = f.rows; cols = j; order = f.order }) xs)) (fits h))
    (λ (h : f.rows ≤ 0). same_matrix (insert_row i line (laid g xs)) (insert_row i line (laid f xs)) refl refl
    (λ r c. spliced_same i (slice_get line c) (slice_get line c) (λ k. (laid g xs).cell k c) (λ k. (laid f xs).cell k c) r (λ _. none r c h) (λ _. refl) (λ _. none (r - 1) c h)))
    (cases_lt 0 f.rows)
  where
    g : Form
    g = record { rows = f.rows; cols = n; order = f.order }

    none : (r c : ℕ) → f.rows ≤ 0 → (laid g xs).cell r c ≡ (laid f xs).cell r c
    none r c h =
        inside_below f.rows n r c (slice_get xs (place f.order f.rows n r c)) (omega arith)
        ∙ sym (inside_below f.rows f.cols r c (slice_get xs (place f.order f.rows f.cols r c)) (omega arith))

module _ {T : Type 0} (f : Form) (i : ℕ) (xs ys line : List T) (fits : 0 < f.rows → length line ≡ f.cols) where
  abbrev named : Form
  named = record { rows = f.rows; cols = length line; order = f.order }

  pub inserted_row_major : f.order ≡ RowMajor → rowwise (f.rows + 1) (length line) ys ≡ insert_row i line (rowwise f.rows (length line) xs) → laid (inserted_form (length line) f) ys ≡ insert_row i line (laid f xs)
  inserted_row_major o p = in_row_major (insert_row i line) named (inserted_form (length line) f) xs ys o refl p ∙ insert_any f (length line) i line xs fits

  pub inserted_column_major : f.order ≡ ColumnMajor → rowwise (length line) (f.rows + 1) ys ≡ insert_col i line (rowwise (length line) f.rows xs) → laid (inserted_form (length line) f) ys ≡ insert_row i line (laid f xs)
  inserted_column_major o p = in_column_major (insert_row i line) named (inserted_form (length line) f) xs ys o refl p ∙ insert_any f (length line) i line xs fits

half_turned : {T : Type 0} (m : Matrix T) → rotate_half m ≡ turned (rotate_half (turned m))
half_turned m = same_matrix (rotate_half m) (turned (rotate_half (turned m))) refl refl (λ r c. inside_turned m.rows m.cols r c (m.cell (m.rows - 1 - r) (m.cols - 1 - c)))

-- all cells, the last first: a half turn in either order
pub half_turned_laid : {T : Type 0} (f : Form) (xs ys : List T) → Reversed xs ys 0 (f.rows * f.cols) → laid f ys ≡ rotate_half (laid f xs)
half_turned_laid {T} f xs ys p = in_order f.order refl
  where
    in_order : (o : Order) → f.order ≡ o → laid f ys ≡ rotate_half (laid f xs)
    in_order RowMajor e = in_row_major rotate_half f f xs ys e refl (reversed_all xs ys f.rows f.cols p)
    in_order ColumnMajor e = in_column_major rotate_half f f xs ys e refl
        (reversed_all xs ys f.cols f.rows (subst (Reversed xs ys 0) (mul_comm f.rows f.cols) p) ∙ half_turned (rowwise f.cols f.rows xs))

-- row i, copied out of the cells of either order
module _ {T : Type 0} (f : Form) (i : ℕ) (xs mem zs : List T) where
  pub copied_row_major : f.order ≡ RowMajor → zs ≡ over (row i (rowwise f.rows f.cols xs)) mem → zs ≡ over (row i (laid f xs)) mem
  copied_row_major o p = p ∙ ap (λ m. over (row i m) mem) (sym (laid_row f xs o))

  pub copied_column_major : f.order ≡ ColumnMajor → zs ≡ over (col i (rowwise f.cols f.rows xs)) mem → zs ≡ over (row i (laid f xs)) mem
  copied_column_major o p = p ∙ ap (λ m. over (row i m) mem) (sym (laid_column f xs o))
