-- A row that lies side by side in flat cells, as the part of them where it lies.
use Rattle.std.proofs.Common.{◌≡◌, ℕ, ◌+◌, ◌*◌, ◌<◌, ◌≤◌, List, length, take, drop, sym, ap, ◌∙◌, length-take-le, length-drop, arith, rules}
use Rattle.std.specs.List.{slice_get}
use Rattle.std.proofs.lemmas.List.{places}
use Rattle.matrix.specs.declared.shape.Order.TheVariants.{RowMajor}
use Rattle.matrix.specs.Matrix.{listed, inside, row}
use Rattle.matrix.specs.Shapes.{Form, laid, rowwise}
use Rattle.matrix.proofs.Cells.{nth_same}
use Rattle.matrix.proofs.Products.{line_ends}
use Rattle.matrix.proofs.Undo.{listed_nth, listed_within}
use Rattle.matrix.proofs.Whole.{inside_in}

-- n cells from `from` on
part_length : {X : Type 0} (xs : List X) (from n : ℕ) → from + n ≤ length xs → length (take n (drop from xs)) ≡ n
part_length xs from n h = length-take-le n (drop from xs) (omega (arith, length-drop from xs))

part_nth : {X : Type 0} (xs : List X) (from n k : ℕ) → from + n ≤ length xs → k < n → slice_get (take n (drop from xs)) k ≡ slice_get xs (from + k)
part_nth xs from n k h l = nth_same (take n (drop from xs)) xs k (from + k) (omega (arith, part_length xs from n h)) (omega arith) (λ d. search (rules, places))

row_part_is : {T : Type 0} (R C r : ℕ) (xs : List T) → r < R → R * C ≤ length xs → take C (drop (r * C) xs) ≡ row r (rowwise R C xs)
row_part_is R C r xs hr fits =
    let ys = take C (drop (r * C) xs) in
    let ends : r * C + C ≤ length xs = omega (arith, line_ends r R C hr) in
    sym (listed_nth ys)
    ∙ ap (λ k. listed k (slice_get ys)) (part_length xs (r * C) C ends)
    ∙ listed_within C (slice_get ys) (λ c. inside R C r c (slice_get xs (r * C + c)))
    (λ c hc. part_nth xs (r * C) C c ends hc ∙ sym (inside_in R C r c (slice_get xs (r * C + c)) hr hc))

-- the same of a row-major form
pub row_laid : {T : Type 0} (f : Form) (r : ℕ) (xs : List T) → f.order ≡ RowMajor → r < f.rows → f.rows * f.cols ≤ length xs → take f.cols (drop (r * f.cols) xs) ≡ row r (laid f xs)
row_laid f r xs o hr fits =
    row_part_is f.rows f.cols r xs hr fits
    ∙ ap (λ z. row r (laid (record { rows = f.rows; cols = f.cols; order = z }) xs)) (sym o)
