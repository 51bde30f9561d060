-- Cells listed in flat order, and the small sheets.
use Rattle.std.proofs.Common.{◌≡◌, ℕ, ◌+◌, ◌*◌, ◌/◌, ◌%◌, ◌<◌, ◌≤◌, List, length, sym, refl, ap, ◌∙◌, ⊎_elim, mul_comm, mul-zero, arith}
use Rattle.std.specs.List.{slice_get}
use Rattle.std.proofs.lemmas.Nat.{div-add-mod', div_below, mod_below}
use Rattle.std.proofs.lemmas.Bool.{cases_lt}
use Rattle.matrix.specs.declared.shape.Order.{Order}
use Rattle.matrix.specs.declared.shape.Order.TheVariants.{RowMajor, ColumnMajor}
use Rattle.matrix.specs.Matrix.{over}
use Rattle.matrix.specs.Shapes.{Form, laid, held, vacant, flat}
use Rattle.matrix.specs.Laws.{Shown}
use Rattle.matrix.specs.Cases.{Cases}
use Rattle.matrix.proofs.Cells.{over_is}
use Rattle.matrix.proofs.Held.{fitted_in, fitted_out}
use Rattle.matrix.proofs.Whole.{inside_in}

some_right : (R C k : ℕ) → k < R * C → 0 < C
some_right R C k h = ⊎_elim
    (λ (l : 0 < C). l)
    (λ (l : C ≤ 0). let z : C ≡ 0 = omega arith in absurd (omega (arith, ap (λ j. R * j) z, mul-zero R)))
    (cases_lt 0 C)

shown_in : {T : Type 0} (o : Order) (R C : ℕ) (xs : List T) → R * C ≤ length xs → xs ≡ over (flat o (laid (record { rows = R; cols = C; order = o }) xs)) xs
shown_in RowMajor R C xs h = over_is (R * C) (λ k. (laid (record { rows = R; cols = C; order = RowMajor }) xs).cell (k / C) (k % C)) xs xs h refl
    (λ k l.
    let w : 0 < C = some_right R C k l in
    sym (inside_in R C (k / C) (k % C) (slice_get xs (k / C * C + k % C)) (div_below k C R w l) (mod_below k C w) ∙ ap (slice_get xs) (div-add-mod' k C)))
    (λ k l. refl)
shown_in ColumnMajor R C xs h = over_is (R * C) (λ k. (laid (record { rows = R; cols = C; order = ColumnMajor }) xs).cell (k % R) (k / R)) xs xs h refl
    (λ k l.
    let w : 0 < R = some_right C R k (omega (arith, mul_comm R C)) in
    let l' : k < C * R = omega (arith, mul_comm R C) in
    sym (inside_in R C (k % R) (k / R) (slice_get xs (k / R * R + k % R)) (mod_below k R w) (div_below k R C w l') ∙ ap (slice_get xs) (div-add-mod' k R)))
    (λ k l. refl)

pub shown : (T : Type 0) → Shown T
shown T f xs h = shown_in f.order f.rows f.cols xs h

pub cases : Cases
cases = record {
  inserted_row_major = refl;
  inserted_column_major = refl;
  removed_line = refl;
  removed_rest = refl;
  rotated = refl;
  rotated_rows = refl;
  rotated_cols = refl;
  at_the_end = refl;
  past_the_end = refl;
  no_cells = refl;
  no_cells_taken = refl;
  no_columns = refl;
  full = refl;
  room_again = refl;
}

-- what memory means under a form, listed flat, is what the memory begins with
pub held_shown : {T : Type 0} (f : Form) (xs : List T) → xs ≡ over (flat f.order (held f xs)) xs
held_shown {T} f xs = ⊎_elim
    (λ (h : length xs < f.rows * f.cols). shown T (vacant f.order) xs (omega arith) ∙ ap (λ z. over (flat f.order (laid z xs)) xs) (sym (fitted_out (length xs) f h)))
    (λ (h : f.rows * f.cols ≤ length xs). shown T f xs h ∙ ap (λ z. over (flat f.order (laid z xs)) xs) (sym (fitted_in (length xs) f h)))
    (cases_lt (length xs) (f.rows * f.cols))
