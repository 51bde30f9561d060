-- When two matrices are one, and when flat cells are a matrix.
use Rattle.std.proofs.Common.{◌≡◌, ℕ, ◌+◌, ◌-◌, ◌*◌, ◌<◌, ◌≤◌, List, length, cond, nat_lt, Some, None, Option, sym, ◌∙◌, ⊎_elim, arith}
use Rattle.std.specs.List.{slice_get}
use Rattle.std.proofs.lemmas.Bool.Decides.{nat_tests}
use Rattle.std.proofs.lemmas.Bool.{cases_order, cases_lt, cases_eq}
use Rattle.std.proofs.lemmas.Option.{none-some, slice_get_past}
use Rattle.matrix.specs.Matrix.{Matrix, Shaped, inside, turned, insert_row, insert_col, remove_row, remove_col, space_rows, flip_rows, rotate_half, skipped, left_across}
use Rattle.matrix.specs.Shapes.{rowwise}
use Rattle.matrix.proofs.Cells.{spliced_below, spliced_at, spliced_above, gapped_below, gapped_at, gapped_above, skipped_above}

-- equal sizes and equal cells
pub same_matrix : {T : Type 0} (m n : Matrix T) → m.rows ≡ n.rows → m.cols ≡ n.cols → ((r c : ℕ) → m.cell r c ≡ n.cell r c) → m ≡ n
same_matrix m n e f h = λ i. record { rows = e i; cols = f i; cell = λ r c. h r c i }

module _ {T : Type 0} (R C r c : ℕ) (x : Option T) where
  pub inside_in : r < R → c < C → inside R C r c x ≡ x
  inside_in h k = grind (arith, nat_tests)

  pub inside_below : R ≤ r → inside R C r c x ≡ None
  inside_below h = grind (arith, nat_tests)

  pub inside_right : C ≤ c → inside R C r c x ≡ None
  inside_right h = grind (arith, nat_tests)

-- a number that is there stands inside
pub inside_some : (R C r c y k : ℕ) → inside R C r c (Some y) ≡ Some k → (r < R) × (c < C) × (k ≡ y)
inside_some R C r c y k e = ⊎_elim
    (λ (hr : r < R). ⊎_elim
    (λ (hc : c < C). let z : Some y ≡ Some k = sym (inside_in R C r c (Some y) hr hc) ∙ e in (hr, hc, cc))
    (λ (hc : C ≤ c). absurd (none-some k (sym (inside_right R C r c (Some y) hc) ∙ e)))
    (cases_lt c C))
    (λ (hr : R ≤ r). absurd (none-some k (sym (inside_below R C r c (Some y) hr) ∙ e)))
    (cases_lt r R)

-- nothing outside its size
pub record Whole {T : Type 0} (m : Matrix T) : Type 0 where
  pub below : (r c : ℕ) → m.rows ≤ r → m.cell r c ≡ None
  pub right : (r c : ℕ) → m.cols ≤ c → m.cell r c ≡ None

pub whole_shaped : {T : Type 0} {m : Matrix T} → Shaped m → Whole m
whole_shaped s = record { below = s.below; right = s.right }

-- cells that stand inside a size alone
pub whole_inside : {T : Type 0} (R C : ℕ) (f : ℕ → ℕ → Option T) → Whole (record { rows = R; cols = C; cell = λ r c. inside R C r c (f r c) })
whole_inside R C f = record { below = λ r c h. inside_below R C r c (f r c) h; right = λ r c h. inside_right R C r c (f r c) h }

pub whole_rowwise : {T : Type 0} (R C : ℕ) (xs : List T) → Whole (rowwise R C xs)
whole_rowwise R C xs = whole_inside R C (λ r c. slice_get xs (r * C + c))

pub whole_turned : {T : Type 0} {m : Matrix T} → Whole m → Whole (turned m)
whole_turned w = record { below = λ r c h. w.right c r h; right = λ r c h. w.below c r h }

-- equal inside, and both with nothing outside
pub same_inside : {T : Type 0} (m n : Matrix T) → Whole m → Whole n → m.rows ≡ n.rows → m.cols ≡ n.cols → ((r c : ℕ) → r < m.rows → c < m.cols → m.cell r c ≡ n.cell r c) → m ≡ n
same_inside m n v w eR eC h =
    same_matrix m n eR eC
    (λ r c. ⊎_elim
    (λ (hr : r < m.rows). ⊎_elim
    (λ (hc : c < m.cols). h r c hr hc)
    (λ (hc : m.cols ≤ c). v.right r c hc ∙ sym (w.right r c (omega arith)))
    (cases_lt c m.cols))
    (λ (hr : m.rows ≤ r). v.below r c hr ∙ sym (w.below r c (omega arith)))
    (cases_lt r m.rows))

-- cells that lie row by row as m has them are m
pub rowwise_is : {T : Type 0} (R C : ℕ) (xs : List T) (m : Matrix T) → R ≡ m.rows → C ≡ m.cols → Whole m → ((r c : ℕ) → r < R → c < C → slice_get xs (r * C + c) ≡ m.cell r c) → rowwise R C xs ≡ m
rowwise_is R C xs m eR eC w h = same_inside (rowwise R C xs) m (whole_rowwise R C xs) w eR eC (λ r c hr hc. inside_in R C r c (slice_get xs (r * C + c)) hr hc ∙ h r c hr hc)

pub whole_insert_row : {T : Type 0} (i : ℕ) (line : List T) (m : Matrix T) → i ≤ m.rows → (0 < m.rows → length line ≡ m.cols) → Whole m → Whole (insert_row i line m)
whole_insert_row {T} i line m hi fits w = record {
  below = λ r c h. spliced_above i (slice_get line c) (λ k. m.cell k c) r (omega arith) ∙ w.below (r - 1) c (omega arith);
  right = λ r c h. ⊎_elim
      (λ (e : r ≡ i). spliced_at i (slice_get line c) (λ k. m.cell k c) r e ∙ slice_get_past line c h)
      (⊎_elim
      (λ (l : r < i). spliced_below i (slice_get line c) (λ k. m.cell k c) r l ∙ none r c h)
      (λ (l : i < r). spliced_above i (slice_get line c) (λ k. m.cell k c) r l ∙ none (r - 1) c h))
      (cases_order r i);
}
  where
    none : (r c : ℕ) → length line ≤ c → m.cell r c ≡ None
    none r c h =
        ⊎_elim
        (λ (z : 0 < m.rows). w.right r c (omega (arith, fits z)))
        (λ (z : m.rows ≤ 0). w.below r c (omega arith))
        (cases_lt 0 m.rows)

pub whole_insert_col : {T : Type 0} (i : ℕ) (line : List T) (m : Matrix T) → i ≤ m.cols → (0 < m.cols → length line ≡ m.rows) → Whole m → Whole (insert_col i line m)
whole_insert_col i line m hi fits w = whole_turned (whole_insert_row i line (turned m) hi fits (whole_turned w))

pub blank_in : {T : Type 0} (c C : ℕ) (x : T) → c < C → cond (nat_lt c C) (Some x) None ≡ Some x
blank_in c C x h = grind (arith, nat_tests)

blank_out : {T : Type 0} (c C : ℕ) (x : T) → C ≤ c → cond (nat_lt c C) (Some x) None ≡ None
blank_out c C x h = grind (arith, nat_tests)

pub whole_space_rows : {T : Type 0} (i n : ℕ) (x : T) (m : Matrix T) → i ≤ m.rows → Whole m → Whole (space_rows i n x m)
whole_space_rows i n x m hi w = record {
  below = λ r c h. gapped_above i n (cond (nat_lt c m.cols) (Some x) None) (λ k. m.cell k c) r (omega arith) ∙ w.below (r - n) c (omega arith);
  right = λ r c h. ⊎_elim
      (λ (l : r < i). gapped_below i n (cond (nat_lt c m.cols) (Some x) None) (λ k. m.cell k c) r l ∙ w.right r c h)
      (λ (l : i ≤ r). ⊎_elim
      (λ (u : r < i + n). gapped_at i n (cond (nat_lt c m.cols) (Some x) None) (λ k. m.cell k c) r l u ∙ blank_out c m.cols x h)
      (λ (u : i + n ≤ r). gapped_above i n (cond (nat_lt c m.cols) (Some x) None) (λ k. m.cell k c) r u ∙ w.right (r - n) c h)
      (cases_lt r (i + n)))
      (cases_lt r i);
}

pub across_stays : (lines across : ℕ) → (lines ≡ 1 → ⊥) → left_across lines across ≡ across
across_stays lines across h = grind (arith, nat_tests)

pub whole_remove_row : {T : Type 0} (i : ℕ) (m : Matrix T) → i < m.rows → Whole m → Whole (remove_row i m)
whole_remove_row {T} i m hi w = record {
  below = λ r c h. w.below (skipped i r) c (omega (arith, skipped_above i r (omega arith)));
  right = λ r c h. ⊎_elim
      (λ (e : m.rows ≡ 1). w.below (skipped i r) c (omega (arith, skipped_above i r (omega arith))))
      (λ (ne : m.rows ≡ 1 → ⊥). w.right (skipped i r) c (omega (arith, across_stays m.rows m.cols ne)))
      (cases_eq m.rows 1);
}

pub whole_remove_col : {T : Type 0} (i : ℕ) (m : Matrix T) → i < m.cols → Whole m → Whole (remove_col i m)
whole_remove_col i m hi w = whole_turned (whole_remove_row i (turned m) hi (whole_turned w))

pub flip_in : {T : Type 0} (m : Matrix T) (r c : ℕ) → r < m.rows → (flip_rows m).cell r c ≡ m.cell (m.rows - 1 - r) c
flip_in m r c h = grind (arith, nat_tests)

pub flip_out : {T : Type 0} (m : Matrix T) (r c : ℕ) → m.rows ≤ r → (flip_rows m).cell r c ≡ None
flip_out m r c h = grind (arith, nat_tests)

pub whole_flip_rows : {T : Type 0} (m : Matrix T) → Whole m → Whole (flip_rows m)
whole_flip_rows m w = record {
  below = λ r c h. flip_out m r c h;
  right = λ r c h. ⊎_elim
      (λ (l : r < m.rows). flip_in m r c l ∙ w.right (m.rows - 1 - r) c h)
      (λ (l : m.rows ≤ r). flip_out m r c l)
      (cases_lt r m.rows);
}

pub whole_rotate_half : {T : Type 0} (m : Matrix T) → Whole (rotate_half m)
whole_rotate_half m = whole_inside m.rows m.cols (λ r c. m.cell (m.rows - 1 - r) (m.cols - 1 - c))
