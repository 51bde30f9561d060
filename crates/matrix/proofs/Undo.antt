-- What is undone: an insertion by a removal, a removal by an insertion, a flip by itself.
use Rattle.std.proofs.Common.{◌≡◌, ℕ, zero, suc, ◌-◌, ◌<◌, ◌≤◌, List, [], ◌∷◌, length, Some, Option, sym, refl, ap, ◌∙◌, ⊎_elim, arith}
use Rattle.std.specs.List.{slice_get}
use Rattle.std.proofs.lemmas.Bool.Decides.{nat_tests}
use Rattle.std.proofs.lemmas.Bool.{cases_order, cases_lt}
use Rattle.std.proofs.lemmas.Option.{slice_get_past}
use Rattle.matrix.specs.Matrix.{Matrix, Shaped, spliced, skipped, before, listed, row, turned, insert_row, remove_row, flip_rows, flip_cols}
use Rattle.matrix.specs.Laws.{Undone, Mirrors}
use Rattle.matrix.proofs.Cells.{spliced_below, spliced_at, spliced_above, skipped_below, skipped_above}
use Rattle.matrix.proofs.Whole.{same_matrix, same_inside, whole_shaped, whole_turned, whole_flip_rows, flip_in, Whole}

-- a line listed from its own cells
pub listed_nth : {T : Type 0} (xs : List T) → listed (length xs) (slice_get xs) ≡ xs
listed_nth [] = refl
listed_nth (x ∷ xs) = ap (λ ys. x ∷ ys) (listed_nth xs)

pub listed_within : {T : Type 0} (n : ℕ) (f g : ℕ → Option T) → ((k : ℕ) → k < n → f k ≡ g k) → listed n f ≡ listed n g
listed_within zero f g h = refl
listed_within (suc n) f g h =
    ap (λ o. before o (listed n (λ k. f (suc k)))) (h 0 (omega arith))
    ∙ ap (before (g 0)) (listed_within n (λ k. f (suc k)) (λ k. g (suc k)) (λ k l. h (suc k) (omega arith)))

-- n cells that are there make a list of n
module _ {T : Type 0} where
  pub listed_length : (n : ℕ) (f : ℕ → Option T) → ((k : ℕ) → k < n → (x : T) × (f k ≡ Some x)) → length (listed n f) ≡ n
  listed_length zero f h = refl
  listed_length (suc n) f h =
      let e = (h 0 (omega arith)).1 in
      ap (λ o. length (before o (listed n (λ k. f (suc k))))) e ∙ ap suc (listed_length n (λ k. f (suc k)) (λ k l. h (suc k) (omega arith)))

  pub listed_at : (n : ℕ) (f : ℕ → Option T) → ((k : ℕ) → k < n → (x : T) × (f k ≡ Some x)) → (k : ℕ) → k < n → slice_get (listed n f) k ≡ f k
  listed_at zero f h k l = absurd (omega arith)
  listed_at (suc n) f h zero l =
      let e = (h 0 (omega arith)).1 in
      ap (λ o. slice_get (before o (listed n (λ k. f (suc k)))) 0) e ∙ sym e
  listed_at (suc n) f h (suc k) l =
      let e = (h 0 (omega arith)).1 in
      ap (λ o. slice_get (before o (listed n (λ j. f (suc j)))) (suc k)) e ∙ listed_at n (λ j. f (suc j)) (λ j i. h (suc j) (omega arith)) k (omega arith)

spliced_skipped : {X : Type 0} (i : ℕ) (x : X) (f : ℕ → X) (k : ℕ) → spliced i x f (skipped i k) ≡ f k
spliced_skipped i x f k = grind (arith, nat_tests)

pub remove_insert : {T : Type 0} (i : ℕ) (line : List T) (m : Matrix T) → Shaped m → (0 < m.rows → length line ≡ m.cols) → remove_row i (insert_row i line m) ≡ m
remove_insert i line m s fits =
    let none : m.rows ≡ 0 → m.cols ≡ 0 = s.no_rows in
    same_matrix _ m (omega arith) (grind (arith, nat_tests)) (λ r c. spliced_skipped i _ (λ k. m.cell k c) r)

pub row_insert : {T : Type 0} (i : ℕ) (line : List T) (m : Matrix T) → row i (insert_row i line m) ≡ line
row_insert i line m = listed_within (length line) _ (slice_get line) (λ c h. spliced_at i (slice_get line c) (λ k. m.cell k c) i refl) ∙ listed_nth line

pub row_length : {T : Type 0} (i : ℕ) (m : Matrix T) → Shaped m → i < m.rows → length (row i m) ≡ m.cols
row_length i m s h = listed_length m.cols (λ c. m.cell i c) (λ c l. s.full i c h l)

pub row_at : {T : Type 0} (i : ℕ) (m : Matrix T) → Shaped m → i < m.rows → (c : ℕ) → slice_get (row i m) c ≡ m.cell i c
row_at i m s h c = ⊎_elim
    (λ (l : c < m.cols). listed_at m.cols (λ k. m.cell i k) (λ k l'. s.full i k h l') c l)
    (λ (l : m.cols ≤ c). slice_get_past (row i m) c (omega (arith, row_length i m s h)) ∙ sym (s.right i c l))
    (cases_lt c m.cols)

pub insert_remove : {T : Type 0} (i : ℕ) (m : Matrix T) → Shaped m → i < m.rows → insert_row i (row i m) (remove_row i m) ≡ m
insert_remove {T} i m s h =
    same_matrix (insert_row i (row i m) (remove_row i m)) m (omega arith) (row_length i m s h)
    (λ r c. ⊎_elim
    (λ (e : r ≡ i). spliced_at i (slice_get (row i m) c) (below c) r e ∙ row_at i m s h c ∙ ap (λ j. m.cell j c) (sym e))
    (⊎_elim
    (λ (l : r < i). spliced_below i (slice_get (row i m) c) (below c) r l ∙ ap (λ j. m.cell j c) (skipped_below i r l))
    (λ (l : i < r). spliced_above i (slice_get (row i m) c) (below c) r l ∙ ap (λ j. m.cell j c) (skipped_above i (r - 1) (omega arith) ∙ omega arith)))
    (cases_order r i))
  where
    below : ℕ → ℕ → Option T
    below c k = (remove_row i m).cell k c

pub flip_rows_twice : {T : Type 0} (m : Matrix T) → Whole m → flip_rows (flip_rows m) ≡ m
flip_rows_twice m w =
    same_inside (flip_rows (flip_rows m)) m (whole_flip_rows (flip_rows m) (whole_flip_rows m w)) w refl refl
    (λ r c l _. flip_in (flip_rows m) r c l ∙ flip_in m (m.rows - 1 - r) c (omega arith) ∙ ap (λ k. m.cell k c) (omega arith))

pub flip_cols_twice : {T : Type 0} (m : Matrix T) → Whole m → flip_cols (flip_cols m) ≡ m
flip_cols_twice m w = ap turned (flip_rows_twice (turned m) (whole_turned w))

pub undone : (T : Type 0) → Undone T
undone T = record { matrix = remove_insert; line = row_insert; back = insert_remove }

pub mirrors : (T : Type 0) → Mirrors T
mirrors T = record {
  rows = λ m s. flip_rows_twice m (whole_shaped s);
  cols = λ m s. flip_cols_twice m (whole_shaped s);
  left = λ m. refl;
  right = λ m. refl;
  half = λ m. refl;
}
