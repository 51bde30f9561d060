-- Each edit can be undone: what its undoing asks of the board holds, and gives the matrix before.
use Rattle.std.proofs.Common.{◌≡◌, ℕ, ◌+◌, ◌-◌, ◌*◌, ◌<◌, ◌≤◌, List, length, Some, Ok, sym, refl, ap, ◌∙◌, ⊎_elim, arith}
use Rattle.std.proofs.lemmas.Bool.{cases_eq, cases_lt}
use Rattle.std.proofs.lemmas.Bool.Decides.{nat_tests}
use Rattle.matrix.specs.declared.limits.Limits.{Limits}
use Rattle.matrix.specs.Matrix.{Matrix, put_cell, insert_row, remove_row, row, flip_rows}
use Rattle.matrix.specs.Rules.{Within, insert_answer, insert_row_answer}
use Rattle.matrix.proofs.Goes.{met_fits}
use Rattle.matrix.proofs.Along.{along_twice, within_along}
use Rattle.matrix.proofs.Undo.{remove_insert, insert_remove, row_length, flip_rows_twice}
use Rattle.matrix.proofs.Whole.{same_matrix, whole_shaped, across_stays}
use Rattle.matrix.specs.declared.axis.Axis.{Axis}
use Rattle.matrix.specs.Axes.{along, inserted, removed, line_of, flipped, insert_along}

-- a flip, flipped
pub flip_undone : {T : Type 0} (ax : Axis) (l : Limits) (m : Matrix T) → Within l m → flipped ax (flipped ax m) ≡ m
flip_undone ax l m w =
    ap (λ n. along ax (flip_rows n)) (along_twice ax (flip_rows (along ax m)))
    ∙ ap (along ax) (flip_rows_twice (along ax m) (whole_shaped (within_along ax w).shaped))
    ∙ along_twice ax m

-- a cell written and then written back
pub put_undone : {T : Type 0} (r c : ℕ) (x old : T) (m : Matrix T) → m.cell r c ≡ Some old → put_cell r c old (put_cell r c x m) ≡ m
put_undone r c x old m e = same_matrix (put_cell r c old (put_cell r c x m)) m refl refl
    (λ a b. ⊎_elim
    (λ (p : a ≡ r). ⊎_elim (λ (q : b ≡ c). here a b p q) (λ (q : b ≡ c → ⊥). grind (arith, nat_tests)) (cases_eq b c))
    (λ (p : a ≡ r → ⊥). grind (arith, nat_tests))
    (cases_eq a r))
  where
    here : (a b : ℕ) → a ≡ r → b ≡ c → (put_cell r c old (put_cell r c x m)).cell a b ≡ m.cell a b
    here a b p q = let z : (put_cell r c old (put_cell r c x m)).cell a b ≡ Some old = grind (arith, nat_tests) in z ∙ sym e ∙ ap (λ j. m.cell j c) (sym p) ∙ ap (λ j. m.cell a j) (sym q)

-- an insertion, undone
pub insert_undone : {T : Type 0} (ax : Axis) (i : ℕ) (line : List T) (l : Limits) (m : Matrix T) → Within l m → Ok tt ≡ insert_along l ax i line m → removed ax i (inserted ax i line m) ≡ m
insert_undone ax i line l m w e =
    ap (λ n. along ax (remove_row i n)) (along_twice ax (insert_row i line (along ax m)))
    ∙ ap (along ax) (remove_insert i line (along ax m) (within_along ax w).shaped (met_fits l i (length line) (along ax m).rows (along ax m).cols e))
    ∙ along_twice ax m

pub remove_undone : {T : Type 0} (ax : Axis) (i : ℕ) (l : Limits) (m : Matrix T) → Within l m → i < (along ax m).rows → inserted ax i (line_of ax i m) (removed ax i m) ≡ m
remove_undone ax i l m w h =
    ap (λ n. along ax (insert_row i (line_of ax i m) n)) (along_twice ax (remove_row i (along ax m)))
    ∙ ap (along ax) (insert_remove i (along ax m) (within_along ax w).shaped h)
    ∙ along_twice ax m

-- the line that went can be put back
accepts : (l : Limits) (i n count across : ℕ) → 0 < n → (0 < count → n ≡ across) → i ≤ count → count + 1 ≤ l.side → n ≤ l.side → (count + 1) * n ≤ l.most → insert_answer l i n count across ≡ Ok tt
accepts l i n count across some fits at tall wide room = ⊎_elim
    (λ (z : 0 < count). let f = fits z in grind (arith, nat_tests))
    (λ (z : count ≤ 0). grind (arith, nat_tests))
    (cases_lt 0 count)

pub back_again : {T : Type 0} (ax : Axis) (i : ℕ) (l : Limits) (m : Matrix T) → Within l m → i < (along ax m).rows → insert_along l ax i (line_of ax i m) (removed ax i m) ≡ Ok tt
back_again {T} ax i l m w h =
    ap (λ n. insert_row_answer l i (line_of ax i m) n) (along_twice ax (remove_row i (along ax m)))
    ∙ again (along ax m) (within_along ax w) h
  where
    again : (n : Matrix T) → Within l n → i < n.rows → insert_row_answer l i (row i n) (remove_row i n) ≡ Ok tt
    again n v at =
        let len = row_length i n v.shaped at in
        let some : 0 < n.cols = ⊎_elim (λ (z : n.cols ≡ 0). absurd (let q = v.shaped.no_cols z in omega arith)) (λ (z : n.cols ≡ 0 → ⊥). omega arith) (cases_eq n.cols 0) in
        let tall = v.tall in
        let wide = v.wide in
        let lines : (n.rows - 1 + 1) * length (row i n) ≡ n.rows * n.cols = ap (λ k. k * length (row i n)) (let z : n.rows - 1 + 1 ≡ n.rows = omega arith in z) ∙ ap (λ k. n.rows * k) len in
        accepts l i (length (row i n)) (n.rows - 1) (remove_row i n).cols (omega arith) (λ z. len ∙ sym (across_stays n.rows n.cols (omega arith))) (omega arith) (omega arith) (omega arith) (omega (arith, lines, v.room))
