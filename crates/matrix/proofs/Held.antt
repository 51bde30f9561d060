-- Flat cells under a form, in both orders.
use Rattle.std.proofs.Common.{◌≡◌, ℕ, ◌*◌, ◌<◌, ◌≤◌, List, length, get_or, set, Some, Option, sym, refl, ap, ◌∙◌, subst, ⊎_elim, mul_comm, length-set, arith}
use Rattle.std.specs.List.{slice_get, swap}
use Rattle.std.proofs.lemmas.Option.{slice_get-get_or}
use Rattle.std.proofs.lemmas.List.Edits.{swap_is}
use Rattle.std.proofs.lemmas.Bool.Decides.{nat_tests}
use Rattle.std.proofs.lemmas.Bool.{cases_lt, cases_eq}
use Rattle.matrix.specs.declared.shape.Order.{Order}
use Rattle.matrix.specs.declared.shape.Order.TheVariants.{RowMajor, ColumnMajor}
use Rattle.matrix.specs.declared.shape.Shape.{Shape}
use Rattle.matrix.specs.Matrix.{Matrix, Shaped, inside, put_cell, swap_cells, turned}
use Rattle.matrix.specs.Shapes.{Form, form, place, laid, other, turned_form, vacant, fitted, held}
use Rattle.matrix.specs.declared.limits.Limits.{Limits}
use Rattle.matrix.specs.Rules.{Within, grid_limits}
use Rattle.matrix.specs.Laws.{Turns}
use Rattle.matrix.proofs.Cells.{present, nth_set_same, nth_set_other}
use Rattle.matrix.proofs.Products.{line_ends, line_apart, sides_within}
use Rattle.matrix.proofs.Whole.{same_matrix, inside_in, inside_below, inside_right}

pub inside_turned : {T : Type 0} (R C r c : ℕ) (x : Option T) → inside R C r c x ≡ inside C R c r x
inside_turned R C r c x = grind (arith, nat_tests)

place_turned : (o : Order) (R C r c : ℕ) → place (other o) C R r c ≡ place o R C c r
place_turned RowMajor R C r c = refl
place_turned ColumnMajor R C r c = refl

-- the other order holds the matrix turned
pub laid_turned : {T : Type 0} (f : Form) (xs : List T) → laid (turned_form f) xs ≡ turned (laid f xs)
laid_turned f xs = same_matrix (laid (turned_form f) xs) (turned (laid f xs)) refl refl
    (λ r c. inside_turned f.cols f.rows r c (slice_get xs (place (other f.order) f.cols f.rows r c)) ∙ ap (λ k. inside f.rows f.cols c r (slice_get xs k)) (place_turned f.order f.rows f.cols r c))

-- a form that n cells are enough for
pub fitted_in : (n : ℕ) (f : Form) → f.rows * f.cols ≤ n → fitted n f ≡ f
fitted_in n f h = grind (arith, nat_tests)

pub fitted_out : (n : ℕ) (f : Form) → n < f.rows * f.cols → fitted n f ≡ vacant f.order
fitted_out n f h = grind (arith, nat_tests)

pub fitted_turned : (n : ℕ) (f : Form) → fitted n (turned_form f) ≡ turned_form (fitted n f)
fitted_turned n f = ⊎_elim
    (λ (h : n < f.rows * f.cols). fitted_out n (turned_form f) (omega (arith, mul_comm f.rows f.cols)) ∙ sym (ap turned_form (fitted_out n f h)))
    (λ (h : f.rows * f.cols ≤ n). fitted_in n (turned_form f) (omega (arith, mul_comm f.rows f.cols)) ∙ sym (ap turned_form (fitted_in n f h)))
    (cases_lt n (f.rows * f.cols))

pub held_turned : {T : Type 0} (f : Form) (xs : List T) → held (turned_form f) xs ≡ turned (held f xs)
held_turned f xs = ap (λ g. laid g xs) (fitted_turned (length xs) f) ∙ laid_turned (fitted (length xs) f) xs

pub held_in : {T : Type 0} (f : Form) (xs : List T) → f.rows * f.cols ≤ length xs → held f xs ≡ laid f xs
held_in f xs h = ap (λ g. laid g xs) (fitted_in (length xs) f h)

pub turns : (T : Type 0) → Turns T
turns T = record {
  twice = λ m. refl;
  put = λ r c x m. put_turned r c x m;
  insert = λ i line m. refl;
  remove = λ i m. refl;
  line = λ i m. refl;
  flip = λ m. refl;
  held = held_turned;
}
  where
    put_turned : (r c : ℕ) (x : T) (m : Matrix T) → turned (put_cell r c x m) ≡ put_cell c r x (turned m)
    put_turned r c x m = same_matrix (turned (put_cell r c x m)) (put_cell c r x (turned m)) refl refl (λ a b. grind (arith, nat_tests))

pub place_below : (o : Order) (R C r c : ℕ) → r < R → c < C → place o R C r c < R * C
place_below RowMajor R C r c hr hc = omega (arith, line_ends r R C hr)
place_below ColumnMajor R C r c hr hc = omega (arith, mul_comm R C, line_ends c C R hc)

-- memory under a shape means a matrix as every board has it
pub laid_shaped : {T : Type 0} (f : Form) (xs : List T) → (f.rows ≡ 0 → f.cols ≡ 0) → (f.cols ≡ 0 → f.rows ≡ 0) → f.rows * f.cols ≤ length xs → Shaped (laid f xs)
laid_shaped f xs nr nc fits = record {
  no_rows = nr;
  no_cols = nc;
  below = λ r c l. inside_below f.rows f.cols r c (slice_get xs (place f.order f.rows f.cols r c)) l;
  right = λ r c l. inside_right f.rows f.cols r c (slice_get xs (place f.order f.rows f.cols r c)) l;
  full = λ r c hr hc.
      let k : ℕ = place f.order f.rows f.cols r c in
      let l : k < length xs = omega (arith, place_below f.order f.rows f.cols r c hr hc) in
      let d = present xs k l in
      (get_or xs k d, inside_in f.rows f.cols r c (slice_get xs k) hr hc ∙ slice_get-get_or xs k d l);
}

pub shaped_turned : {T : Type 0} {m : Matrix T} → Shaped m → Shaped (turned m)
shaped_turned h = record { no_rows = h.no_cols; no_cols = h.no_rows; below = λ r c l. h.right c r l; right = λ r c l. h.below c r l; full = λ r c l k. h.full c r k l }

pub held_shaped : {T : Type 0} (s : Shape) (xs : List T) → Shaped (held (form s) xs)
held_shaped {T} s xs = ⊎_elim
    (λ (h : length xs < s.rows * s.cols). subst (λ (f : Form). Shaped (laid f xs)) (sym (fitted_out (length xs) (form s) h)) (laid_shaped (vacant s.order) xs (λ _. refl) (λ _. refl) (omega arith)))
    (λ (h : s.rows * s.cols ≤ length xs). subst (λ (f : Form). Shaped (laid f xs)) (sym (fitted_in (length xs) (form s) h)) (laid_shaped (form s) xs s.no_rows s.no_cols h))
    (cases_lt (length xs) (s.rows * s.cols))

pub fitted_tall : (n : ℕ) (s : Shape) → (fitted n (form s)).rows ≤ 256
fitted_tall n s = ⊎_elim
    (λ (h : n < s.rows * s.cols). omega (arith, ap (λ (f : Form). f.rows) (fitted_out n (form s) h)))
    (λ (h : s.rows * s.cols ≤ n). omega (arith, ap (λ (f : Form). f.rows) (fitted_in n (form s) h), s.tall))
    (cases_lt n (s.rows * s.cols))

pub fitted_wide : (n : ℕ) (s : Shape) → (fitted n (form s)).cols ≤ 256
fitted_wide n s = ⊎_elim
    (λ (h : n < s.rows * s.cols). omega (arith, ap (λ (f : Form). f.cols) (fitted_out n (form s) h)))
    (λ (h : s.rows * s.cols ≤ n). omega (arith, ap (λ (f : Form). f.cols) (fitted_in n (form s) h), s.wide))
    (cases_lt n (s.rows * s.cols))

pub fitted_room : (n : ℕ) (f : Form) → (fitted n f).rows * (fitted n f).cols ≤ n
fitted_room n f = ⊎_elim
    (λ (h : n < f.rows * f.cols). subst (λ (g : Form). g.rows * g.cols ≤ n) (sym (fitted_out n f h)) (omega arith))
    (λ (h : f.rows * f.cols ≤ n). subst (λ (g : Form). g.rows * g.cols ≤ n) (sym (fitted_in n f h)) h)
    (cases_lt n (f.rows * f.cols))

-- memory under a shape keeps to the limits of a grid
pub held_within : {T : Type 0} (s : Shape) (xs : List T) → Within (grid_limits (length xs)) (held (form s) xs)
held_within s xs =
    let tall = fitted_tall (length xs) s in
    let wide = fitted_wide (length xs) s in
    record {
      shaped = held_shaped s xs;
      side = omega arith;
      most = omega arith;
      tall = tall;
      wide = wide;
      room = omega (arith, fitted_room (length xs) (form s), sides_within _ _ tall wide);
    }

pub within_turned : {T : Type 0} {l : Limits} {m : Matrix T} → Within l m → Within l (turned m)
within_turned {T} {l} {m} w = record {
  shaped = shaped_turned w.shaped;
  side = w.side;
  most = w.most;
  tall = w.wide;
  wide = w.tall;
  room = omega (arith, w.room, mul_comm m.rows m.cols);
}

-- two places inside lie apart
place_apart : (o : Order) (R C a b r c : ℕ) → a < R → b < C → r < R → c < C → place o R C a b ≡ place o R C r c → (a ≡ r) × (b ≡ c)
place_apart RowMajor R C a b r c ha hb hr hc e = line_apart C a b r c hb hc e
place_apart ColumnMajor R C a b r c ha hb hr hc e = let p = line_apart R b a c r ha hr e in (p.1, p.0)

put_here : {T : Type 0} (r c a b : ℕ) (x : T) (m : Matrix T) → a ≡ r → b ≡ c → (put_cell r c x m).cell a b ≡ Some x
put_here r c a b x m p q = grind (arith, nat_tests)

put_apart : {T : Type 0} (r c a b : ℕ) (x : T) (m : Matrix T) → (a ≡ r → b ≡ c → ⊥) → (put_cell r c x m).cell a b ≡ m.cell a b
put_apart r c a b x m ne = ⊎_elim
    (λ (p : a ≡ r). let q : b ≡ c → ⊥ = ne p in grind (arith, nat_tests))
    (λ (p : a ≡ r → ⊥). grind (arith, nat_tests))
    (cases_eq a r)

-- R × C cells, each at a place of the list
abbrev pub placed : {T : Type 0} → ℕ → ℕ → (ℕ → ℕ → ℕ) → List T → Matrix T
placed R C at xs = record { rows = R; cols = C; cell = λ r c. inside R C r c (slice_get xs (at r c)) }

-- a cell written at its place, where no two cells share one
pub put_placed : {T : Type 0} (R C : ℕ) (at : ℕ → ℕ → ℕ) (xs : List T) (r c k : ℕ) (x : T) → r < R → c < C → ((a b : ℕ) → a < R → b < C → at a b ≡ at r c → (a ≡ r) × (b ≡ c)) → k ≡ at r c → k < length xs → placed R C at (set xs k x) ≡ put_cell r c x (placed R C at xs)
put_placed {T} R C at xs r c k x hr hc apart e l = same_matrix (placed R C at (set xs k x)) (put_cell r c x (placed R C at xs)) refl refl
    (λ a b. ⊎_elim
    (λ (p : a ≡ r). ⊎_elim (λ (q : b ≡ c). here a b p q) (λ (q : b ≡ c → ⊥). there a b (λ _. q)) (cases_eq b c))
    (λ (p : a ≡ r → ⊥). there a b (λ z _. p z))
    (cases_eq a r))
  where
    here : (a b : ℕ) → a ≡ r → b ≡ c → (placed R C at (set xs k x)).cell a b ≡ (put_cell r c x (placed R C at xs)).cell a b
    here a b p q =
        inside_in R C a b (slice_get (set xs k x) (at a b)) (omega arith) (omega arith)
        ∙ ap (λ j. slice_get (set xs k x) j) (ap (λ j. at j b) p ∙ ap (at r) q ∙ sym e)
        ∙ nth_set_same xs k x l ∙ sym (put_here r c a b x (placed R C at xs) p q)

    there : (a b : ℕ) → (a ≡ r → b ≡ c → ⊥) → (placed R C at (set xs k x)).cell a b ≡ (put_cell r c x (placed R C at xs)).cell a b
    there a b ne = ⊎_elim
        (λ (ha : a < R). ⊎_elim
        (λ (hb : b < C). ap (inside R C a b) (nth_set_other xs k (at a b) x (λ z. let q = apart a b ha hb (z ∙ e) in ne q.0 q.1)) ∙ sym (put_apart r c a b x (placed R C at xs) ne))
        (λ (hb : C ≤ b). inside_right R C a b (slice_get (set xs k x) (at a b)) hb ∙ sym (put_apart r c a b x (placed R C at xs) ne ∙ inside_right R C a b (slice_get xs (at a b)) hb))
        (cases_lt b C))
        (λ (ha : R ≤ a). inside_below R C a b (slice_get (set xs k x) (at a b)) ha ∙ sym (put_apart r c a b x (placed R C at xs) ne ∙ inside_below R C a b (slice_get xs (at a b)) ha))
        (cases_lt a R)

pub put_laid : {T : Type 0} (f : Form) (xs : List T) (r c k : ℕ) (x : T) → r < f.rows → c < f.cols → k ≡ place f.order f.rows f.cols r c → k < length xs → laid f (set xs k x) ≡ put_cell r c x (laid f xs)
put_laid f xs r c k x hr hc = put_placed f.rows f.cols (place f.order f.rows f.cols) xs r c k x hr hc (λ a b ha hb e. place_apart f.order f.rows f.cols a b r c ha hb hr hc e)

-- a put of what lies at b into a, and of what lay at a into b
pub puts_swap : {T : Type 0} (a b : ℕ × ℕ) (x y : T) (m : Matrix T) → m.cell a.0 a.1 ≡ Some x → m.cell b.0 b.1 ≡ Some y → put_cell b.0 b.1 x (put_cell a.0 a.1 y m) ≡ swap_cells a b m
puts_swap a b x y m ex ey = same_matrix (put_cell b.0 b.1 x (put_cell a.0 a.1 y m)) (swap_cells a b m) refl refl (λ r c. grind (arith, nat_tests))

-- the cells at two places of a list, exchanged
pub swap_laid : {T : Type 0} (f : Form) (xs : List T) (a b : ℕ × ℕ) (j k : ℕ) → a.0 < f.rows → a.1 < f.cols → j ≡ place f.order f.rows f.cols a.0 a.1 → j < length xs → b.0 < f.rows → b.1 < f.cols → k ≡ place f.order f.rows f.cols b.0 b.1 → k < length xs → laid f (swap xs j k) ≡ swap_cells a b (laid f xs)
swap_laid f xs a b j k ra ca ej lj rb cb ek lk =
    let d = present xs j lj in
    let x = get_or xs j d in
    let y = get_or xs k d in
    ap (laid f) (sym (swap_is xs j k d lj lk))
    ∙ put_laid f (set xs j y) b.0 b.1 k x rb cb ek (omega (arith, length-set xs j y))
    ∙ ap (put_cell b.0 b.1 x) (put_laid f xs a.0 a.1 j y ra ca ej lj)
    ∙ puts_swap a b x y (laid f xs)
    (inside_in f.rows f.cols a.0 a.1 _ ra ca ∙ ap (slice_get xs) (sym ej) ∙ slice_get-get_or xs j d lj)
    (inside_in f.rows f.cols b.0 b.1 _ rb cb ∙ ap (slice_get xs) (sym ek) ∙ slice_get-get_or xs k d lk)
