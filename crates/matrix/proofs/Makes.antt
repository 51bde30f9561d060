-- What a making gives.
use Rattle.std.proofs.Common.{◌≡◌, ℕ, ◌*◌, ◌/◌, ◌%◌, ◌<◌, ◌≤◌, Bool, true, false, cond, ◌||◌, eqb, List, length, take, Some, Ok, Err, Result, sym, refl, ap, ◌∙◌, ⊎_elim, div-add-mod', arith, length-take-le, take_all}
use Rattle.std.specs.List.{slice_get}
use Rattle.std.proofs.lemmas.Bool.Decides.{nat_tests}
use Rattle.std.proofs.lemmas.Bool.{cases_lt, cases_eq}
use Rattle.cells.specs.declared.refusal.Refusal.{Refusal}
use Rattle.cells.specs.Refusals.{answered}
use Rattle.matrix.specs.declared.shape.Order.{Order}
use Rattle.matrix.specs.Matrix.{Matrix, empty, filled}
use Rattle.matrix.specs.declared.shape.Shape.{Shape}
use Rattle.matrix.specs.Shapes.{Form, form, place, laid, held, vacant}
use Rattle.matrix.specs.Rules.{grid_limits, from_vec_answer, from_vec, new_answer, init}
use Rattle.matrix.proofs.Whole.{same_inside, whole_inside}
use Rattle.matrix.proofs.Held.{held_in}
use Rattle.matrix.specs.Makings.{from_vec_form, new_form}

pub laid_vacant : {T : Type 0} (o : Order) (xs : List T) → laid (vacant o) xs ≡ empty
laid_vacant o xs = same_inside (laid (vacant o) xs) empty
    (whole_inside 0 0 (λ r c. slice_get xs (place o 0 0 r c)))
    (record { below = λ r c h. refl; right = λ r c h. refl })
    refl refl (λ r c hr hc. absurd (omega arith))

pub held_vacant : {T : Type 0} (o : Order) (xs : List T) → held (vacant o) xs ≡ empty
held_vacant o xs = held_in (vacant o) xs (omega arith) ∙ laid_vacant o xs

-- the first cells of a memory leave the limits of a grid as they are
pub limits_taken : {T : Type 0} (xs ys : List T) → ys ≡ take 65536 xs → grid_limits (length ys) ≡ grid_limits (length xs)
limits_taken xs ys e = ⊎_elim
    (λ (h : 65536 < length xs). ap (λ n. record { side = 256; most = n }) (let l : length ys ≡ 65536 = ap length e ∙ length-take-le 65536 xs (omega arith) in omega arith))
    (λ (h : length xs ≤ 65536). ap (λ zs. grid_limits (length zs)) (e ∙ take_all 65536 xs h))
    (cases_lt 65536 (length xs))

-- what an accepted count of cells has met
record Accepted (N n cols : ℕ) : Type 0 where
  small : N ≤ 65536
  whole : n % cols ≡ 0
  room : n ≤ N

met : (N n cols : ℕ) → (n ≡ 0 → ⊥) → Ok tt ≡ from_vec_answer N n cols → Accepted N n cols
met N n cols ne e = record { small = grind (arith, nat_tests); whole = grind (arith, nat_tests); room = grind (arith, nat_tests) }

pub made_vec : {T : Type 0} (o : Order) (n cols : ℕ) (xs ys : List T) → ys ≡ take 65536 xs → held (from_vec_form (length xs) n cols o) ys ≡ from_vec o n cols xs
made_vec {T} o n cols xs ys e = go (from_vec_answer (length xs) n cols) refl
  where
    go : (r : Result Unit Refusal) → r ≡ from_vec_answer (length xs) n cols → held (answered r (cond (eqb n 0) (vacant o) (record { rows = n / cols; cols = cols; order = o })) (vacant o)) ys ≡ answered r (cond (eqb n 0) empty (laid (record { rows = n / cols; cols = cols; order = o }) xs)) empty
    go (Ok tt) a = ⊎_elim
        (λ (z : n ≡ 0).
        let l : cond (eqb n 0) (vacant o) (record { rows = n / cols; cols = cols; order = o }) ≡ vacant o = grind (arith, nat_tests) in
        let m : cond (eqb n 0) (empty {T = T}) (laid (record { rows = n / cols; cols = cols; order = o }) xs) ≡ empty = grind (arith, nat_tests) in
        ap (λ f. held f ys) l ∙ held_vacant o ys ∙ sym m)
        (λ (z : n ≡ 0 → ⊥).
        let k = met (length xs) n cols z a in
        let same : ys ≡ xs = e ∙ take_all 65536 xs k.small in
        let l : cond (eqb n 0) (vacant o) (record { rows = n / cols; cols = cols; order = o }) ≡ record { rows = n / cols; cols = cols; order = o } = grind (arith, nat_tests) in
        let m : cond (eqb n 0) (empty {T = T}) (laid (record { rows = n / cols; cols = cols; order = o }) xs) ≡ laid (record { rows = n / cols; cols = cols; order = o }) xs = grind (arith, nat_tests) in
        ap (λ f. held f ys) l ∙ ap (held (record { rows = n / cols; cols = cols; order = o })) same ∙ held_in (record { rows = n / cols; cols = cols; order = o }) xs (omega (arith, div-add-mod' n cols, k.whole, k.room)) ∙ sym m)
        (cases_eq n 0)
    go (Err d) a = held_vacant o ys

vacant_order : (o : Order) (r : Result Unit Refusal) (b : Bool) (R C : ℕ) → (answered r (cond b (vacant o) (record { rows = R; cols = C; order = o })) (vacant o)).order ≡ o
vacant_order o (Ok tt) true R C = refl
vacant_order o (Ok tt) false R C = refl
vacant_order o (Err e) b R C = refl

pub vec_order : (o : Order) (N n cols : ℕ) (s : Shape) → form s ≡ from_vec_form N n cols o → s.order ≡ o
vec_order o N n cols s e = ap (λ (f : Form). f.order) e ∙ vacant_order o (from_vec_answer N n cols) (eqb n 0) (n / cols) cols

filled_empty : {T : Type 0} (x : T) → filled 0 0 x ≡ empty
filled_empty x = same_inside (filled 0 0 x) empty
    (whole_inside 0 0 (λ r c. Some x))
    (record { below = λ r c h. refl; right = λ r c h. refl })
    refl refl (λ r c hr hc. absurd (omega arith))

-- one cell everywhere in a matrix of this size
abbrev refilled : {T : Type 0} → T → Matrix T → Matrix T
refilled x m = filled m.rows m.cols x

pub made_new : {T : Type 0} (o : Order) (rows cols : ℕ) (x : T) (xs ys : List T) → ys ≡ take 65536 xs → filled (held (new_form (length xs) rows cols o) ys).rows (held (new_form (length xs) rows cols o) ys).cols x ≡ init (length xs) rows cols x
made_new {T} o rows cols x xs ys e = go (new_answer (length xs) rows cols) refl
  where
    none : refilled x (held (vacant o) ys) ≡ empty
    none = ap (refilled x) (held_vacant o ys) ∙ filled_empty x

    go : (r : Result Unit Refusal) → r ≡ new_answer (length xs) rows cols → refilled x (held (answered r (cond (eqb rows 0 || eqb cols 0) (vacant o) (record { rows = rows; cols = cols; order = o })) (vacant o)) ys) ≡ answered r (cond (eqb rows 0 || eqb cols 0) empty (filled rows cols x)) empty
    go (Ok tt) a = by (eqb rows 0 || eqb cols 0) refl
      where
        by : (b : Bool) → b ≡ (eqb rows 0 || eqb cols 0) → refilled x (held (cond b (vacant o) (record { rows = rows; cols = cols; order = o })) ys) ≡ cond b empty (filled rows cols x)
        by true _ = none
        by false z =
            let small : length xs ≤ 65536 = grind (arith, nat_tests) in
            let room : rows * cols ≤ length xs = grind (arith, nat_tests) in
            let same : ys ≡ xs = e ∙ take_all 65536 xs small in
            ap (refilled x) (held_in (record { rows = rows; cols = cols; order = o }) ys (omega (arith, ap length same)))
    go (Err d) a = none

pub new_order : (o : Order) (N rows cols : ℕ) (s : Shape) → form s ≡ new_form N rows cols o → s.order ≡ o
new_order o N rows cols s e = ap (λ (f : Form). f.order) e ∙ vacant_order o (new_answer N rows cols) (eqb rows 0 || eqb cols 0) rows cols

-- as many cells as were read in
pub vec_count : {T : Type 0} (o : Order) (n cols : ℕ) (xs : List T) → (from_vec o n cols xs).rows * (from_vec o n cols xs).cols ≡ answered (from_vec_answer (length xs) n cols) n 0
vec_count {T} o n cols xs = go (from_vec_answer (length xs) n cols) refl
  where
    size : Matrix T → ℕ
    size m = m.rows * m.cols

    go : (r : Result Unit Refusal) → r ≡ from_vec_answer (length xs) n cols → size (answered r (cond (eqb n 0) empty (laid (record { rows = n / cols; cols = cols; order = o }) xs)) empty) ≡ answered r n 0
    go (Ok tt) a = by (eqb n 0) refl
      where
        by : (b : Bool) → b ≡ eqb n 0 → size (cond b empty (laid (record { rows = n / cols; cols = cols; order = o }) xs)) ≡ n
        by true z = let e : n ≡ 0 = grind (arith, nat_tests) in sym e
        by false z =
            let ne : n ≡ 0 → ⊥ = λ e. grind (arith, nat_tests) in
            omega (arith, div-add-mod' n cols, (met (length xs) n cols ne a).whole)
    go (Err d) a = refl
