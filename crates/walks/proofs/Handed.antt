-- Which lines are handed out.
use Rattle.std.proofs.Common.{◌≡◌, ℕ, zero, suc, ◌+◌, ◌-◌, ◌<◌, ◌≤◌, ◌∷◌, min, cond, nat_lt, length, map, refl, Some, None, sym, ap, ◌∙◌, arith}
use Rattle.std.specs.Result.{result_ok}
use Rattle.std.proofs.lemmas.Bool.Decides.{nat_tests}
use Rattle.matrix.specs.declared.axis.Axis.{Axis}
use Rattle.matrix.specs.Matrix.{Matrix, listed}
use Rattle.matrix.specs.Axes.{along, line_of}
use Rattle.matrix.proofs.Undo.{listed_within}
use Rattle.walks.specs.declared.lines.LinesWalk.{LinesWalk}
use Rattle.walks.specs.declared.lines.End.TheVariants.{Back}
use Rattle.walks.specs.Walks.{whole_line, line_begun}
use Rattle.walks.specs.Walks as line
use Rattle.walks.specs.Ends.{all_lines, all_cells, ahead, stepped}
use Rattle.walks.proofs.Betweens.{all_between}
use Rattle.walks.proofs.Backwards.{Last, last_of}

module _ {T : Type 0} (ax : Axis) (m : Matrix T) where
  pub there : (i : ℕ) → i < (along ax m).rows → result_ok (line_begun ax i m) ≡ Some (whole_line ax i m)
  there i h = grind (arith, nat_tests)

  pub past : (i : ℕ) → (along ax m).rows ≤ i → result_ok (line_begun ax i m) ≡ None
  past i h = grind (arith, nat_tests)

  pub all_ahead : all_lines ax m ≡ ahead (record { axis = ax; front = 0; back = (along ax m).rows }) m
  all_ahead = listed_within (along ax m).rows (λ i. Some (whole_line ax i m)) (λ i. result_ok (line_begun ax i m)) (λ i h. sym (there i h)) ∙ all_between (along ax m).rows (λ i. result_ok (line_begun ax i m))

pub last_ahead : {T : Type 0} (w : LinesWalk) (m : Matrix T) (end : ℕ) → end ≡ min w.back (along w.axis m).rows → Last (ahead w m) w.front end (λ i. result_ok (line_begun w.axis i m))
last_ahead w m end e = last_of (along w.axis m).rows (λ i. result_ok (line_begun w.axis i m)) (λ i h. (whole_line w.axis i m, there w.axis m i h)) (past w.axis m) w.front w.back end e

some_left : {A : Type 0} (n : ℕ) (a b : A) → 0 < n → a ≡ cond (nat_lt 0 n) a b
some_left n a b h = grind (arith, nat_tests)

-- the walk ends before the line that has gone
pub ended : {T : Type 0} (w : LinesWalk) (m : Matrix T) (end : ℕ) → length (ahead w m) ≡ end - w.front → w.front < end → record { axis = w.axis; front = w.front; back = end - 1 } ≡ stepped m Back w
ended w m end e h =
    ap (λ k. record { axis = w.axis; front = w.front; back = k }) (let z : end - 1 ≡ w.front + length (ahead w m) - 1 = omega (arith, e) in z)
    ∙ some_left (length (ahead w m)) (record { axis = w.axis; front = w.front; back = w.front + length (ahead w m) - 1 }) w (omega (arith, e))

-- numbers made into items one by one
mapped : {X Y : Type 0} (n : ℕ) (f : ℕ → X) (g : X → Y) → map g (listed n (λ i. Some (f i))) ≡ listed n (λ i. Some (g (f i)))
mapped zero f g = refl
mapped (suc n) f g = ap (λ ys. g (f 0) ∷ ys) (mapped n (λ i. f (suc i)) g)

-- the walks along all lines give the lines
pub cells_ahead : {T : Type 0} (ax : Axis) (m : Matrix T) → map (λ w. line.ahead w m) (all_lines ax m) ≡ all_cells ax m
cells_ahead ax m =
    mapped (along ax m).rows (λ i. whole_line ax i m) (λ w. line.ahead w m)
    ∙ listed_within (along ax m).rows (λ i. Some (line.ahead (whole_line ax i m) m)) (λ i. Some (line_of ax i m)) (λ i h. ap Some (sym (all_between (along ax m).cols ((along ax m).cell i))))
