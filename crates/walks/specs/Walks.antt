-- What a walk along a line has still to give.
use Rattle.std.specs.Prelude.{ℕ, ◌+◌, ◌-◌, List, [], Option, Ok, Err, Result, nat_le}
use Rattle.cells.specs.declared.refusal.Refusal.{Refusal}
use Rattle.cells.specs.Refusals.{refused}
use Rattle.matrix.specs.declared.axis.Axis.{Axis}
use Rattle.matrix.specs.Matrix.{Matrix, listed}
use Rattle.matrix.specs.Axes.{along}
use Rattle.walks.specs.declared.line.LineWalk.{LineWalk}

-- the walk along all of line i
abbrev pub whole_line : {T : Type 0} → Axis → ℕ → Matrix T → LineWalk
whole_line ax i m = record { axis = ax; line = i; at = 0; end = (along ax m).cols }

abbrev pub line_begun : {T : Type 0} → Axis → ℕ → Matrix T → Result LineWalk Refusal
line_begun ax i m = refused 6 (nat_le (along ax m).rows i) (Ok (whole_line ax i m))

-- f at, f (at + 1) and so on before `end`, as a list that ends where f is absent
abbrev pub between : {X : Type 0} → ℕ → ℕ → (ℕ → Option X) → List X
between at end f = listed (end - at) (λ k. f (at + k))

-- The cells still to come, of a grid that holds m: those of the line from `at` on and before `end`, as far as it goes.
abbrev pub ahead : {T : Type 0} → LineWalk → Matrix T → List T
ahead w m = between w.at w.end ((along w.axis m).cell w.line)

-- the same of a walk that was asked for, and may be refused
abbrev pub all_ahead : {T : Type 0} → Result LineWalk Refusal → Matrix T → List T
all_ahead (Ok w) m = ahead w m
all_ahead (Err e) m = []

-- n places on
abbrev pub moved : ℕ → LineWalk → LineWalk
moved n w = record { axis = w.axis; line = w.line; at = w.at + n; end = w.end }
