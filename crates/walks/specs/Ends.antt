-- Lines from both ends.
use Rattle.std.specs.Prelude.{◌≡◌, ℕ, ◌+◌, ◌-◌, cond, List, [], ◌∷◌, ◌++◌, length, take, drop, reverse, min, Some, Option, nat_lt}
use Rattle.std.specs.List.{slice_get}
use Rattle.std.specs.Option.{option_to_list}
use Rattle.std.specs.Result.{result_ok}
use Rattle.matrix.specs.declared.axis.Axis.{Axis}
use Rattle.matrix.specs.Matrix.{Matrix, listed}
use Rattle.matrix.specs.Axes.{along, line_of}
use Rattle.matrix.specs.Runs.{after, replies}
use Rattle.walks.specs.declared.line.LineWalk.{LineWalk}
use Rattle.walks.specs.declared.lines.End.{End}
use Rattle.walks.specs.declared.lines.End.TheVariants.{Front, Back}
use Rattle.walks.specs.declared.lines.LinesWalk.{LinesWalk}
use Rattle.walks.specs.Walks.{between, whole_line, line_begun}

-- the first or the last of a list, and what is left without it
abbrev pub reply : {X : Type 0} → End → List X → Option X
reply Front xs = slice_get xs 0
reply Back xs = slice_get xs (length xs - 1)

abbrev pub next : {X : Type 0} → End → List X → List X
next Front xs = drop 1 xs
next Back xs = take (length xs - 1) xs

-- the same for a list of ends: all that was given, in order, and what is left
abbrev pub given : {X : Type 0} → List End → List X → List (Option X)
given ends xs = replies next reply ends xs

abbrev pub left : {X : Type 0} → List End → List X → List X
left ends xs = after next ends xs

-- of the answers to a list of ends, what came from the front, and what came from the back
abbrev pub fronts : {X : Type 0} → List End → List (Option X) → List X
fronts (Front ∷ ends) (o ∷ os) = option_to_list o ++ fronts ends os
fronts (Back ∷ ends) (o ∷ os) = fronts ends os
fronts ends os = []

abbrev pub backs : {X : Type 0} → List End → List (Option X) → List X
backs (Front ∷ ends) (o ∷ os) = backs ends os
backs (Back ∷ ends) (o ∷ os) = option_to_list o ++ backs ends os
backs ends os = []

-- Each once, whatever the order of the ends: what came from the front, what is left, and what came from the back turned round
-- are all that there was. Each end takes one, as long as there is one, so that with as many ends nothing is left.
pub record Once {X : Type 0} (ends : List End) (all rest : List X) : Type 0 where
  pub each : fronts ends (given ends all) ++ (rest ++ reverse (backs ends (given ends all))) ≡ all
  pub count : length rest ≡ length all - length ends

-- the walk over all lines
abbrev pub whole : {T : Type 0} → Axis → Matrix T → LinesWalk
whole ax m = record { axis = ax; front = 0; back = (along ax m).rows }

-- every line, first to last, each by the walk along all of it
abbrev pub all_lines : {T : Type 0} → Axis → Matrix T → List LineWalk
all_lines ax m = listed (along ax m).rows (λ i. Some (whole_line ax i m))

-- every line, first to last, as its cells
abbrev pub all_cells : {T : Type 0} → Axis → Matrix T → List (List T)
all_cells ax m = listed (along ax m).rows (λ i. Some (line_of ax i m))

-- The lines still to come, of a grid that holds m: those from `front` on and before `back`, as far as it has them.
abbrev pub ahead : {T : Type 0} → LinesWalk → Matrix T → List LineWalk
ahead w m = between w.front w.back (λ i. result_ok (line_begun w.axis i m))

-- n lines on
abbrev pub moved : ℕ → LinesWalk → LinesWalk
moved n w = record { axis = w.axis; front = w.front + n; back = w.back }

-- where a walk stands after a step from that end: past the first line still to come, or before the last one, if there is one
abbrev pub stepped : {T : Type 0} → Matrix T → End → LinesWalk → LinesWalk
stepped m Front w = moved (min 1 (length (ahead w m))) w
stepped m Back w = cond (nat_lt 0 (length (ahead w m))) (record { axis = w.axis; front = w.front; back = w.front + length (ahead w m) - 1 }) w
