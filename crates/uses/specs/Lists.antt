-- What a list of board calls answers and leaves, read on a matrix, limits and memory alone.
use Rattle.std.specs.Prelude.{◌≡◌, List}
use Rattle.cells.specs.Refusals.{answered}
use Rattle.matrix.specs.declared.limits.Limits.{Limits}
use Rattle.matrix.specs.Matrix.{Matrix, put_cell, over, turned}
use Rattle.matrix.specs.Rules.{put_answer}
use Rattle.matrix.specs.Axes.{inserted, removed, line_of, flipped, insert_along, remove_along}
use Rattle.matrix.specs.Runs as runs
use Rattle.flat.specs.Segments.{part}
use Rattle.uses.specs.declared.lists.Call.{Call}
use Rattle.uses.specs.declared.lists.Call.TheVariants.{Size, Bounds, Get, Put, Insert, Remove, Transpose, Flip}
use Rattle.uses.specs.declared.lists.Answer.{Answer}
use Rattle.uses.specs.declared.lists.Answer.TheVariants.{Sized, Bounded, Cell, Said, Done}

-- a board's matrix, and the memory that removals write to
pub record State (T : Type 0) : Type 0 where
  pub matrix : Matrix T
  pub memory : List T

abbrev pub reply : {T : Type 0} → Limits → List T → Call T → State T → Answer T
reply l lines Size s = Sized s.matrix.rows s.matrix.cols
reply l lines Bounds s = Bounded l
reply l lines (Get r c) s = Cell (s.matrix.cell r c)
reply l lines (Put r c x) s = Said (put_answer r c s.matrix)
reply l lines (Insert ax i g) s = Said (insert_along l ax i (part lines g) s.matrix)
reply l lines (Remove ax i) s = Said (remove_along ax i s.memory s.matrix)
reply l lines Transpose s = Done
reply l lines (Flip ax) s = Done

abbrev pub next_matrix : {T : Type 0} → Limits → List T → Call T → State T → Matrix T
next_matrix l lines Size s = s.matrix
next_matrix l lines Bounds s = s.matrix
next_matrix l lines (Get r c) s = s.matrix
next_matrix l lines (Put r c x) s = answered (put_answer r c s.matrix) (put_cell r c x s.matrix) s.matrix
next_matrix l lines (Insert ax i g) s = answered (insert_along l ax i (part lines g) s.matrix) (inserted ax i (part lines g) s.matrix) s.matrix
next_matrix l lines (Remove ax i) s = answered (remove_along ax i s.memory s.matrix) (removed ax i s.matrix) s.matrix
next_matrix l lines Transpose s = turned s.matrix
next_matrix l lines (Flip ax) s = flipped ax s.matrix

abbrev pub next_memory : {T : Type 0} → Call T → State T → List T
next_memory Size s = s.memory
next_memory Bounds s = s.memory
next_memory (Get r c) s = s.memory
next_memory (Put r c x) s = s.memory
next_memory (Insert ax i g) s = s.memory
next_memory (Remove ax i) s = answered (remove_along ax i s.memory s.matrix) (over (line_of ax i s.matrix) s.memory) s.memory
next_memory Transpose s = s.memory
next_memory (Flip ax) s = s.memory

abbrev pub next : {T : Type 0} → Limits → List T → Call T → State T → State T
next l lines call s = record { matrix = next_matrix l lines call s; memory = next_memory call s }

-- a whole list: what is left, and the answers in their order
abbrev pub after : {T : Type 0} → Limits → List T → List (Call T) → State T → State T
after l lines cs s = runs.after (next l lines) cs s

abbrev pub replies : {T : Type 0} → Limits → List T → List (Call T) → State T → List (Answer T)
replies l lines cs s = runs.replies (next l lines) (reply l lines) cs s

-- two boards, with the memory and the answers beside them, of which all is equal
pub record Alike {T : Type 0} (m n : Matrix T) (l k : Limits) (xs ys : List T) (us vs : List (Answer T)) : Type 0 where
  pub matrix : m ≡ n
  pub limits : l ≡ k
  pub memory : xs ≡ ys
  pub answers : us ≡ vs
