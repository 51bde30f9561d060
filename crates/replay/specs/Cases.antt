-- Small sheets worked by hand, those of boards among them.
use Rattle.std.specs.Prelude.{◌≡◌, ℕ, List, [], ◌∷◌, pos, Ok}
use Rattle.cells.specs.declared.kinds.Penalty.{Penalty}
use Rattle.matrix.specs.declared.shape.Order.TheVariants.{RowMajor}
use Rattle.matrix.specs.Shapes.{rowwise, flat}
use Rattle.matrix.specs.Rules.{grid_limits}
use Rattle.matrix.specs.Cases as boards
use Rattle.matrix.specs.declared.axis.Axis.TheVariants.{Row}
use Rattle.flat.specs.declared.segment.Segment.{Segment}
use Rattle.replay.specs.declared.call.Call.{Call}
use Rattle.replay.specs.declared.call.Call.TheVariants.{Put, Remove, StepBack, Owed, Kept}
use Rattle.replay.specs.declared.call.Answer.TheVariants.{Said, Count}
use Rattle.replay.specs.World.{World, begun, after, replies}

abbrev penalty : ℕ → Penalty
penalty n = record { 0 = pos n }

-- penalties 0 0 / 0 0 on a grid of 8 cells, with a keep of 4 and a memory of 2
abbrev none : World Penalty
none = begun (rowwise 2 2 (penalty 0 ∷ penalty 0 ∷ penalty 0 ∷ penalty 0 ∷ [])) (grid_limits 8) 4 (penalty 9 ∷ penalty 9 ∷ [])

abbrev all : Segment
all = record { start = 0; len = 2 }

-- two seconds at (0, 1), row 0 is withdrawn, and both are stepped back
abbrev calls : List (Call Penalty)
calls = Put 0 1 (penalty 2000) ∷ Remove Row 0 all ∷ Owed ∷ Kept ∷ StepBack all ∷ Kept ∷ StepBack all ∷ Kept ∷ []

pub record Cases : Type 0 where
  pub on_boards : boards.Cases
  pub answers : replies [] calls none ≡ Said (Ok tt) ∷ Said (Ok tt) ∷ Count 2 ∷ Count 3 ∷ Said (Ok tt) ∷ Count 1 ∷ Said (Ok tt) ∷ Count 0 ∷ []
  pub cells : ((after [] calls none).book.matrix.rows ≡ 2) × ((after [] calls none).book.matrix.cols ≡ 2) × (flat RowMajor (after [] calls none).book.matrix ≡ penalty 0 ∷ penalty 0 ∷ penalty 0 ∷ penalty 0 ∷ [])
  pub line : (after [] calls none).memory ≡ penalty 0 ∷ penalty 2000 ∷ []
