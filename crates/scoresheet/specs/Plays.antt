-- What a run of a list answers.
use Rattle.std.specs.Prelude.{◌≡◌, ℕ, ◌+◌, min, List, length, take}
use Rattle.matrix.specs.declared.limits.Limits.{Limits}
use Rattle.matrix.specs.Matrix.{Matrix, empty, over}
use Rattle.matrix.specs.Rules.{cell_limit}
use Rattle.flat.specs.declared.segment.Segment.{Segment}
use Rattle.listing.specs.declared.call.Keeping.{Keeping}
use Rattle.listing.specs.declared.call.Keeping.TheVariants.{Stack, Joined}
use Rattle.replay.specs.declared.call.Call.{Call}
use Rattle.replay.specs.World.{World, begun, after, replies}
use Rattle.scoresheet.specs.declared.grounds.Run.{Run}
use Rattle.scoresheet.specs.declared.script.Plan.{Plan}
use Rattle.scoresheet.specs.declared.script.Supply.{Supply}
use Rattle.scoresheet.specs.declared.answers.Played.{Played}
use Rattle.scoresheet.specs.Rows.{rows_said, rows_laid}

-- M of the keep that a list asks for
abbrev pub keep_limit : Keeping → ℕ
keep_limit (Stack n) = min n cell_limit
keep_limit (Joined a b) = min (min a cell_limit + min b cell_limit) cell_limit

-- the rows and the calls for whose answers there is room
abbrev pub rows_of : {T : Type 0} → Run T → List Segment
rows_of run = take (length run.played.starts.items) run.supply.now.starts.items

abbrev pub calls_of : {T : Type 0} → Run T → List (Call T)
calls_of run = take (length run.played.answers.items) run.calls.now

-- the sheet as it begins: on a board of that matrix and those limits the rows are laid, and the keep has that M
abbrev pub opened : {T : Type 0} → Run T → Matrix T → Limits → ℕ → World T
opened run m l most = begun (rows_laid l run.supply.now.cells.items (rows_of run) m) l most run.played.memory.items

-- the rows are answered as they are laid, the calls as by the book of that sheet, and the memory is left as the book leaves it
pub record Plays {T : Type 0} (run : Run T) (m : Matrix T) (l : Limits) (most : ℕ) (played : Played T) : Type 0 where
  pub starts : played.starts.items ≡ over (rows_said l run.supply.now.cells.items (rows_of run) m) run.played.starts.items
  pub answers : played.answers.items ≡ over (replies run.supply.now.cells.items (calls_of run) (opened run m l most)) run.played.answers.items
  pub memory : played.memory.items ≡ (after run.supply.now.cells.items (calls_of run) (opened run m l most)).memory

-- the sheet as it begins, with that memory: on an empty board of those limits the rows are laid, and the keep is as asked for
abbrev pub new_sheet : {T : Type 0} → Keeping → Limits → Supply T → List T → World T
new_sheet keeping l supply memory = begun (rows_laid l supply.cells.items supply.starts.items empty) l (keep_limit keeping) memory

-- all rows and all calls of a plan are answered, with some memory of as many cells as the plan says
pub record PlaysPlan {T : Type 0} (keeping : Keeping) (l : Limits) (supply : Supply T) (plan : Plan T) (played : Played T) : Type 0 where
  pub pool : List T
  pub room : length pool ≡ plan.pool
  pub starts : played.starts.items ≡ rows_said l supply.cells.items supply.starts.items empty
  pub answers : played.answers.items ≡ replies supply.cells.items plan.calls.items (new_sheet keeping l supply pool)
  pub memory : played.memory.items ≡ (after supply.cells.items plan.calls.items (new_sheet keeping l supply pool)).memory
