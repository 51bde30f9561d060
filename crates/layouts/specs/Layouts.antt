-- The memory of a ground, whether it can be made, and the limits of its board.
use Rattle.std.specs.Prelude.{ℕ, ◌*◌, cond, nat_lt, Result}
use Rattle.cells.specs.declared.refusal.Refusal.{Refusal}
use Rattle.cells.specs.Refusals.{refused, accepted}
use Rattle.matrix.specs.declared.limits.Limits.{Limits}
use Rattle.matrix.specs.Rules.{grid_limits}
use Rattle.listing.specs.declared.call.Ground.{Ground}
use Rattle.seats.specs.Boards.{made_limits}

-- seats have a cell for each two seats, and none where no memory would do
abbrev pub memory_under : Ground → ℕ
memory_under (Ground.Grid order n) = n
memory_under (Ground.Seats side) = cond (nat_lt 256 side) 0 (side * side)

-- a grid has at most 65,536 cells of memory, and a seat board at most 256 seats to a side
abbrev pub ground_answer : Ground → Result Unit Refusal
ground_answer (Ground.Grid order n) = refused 1 (nat_lt 65536 n) accepted
ground_answer (Ground.Seats side) = refused 1 (nat_lt 256 side) accepted

-- the limits of a board over that many cells of memory
abbrev pub ground_limits : ℕ → Ground → Limits
ground_limits n (Ground.Grid order cells) = grid_limits n
ground_limits n (Ground.Seats side) = made_limits n side
