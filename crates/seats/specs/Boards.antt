-- What a seat board means.
use Rattle.std.specs.Prelude.{ℕ, ◌*◌, ◌||◌, length, Result, nat_lt}
use Rattle.cells.specs.declared.refusal.Refusal.{Refusal}
use Rattle.cells.specs.Refusals.{refused, accepted, answered}
use Rattle.matrix.specs.declared.limits.Limits.{Limits}
use Rattle.matrix.specs.Axes.{along, pair}
use Rattle.matrix.specs.Matrix.{Matrix}
use Rattle.matrix.specs.Rules.{side_limit}
use Rattle.seats.specs.declared.board.SeatBoard.{SeatBoard}
use Rattle.seating.specs.Seats.{seated, seated_limits, spot_of}

abbrev pub upright : {T : Type 0} → SeatBoard T → Matrix T
upright b = seated b.seats b.cells.now

abbrev pub matrix : {T : Type 0} → SeatBoard T → Matrix T
matrix b = along b.facing (upright b)

abbrev pub limits : {T : Type 0} → SeatBoard T → Limits
limits b = seated_limits b.seats (length b.cells.now)

-- the flat place of the cell at row r and column c
abbrev pub flat_place : {T : Type 0} → SeatBoard T → ℕ → ℕ → ℕ
flat_place b r c = spot_of b.seats (pair b.facing r c).0 (pair b.facing r c).1

-- A seat board of S rows and columns is asked for over N cells of memory.
abbrev pub seats_answer : ℕ → ℕ → Result Unit Refusal
seats_answer N S = refused 1 (nat_lt side_limit S || nat_lt N (S * S)) accepted

-- the limits of the board that is made: S is 0 where it is refused
abbrev pub made_limits : ℕ → ℕ → Limits
made_limits N S = answered (seats_answer N S) (record { side = S; most = S * S }) (record { side = 0; most = 0 })
