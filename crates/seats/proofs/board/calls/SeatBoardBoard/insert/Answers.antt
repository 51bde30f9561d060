use Rattle.std.proofs.Common.{sym}
use Rattle.matrix.specs.Matrix.{insert_row}
use Rattle.seats.specs.Boards.{upright}
use Rattle.seats.proofs.Facings.{faced}
use Rattle.seats.proofs.board.calls.SeatBoardBoard.insert.Goals as goal

pub returns-clause-effect : goal.returns-clause-effect
returns-clause-effect g c =
    let was = c.args.self.now in
    let now = c.seat_line.new.self in
    let done = c.seat_line.ensures in
    rw done.facing (faced (insert_row c.args.i c.args.line.now) was.facing c.args.axis c.seat_line.result (upright was) (upright now) (rw (sym c.beneath-beneath.ensures.answer) done.effect))
