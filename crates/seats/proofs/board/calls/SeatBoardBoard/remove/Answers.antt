use Rattle.std.proofs.Common.{sym}
use Rattle.matrix.specs.Matrix.{remove_row}
use Rattle.seats.specs.Boards.{upright}
use Rattle.seats.proofs.Facings.{faced}
use Rattle.seats.proofs.board.calls.SeatBoardBoard.remove.Goals as goal

pub returns-clause-effect : goal.returns-clause-effect
returns-clause-effect g c =
    let was = c.args.self.now in
    let now = c.free_line.new.self in
    let done = c.free_line.ensures in
    rw done.facing (faced (remove_row c.args.i) was.facing c.args.axis c.free_line.result (upright was) (upright now) (rw (sym c.beneath-beneath.ensures.answer) done.effect))
