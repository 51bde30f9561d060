use Rattle.std.proofs.Common.{sym}
use Rattle.cells.specs.Refusals.{accepted}
use Rattle.matrix.specs.Matrix.{flip_rows}
use Rattle.seating.specs.Seats.{seated}
use Rattle.seating.proofs.Faces.{flipped_along}
use Rattle.seats.proofs.Facings.{faced}
use Rattle.seats.proofs.board.calls.SeatBoardBoard.flip.Goals as goal

pub returns-clause-effect : goal.returns-clause-effect
returns-clause-effect g c =
    let was = c.args.self.now in
    let s = was.seats in
    let t = c.flip.new.self in
    let xs = was.cells.now in
    let done = c.flip.ensures in
    faced flip_rows was.facing c.args.axis accepted (seated s xs) (seated t xs)
    (rw (sym c.beneath-beneath.ensures.answer) (flipped_along c.beneath-beneath.result s t xs done.table done.count done.side done.across))
