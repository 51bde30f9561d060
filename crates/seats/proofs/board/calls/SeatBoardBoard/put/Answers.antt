use Rattle.std.proofs.Common.{rules}
use Rattle.seating.proofs.Faces.{put_faced}
use Rattle.seats.proofs.board.calls.SeatBoardBoard.put.Goals as goal

pub returns-clause-effect : goal.returns-clause-effect
returns-clause-effect g c =
    let was = c.args.self.now in
    put_faced was.facing was.seats was.cells.now c.poke.new.s c.args.r c.args.c c.in_ok-k.k c.args.x (search rules) c.poke.ensures.effect
