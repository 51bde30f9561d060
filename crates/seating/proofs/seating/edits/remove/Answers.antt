use Rattle.std.proofs.Common.{rules}
use Rattle.seating.proofs.Seatings.{closed_seated}
use Rattle.seating.proofs.seating.edits.remove.Goals as goal

pub returns-clause-effect : goal.returns-clause-effect
returns-clause-effect g c =
    let a = c.args in
    closed_seated a.axis a.seats.now c.close.new.self a.i a.s.now c.close.ensures.effect (search rules) (search rules)
