use Rattle.std.proofs.Common.{rules}
use Rattle.seating.proofs.Seatings.{opened_seated}
use Rattle.seating.proofs.seating.edits.insert.Goals as goal

pub returns-clause-effect : goal.returns-clause-effect
returns-clause-effect g c =
    let a = c.args in
    opened_seated a.axis a.seats.now c.open.new.self a.i a.line.now a.s.now c.write_line.new.s c.open.ensures.effect c.write_line.ensures.effect (search rules) (search rules) (search rules) (search rules) (search rules)
