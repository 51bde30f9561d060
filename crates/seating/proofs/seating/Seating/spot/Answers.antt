use Rattle.std.proofs.Common.{arith}
use Rattle.seating.specs.Benches.{seat}
use Rattle.seating.proofs.Owes.{spot_within}
use Rattle.seating.proofs.seating.Seating.spot.Goals as goal

pub returns-clause-inside : goal.returns-clause-inside
returns-clause-inside c =
    let s = c.args.self.now in
    let q = s.square in
    let b = s.across.below c.args.c (omega arith) in
    spot_within s.down.side (seat s.down c.args.r) (seat s.across c.args.c) (s.down.below c.args.r (omega arith)) (omega arith)
