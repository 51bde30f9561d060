use Rattle.std.proofs.Common.{arith}
use Rattle.flat.proofs.Stretches.{parts}
use Rattle.flat.proofs.moves.part.Goals as goal

pub returns : goal.returns
returns g c =
    let a = c.args in
    record { effect = parts a.s.now _ _ _ a.from a.to a.n a.at a.g a.x (omega arith) (omega arith) (omega arith) c.slide.ensures.effect c.slide-2.ensures.effect c.fill_part.ensures.effect }
