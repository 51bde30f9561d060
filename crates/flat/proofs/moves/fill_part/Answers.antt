use Rattle.std.proofs.Common.{rules, arith}
use Rattle.flat.proofs.Parts.{filled_part}
use Rattle.flat.proofs.moves.fill_part.Goals as goal

pub returns : goal.returns
returns g c = record { effect = filled_part _ _ c.args.x (λ y h k. search rules) c.args.s.now _ c.args.p c.args.n _ (omega arith) (omega arith) (search rules) c.fill_with.ensures.ran }
