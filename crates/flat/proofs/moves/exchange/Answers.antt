use Rattle.std.proofs.Common.{arith}
use Rattle.flat.proofs.Parts.{crossed}
use Rattle.flat.proofs.moves.exchange.Goals as goal

pub returns : goal.returns
returns g c = record { effect = crossed c.args.s.now _ _ _ _ c.args.p c.args.q _ c.args.n (omega arith) (omega arith) (omega arith) c.split_at_mut-front.ensures.front c.split_at_mut-front.ensures.back c.swap_with_slice.ensures.after c.swap_with_slice.ensures.other_after }
