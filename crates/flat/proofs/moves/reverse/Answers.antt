use Rattle.std.proofs.Common.{◌+◌, ◌-◌, ◌*◌, arith}
use Rattle.flat.proofs.Flips.{facing_more}
use Rattle.flat.proofs.moves.reverse.Goals as goal

pub loop-k-preserved : goal.loop-k-preserved
loop-k-preserved g c =
    let a = c.args in
    facing_more a.s.now c.loop-k.s _ a.p (a.p + a.n - c.loop-k.k * 8) (c.loop-k.k * 8) _ 8 _ (omega arith) (omega arith) (omega arith) c.loop-k.invariant c.face.ensures.effect

pub loop-k-2-preserved : goal.loop-k-2-preserved
loop-k-2-preserved g c =
    let a = c.args in
    facing_more a.s.now c.loop-k-2.s _ a.p (a.p + a.n - c.loop-k-2.k) c.loop-k-2.k _ 1 _ (omega arith) (omega arith) (omega arith) c.loop-k-2.invariant c.face-in-loop-k-2.ensures.effect
