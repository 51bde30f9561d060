use Rattle.std.proofs.Common.{arith}
use Rattle.flat.proofs.Stretches.{strode_none, strode_more, strode_all}
use Rattle.flat.proofs.moves.stride.Goals as goal

pub loop-done-init : goal.loop-done-init
loop-done-init g c =
    let a = c.args in
    strode_none a.s.now a.from a.to a.n

pub loop-done-preserved : goal.loop-done-preserved
loop-done-preserved g c =
    let a = c.args in
    strode_more a.s.now c.loop-done.s _ a.from a.to a.n c.loop-done.done _ _ (omega arith) c.ahead-at.ensures.down c.ahead-at.ensures.up c.loop-done.invariant c.pass.ensures.effect

pub returns : goal.returns
returns g c =
    let a = c.args in
    record { effect = strode_all a.s.now _ a.from a.to a.n c.loop-done.done (omega arith) c.loop-done.invariant }
