use Rattle.std.proofs.Common.{◌≡◌, ℕ, subst, arith}
use Rattle.flat.proofs.Deletes.{Closed, closed_more, closed_all}
use Rattle.flat.proofs.lines.narrow.Goals as goal

pub loop-c-preserved : goal.loop-c-preserved
loop-c-preserved g c =
    let a = c.args in
    closed_more a.s.now c.loop-c.s _ a.lines a.n a.i c.loop-c.c _ (omega arith) (omega arith) c.between-some.ensures.whole c.between-some.ensures.last c.loop-c.invariant c.shift.ensures.effect

pub returns : goal.returns
returns g c =
    let a = c.args in
    let all : c.loop-c.c ≡ a.lines = omega arith in
    record { effect = closed_all a.s.now _ a.lines a.n a.i (omega arith) (subst (λ (k : ℕ). Closed a.s.now c.loop-c.s a.lines a.n a.i k) all c.loop-c.invariant) }
