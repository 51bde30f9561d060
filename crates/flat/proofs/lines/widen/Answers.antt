use Rattle.std.proofs.Common.{◌≡◌, ℕ, ◌+◌, ◌-◌, ◌*◌, length, set, sym, refl, subst, arith}
use Rattle.std.proofs.lemmas.Option.{slice_get_read}
use Rattle.flat.proofs.Inserts.{Opened, opened_turn, opened_all}
use Rattle.flat.proofs.lines.widen.Goals as goal

pub loop-c-preserved : goal.loop-c-preserved
loop-c-preserved g c =
    let a = c.args in
    let t = c.loop-c.c in
    let ys = c.shift.new.s in
    let at = (t - 1) * (a.n + 1) + a.i in
    subst (λ zs. Opened a.s.now zs a.line.now (length a.line.now) a.n a.i (t - 1)) {x = set ys at c.index-line-c.result} (sym c.write.ensures.effect)
    (opened_turn a.s.now c.loop-c.s ys a.line.now _ a.n a.i t c.between-some.result c.index-line-c.result (omega arith) (omega (arith, c.loop-c.invariant.left)) (omega arith) c.requires.room c.between-some.ensures.whole c.between-some.ensures.last
    (slice_get_read a.line.now _ (t - 1) _ refl (omega (arith, c.loop-c.invariant.left)) c.index-line-c.is)
    c.loop-c.invariant c.shift.ensures.effect)

pub returns : goal.returns
returns g c =
    let a = c.args in
    let none : c.loop-c.c ≡ 0 = omega arith in
    record { effect = opened_all a.s.now _ a.line.now _ a.n a.i (omega arith) refl (subst (λ (k : ℕ). Opened a.s.now c.loop-c.s a.line.now (length a.line.now) a.n a.i k) none c.loop-c.invariant) }
