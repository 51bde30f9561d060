use Rattle.std.proofs.Common.{◌≡◌, ◌+◌, ◌<◌, min, length, take, sym, refl, ap, ◌∙◌, subst, arith, get_or-take, length-take, length-take-le}
use Rattle.std.proofs.lemmas.Option.{slice_get_read}
use Rattle.matrix.proofs.Stretches.{take_clipped}
use Rattle.replay.specs.World.{Ran, after}
use Rattle.replay.proofs.Runs.{ran_none, ran_more}
use Rattle.replay.proofs.lists.run.Goals as goal

pub loop-k-init : goal.loop-k-init
loop-k-init g c = λ w h m. ran_none g.B.Board g.K.Keep c.args.lines.now c.args.calls.now c.args.answers.now w c.args.state c.args.memory.now h m

pub loop-k-preserved : goal.loop-k-preserved
loop-k-preserved g c = λ w h m.
    let a = c.args in
    let l = c.loop-k in
    let ran = l.invariant w h m in
    let n = c.min-n.result in
    let call = c.call-item.result in
    let short : length (take n a.calls.now) ≡ n = length-take-le n a.calls.now (omega (arith, c.min-n.ensures)) in
    let inside : l.k < n = omega (arith, c.loop-k-test.true, short) in
    let made = c.step-next.ensures.steps (after a.lines.now (take l.k a.calls.now) w) ran.stands (sym ran.memory_is) in
    let long : length c.step-next.new.memory ≡ length w.memory = omega (arith, ap length m, c.step-next.auto.memory, l.auto.memory) in
    subst (λ z. Ran g.B.Board g.K.Keep c.step-next.result.0 c.step-next.new.memory a.answers.now z a.lines.now (take (l.k + 1) a.calls.now) w) (sym c.poke.ensures.effect)
    (ran_more g.B.Board g.K.Keep a.lines.now a.calls.now a.answers.now w l.k c.step-next.result.0 l.state c.step-next.result.1 c.step-next.new.memory l.memory l.answers call
    (slice_get_read a.calls.now _ l.k _ refl (omega (arith, inside, c.min-n.ensures)) (c.call-item.is ∙ get_or-take n a.calls.now l.k call inside)) (omega (arith, inside, c.min-n.ensures)) (omega (arith, inside, c.min-n.ensures)) made long ran)

pub returns : goal.returns
returns g c = record {
  ran = λ w h m.
      let a = c.args in
      let l = c.loop-k in
      let all : l.k ≡ min (length a.answers.now) (length a.calls.now) = omega (arith, c.min-n.ensures, length-take c.min-n.result a.calls.now) in
      subst (λ z. Ran g.B.Board g.K.Keep l.state l.memory a.answers.now l.answers a.lines.now z w) (take_clipped a.calls.now (length a.answers.now) l.k all) (l.invariant w h m);
}
