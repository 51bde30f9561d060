use Rattle.std.proofs.Common.{◌≡◌, ◌<◌, min, length, take, refl, ap, ◌∙◌, arith, get_or-take, length-take, length-take-le}
use Rattle.std.proofs.lemmas.Option.{slice_get_read}
use Rattle.matrix.specs.Matrix.{over}
use Rattle.matrix.proofs.Longer.{one_more}
use Rattle.matrix.proofs.Stretches.{take_clipped}
use Rattle.uses.specs.Lists.{State, next, reply, after, replies}
use Rattle.uses.proofs.lists.runs.run.Goals as goal

pub loop-k-init : goal.loop-k-init
loop-k-init g c = record { limits = refl; state = refl; said = refl }

pub loop-k-preserved : goal.loop-k-preserved
loop-k-preserved g c =
    let a = c.args in
    let l = c.loop-k in
    let n = c.min-n.result in
    let call = c.call-item.result in
    let short : length (take n a.calls.now) ≡ n = length-take-le n a.calls.now (omega (arith, c.min-n.ensures)) in
    let inside : l.k < n = omega (arith, c.loop-k-test.true, short) in
    let made = c.one-answer.ensures in
    let start : State g.row.B-Cell.Denot = record { matrix = g.B.Board.matrix a.b.now; memory = a.memory.now } in
    let was : State g.row.B-Cell.Denot = record { matrix = g.B.Board.matrix l.b; memory = l.memory } in
    let is : State g.row.B-Cell.Denot = record { matrix = g.B.Board.matrix c.one-answer.new.b; memory = c.one-answer.new.memory } in
    let p = one_more (λ m. next m a.lines.now) (λ m. reply m a.lines.now) (g.B.Board.limits a.b.now) (g.B.Board.limits l.b) a.calls.now start was a.answers.now l.answers l.k (g.B.Board.limits c.one-answer.new.b) is call c.one-answer.result
    (slice_get_read a.calls.now _ l.k _ refl (omega (arith, inside, c.min-n.ensures)) (c.call-item.is ∙ get_or-take n a.calls.now l.k call inside)) (omega (arith, inside, c.min-n.ensures)) (omega (arith, inside, c.min-n.ensures)) made.answer made.effect made.limits l.invariant in
    record { limits = p.limits; state = p.state; said = c.poke.ensures.effect ∙ p.said }

pub returns : goal.returns
returns g c =
    let a = c.args in
    let l = c.loop-k in
    let all : l.k ≡ min (length a.answers.now) (length a.calls.now) = omega (arith, c.min-n.ensures, length-take c.min-n.result a.calls.now) in
    let e = take_clipped a.calls.now (length a.answers.now) l.k all in
    let start : State g.row.B-Cell.Denot = record { matrix = g.B.Board.matrix a.b.now; memory = a.memory.now } in
    record {
      answer = l.invariant.said ∙ ap (λ cs. over (replies (g.B.Board.limits a.b.now) a.lines.now cs start) a.answers.now) e;
      effect = l.invariant.state ∙ ap (λ cs. after (g.B.Board.limits a.b.now) a.lines.now cs start) e;
      limits = l.invariant.limits;
    }
