use Rattle.std.proofs.Common.{◌≡◌, ℕ, length, take, drop, ap, ◌∙◌, arith, length-take-le, drop_at}
use Rattle.replay.specs.World.{started}
use Rattle.replay.specs.Laws.{room, exchange}
use Rattle.replay.proofs.Mirrors.{take_mapped, law_of, front_is, mirrored}
use Rattle.replay.proofs.mirror.replay_both.Goals as goal

pub returns : goal.returns
returns g c =
    let a = c.args in
    let calls = a.calls.now in
    let n : ℕ = room calls a.exchanged.now a.answers.now a.other_answers.now in
    let is : c.min-n.result ≡ n = omega (arith, c.min.ensures, c.min-2.ensures, c.min-n.ensures) in
    let came : length c.replay-one.new.answers ≡ n = c.replay-one.auto.answers ∙ length-take-le c.min-n.result a.answers.now (omega (arith, is)) ∙ is in
    let came_too : length c.replay-two.new.answers ≡ n = c.replay-two.auto.answers ∙ length-take-le c.min-n.result a.other_answers.now (omega (arith, is)) ∙ is in
    let lent : length (take c.min-n.result a.answers.now) ≡ n = length-take-le c.min-n.result a.answers.now (omega (arith, is)) ∙ is in
    let lent_too : length (take c.min-n.result a.other_answers.now) ≡ n = length-take-le c.min-n.result a.other_answers.now (omega (arith, is)) ∙ is in
    let one = law_of g.B.Board g.K.Keep c.replay-one.result c.replay-one.new.memory a.lines.now (started g.B.Board g.K.Keep a.board a.keep a.memory.now)
    (front_is n (length calls) c.replay-one.new.answers _ came (omega arith)) (ap (λ k. take k calls) lent) c.replay-one.ensures.law in
    let two = law_of g.C.Board g.L.Keep c.replay-two.result c.replay-two.new.memory a.lines.now (started g.C.Board g.L.Keep a.other_board a.other_keep a.other_memory.now)
    (front_is n (length c.exchange_all.new.exchanged) c.replay-two.new.answers _ came_too (omega (arith, c.exchange_all.auto.exchanged)))
    (ap (λ k. take k c.exchange_all.new.exchanged) lent_too ∙ ap (take n) c.exchange_all.ensures.effect ∙ take_mapped exchange n calls a.exchanged.now (omega arith) (omega arith)) c.replay-two.ensures.law in
    record {
      law = one;
      other = two;
      mirrored = mirrored g.B.Board g.K.Keep g.C.Board g.L.Keep
          c.replay-one.result c.replay-two.result c.replay-one.new.memory c.replay-two.new.memory _ _ a.lines.now (take n calls)
          (g.B.Board.matrix a.board) (g.C.Board.matrix a.other_board) (g.B.Board.limits a.board) (g.C.Board.limits a.other_board) (g.K.Keep.store a.keep).most (g.L.Keep.store a.other_keep).most a.memory.now a.other_memory.now one two;
      exchanged = c.exchange_all.ensures.effect;
      rest = drop_at c.replay-one.new.answers _ n came ∙ ap (λ k. drop k a.answers.now) is;
      other_rest = drop_at c.replay-two.new.answers _ n came_too ∙ ap (λ k. drop k a.other_answers.now) is;
    }
