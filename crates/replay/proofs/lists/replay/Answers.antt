use Rattle.std.proofs.Common.{refl}
use Rattle.replay.proofs.Lawful.{ended}
use Rattle.replay.specs.World.{started}
use Rattle.replay.proofs.lists.replay.Goals as goal

pub returns : goal.returns
returns g c =
    let a = c.args in
    let m = g.B.Board.matrix a.board in
    let l = g.B.Board.limits a.board in
    let most = (g.K.Keep.store a.keep).most in
    let ran = c.run.ensures.ran (started g.B.Board g.K.Keep a.board a.keep a.memory.now) (refl, c.new-sheet.ensures.stands) refl in
    let left = c.parts in
    let both = ended g.B.Board g.K.Keep c.run.result left.result c.run.new.memory a.answers.now c.run.new.answers a.lines.now a.calls.now m l most a.memory.now left.ensures.board left.ensures.keep left.ensures.owed ran in
    record { law = both.0; rest = both.1 }
