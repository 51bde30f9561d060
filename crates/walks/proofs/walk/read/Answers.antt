use Rattle.std.proofs.Common.{◌∙◌}
use Rattle.std.proofs.lemmas.List.{set-get_or}
use Rattle.walks.proofs.Readings.{read_more, read_end}
use Rattle.walks.proofs.walk.read.Goals as goal

pub loop-k-preserved : goal.loop-k-preserved
loop-k-preserved g c =
    let w = c.next.ensures in
    read_more g.W.Walk.moved g.met.W.Walk.further c.args.walk.now (g.W.Walk.ahead c.args.walk.now c.args.grid.now) c.args.memory.now c.loop-k.k c.loop-k.walk c.next.new.self (g.W.Walk.ahead c.loop-k.walk c.args.grid.now) (g.W.Walk.ahead c.next.new.self c.args.grid.now) c.loop-k.memory c.loop-k.invariant w.effect w.rest c.next.result c.in-Some.item c.in-Some.is w.answer c.loop-k-test.true

pub returns-in-None : goal.returns-in-None
returns-in-None g c =
    let w = c.next.ensures in
    let end = read_end g.W.Walk.moved g.met.W.Walk.further c.args.walk.now (g.W.Walk.ahead c.args.walk.now c.args.grid.now) c.args.memory.now c.loop-k.k c.loop-k.walk c.next.new.self (g.W.Walk.ahead c.loop-k.walk c.args.grid.now) (g.W.Walk.ahead c.next.new.self c.args.grid.now) c.loop-k.memory c.loop-k.invariant w.effect w.rest c.next.result c.in-None.is w.answer c.loop-k-test.true in
    record { answer = end.count; effect = end.state; line = set-get_or c.loop-k.memory c.loop-k.k _ ∙ end.taken; rest = end.rest }
