use Rattle.std.proofs.Common.{◌≡◌, map, take}
use Rattle.matrix.specs.Matrix.{over}
use Rattle.replay.specs.Laws.{exchange}
use Rattle.replay.proofs.call.exchange.exchange_all.Given as goal

abbrev pub invariant-loop-k : goal.invariant-loop-k
invariant-loop-k g l = l.exchanged ≡ over (map exchange (take l.k l.calls)) l.initial.exchanged
