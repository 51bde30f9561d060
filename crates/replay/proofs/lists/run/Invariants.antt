use Rattle.std.proofs.Common.{◌≡◌, take}
use Rattle.replay.specs.World.{World, Holds, Ran}
use Rattle.replay.proofs.lists.run.Given as goal

abbrev pub invariant-loop-k : goal.invariant-loop-k
invariant-loop-k g l = (w : World g.row.B-Cell.Denot) → Holds g.B.Board g.K.Keep l.initial.state w → w.memory ≡ l.initial.memory
    → Ran g.B.Board g.K.Keep l.state l.memory l.initial.answers l.answers l.lines (take l.k l.calls) w
