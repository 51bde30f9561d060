use Rattle.std.proofs.Common.{◌≡◌, ◌-◌, ◌++◌, length, take}
use Rattle.keeps.specs.Kept.{holding}
use Rattle.keeps.proofs.lines.push_line.Given as goal

abbrev pub invariant-loop-x : goal.invariant-loop-x
invariant-loop-x g l =
    let k = g.K.Keep in
    let old = k.store l.initial.keep in
    record {
      pushed : k.ordered l.initial.keep → k.ordered l.keep × (k.store l.keep ≡ holding (old.cells ++ take (old.most - length old.cells) (take l.x-index l.line)) old);
      most : (k.store l.keep).most ≡ old.most;
    }
