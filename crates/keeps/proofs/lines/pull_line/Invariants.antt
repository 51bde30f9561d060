use Rattle.std.proofs.Common.{◌≡◌, ◌-◌, min, ◌++◌, length, take, drop, reverse}
use Rattle.keeps.specs.Kept.{holding}
use Rattle.keeps.proofs.lines.pull_line.Given as goal

abbrev pub invariant-loop-place : goal.invariant-loop-place
invariant-loop-place g l =
    let k = g.K.Keep in
    let old = k.store l.initial.keep in
    let left = length old.cells - l.place-index in
    record {
      pulled : k.ordered l.initial.keep → k.ordered l.keep × (k.store l.keep ≡ holding (take left old.cells) old) × (l.memory ≡ reverse (drop left old.cells) ++ drop (min l.place-index (length old.cells)) l.initial.memory);
      most : (k.store l.keep).most ≡ old.most;
    }
