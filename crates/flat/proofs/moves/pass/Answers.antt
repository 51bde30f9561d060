use Rattle.std.proofs.Common.{arith}
use Rattle.std.proofs.lemmas.List.{length-replicate}
use Rattle.flat.proofs.Stretches.{passed, unmoved}
use Rattle.flat.proofs.moves.pass.Goals as goal

pub returns-then-n-gt0 : goal.returns-then-n-gt0
returns-then-n-gt0 g c =
    let a = c.args in
    record { effect = passed a.s.now _ _ _ a.from a.to a.n _ (omega arith) c.requires.from c.requires.to (omega (arith, length-replicate g.row.N c.index-s-0.result)) c.copy_from_slice.ensures.after c.copy_from_slice-then-n-gt0.ensures.after }

pub returns-else-n-gt0 : goal.returns-else-n-gt0
returns-else-n-gt0 g c =
    let a = c.args in
    record { effect = unmoved a.s.now a.from a.to a.n (omega arith) }
