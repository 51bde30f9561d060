use Rattle.std.proofs.Common.{arith}
use Rattle.std.proofs.lemmas.List.{places}
use Rattle.std.proofs.lemmas.Bool.Decides.{nat_tests}
use Rattle.seating.proofs.bench.calls.shift_in.Goals as goal

pub returns-clause-moved : goal.returns-clause-moved
returns-clause-moved c k h =
    let by = c.rotate_right.ensures.by_index in
    grind (arith, nat_tests, places)
