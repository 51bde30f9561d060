use Rattle.uses.proofs.Runs.{alike_after}
use Rattle.uses.proofs.lists.runs.run_both.Goals as goal

pub returns-clause-alike : goal.returns-clause-alike
returns-clause-alike g c =
    let a = c.run.ensures in
    let b = c.run-2.ensures in
    λ same. alike_after _ _ _ _ _ _ _ _ _ _ _ _ _ _ a.answer a.effect a.limits b.answer b.effect b.limits same
