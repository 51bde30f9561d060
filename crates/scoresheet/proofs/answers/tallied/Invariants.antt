use Rattle.std.proofs.Common.{◌≡◌}
use Rattle.scoresheet.specs.Pages.{with_all}
use Rattle.scoresheet.proofs.answers.tallied.Given as goal

-- the counts so far, with what is left, are those with all
abbrev pub invariant-loop-call : goal.invariant-loop-call
invariant-loop-call g l = with_all l.tally l.call-iterator.a.rest.now l.call-iterator.b.rest.now ≡ with_all l.fn.tally l.calls l.said
