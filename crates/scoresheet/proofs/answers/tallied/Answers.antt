use Rattle.std.proofs.Common.{sym, ◌∙◌}
use Rattle.std.proofs.lemmas.Slice.Zip.{either_empty_from_Zip}
use Rattle.scoresheet.proofs.Tellings.{with_all_end}
use Rattle.scoresheet.proofs.answers.tallied.Goals as goal

pub returns : goal.returns
returns g c = record { answer = sym (with_all_end c.loop-call.tally _ _ (either_empty_from_Zip c.loop-call.call-iterator c.next.new.self c.next.result c.in-None.is c.next.ensures.steps)) ∙ c.loop-call.invariant }
