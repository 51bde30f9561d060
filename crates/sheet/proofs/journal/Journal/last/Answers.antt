use Rattle.std.proofs.Common.{ap, ◌∙◌}
use Rattle.keeps.specs.Kept.{newest}
use Rattle.sheet.proofs.Ends.{last_newest}
use Rattle.sheet.proofs.journal.Journal.last.Goals as goal

pub returns : goal.returns
returns c = record { answer = c.copied.ensures ∙ c.last.ensures.value ∙ last_newest c.as_slice.result.now ∙ ap newest (c.as_slice.ensures.value ∙ c.self.view_is) }
