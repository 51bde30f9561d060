use Rattle.std.proofs.Common.{ap, ◌∙◌}
use Rattle.keeps.specs.Kept.{older}
use Rattle.sheet.proofs.Ends.{struck_off}
use Rattle.sheet.proofs.journal.Journal.strike.Goals as goal

pub returns : goal.returns
returns c = record { effect = c.pop.ensures.rest ∙ struck_off c.self.inside.edits.items ∙ ap older c.self.view_is }
