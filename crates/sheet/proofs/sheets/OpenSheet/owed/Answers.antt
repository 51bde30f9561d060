use Rattle.std.proofs.Common.{length, ap, ◌∙◌}
use Rattle.sheet.proofs.Agreements.{length_edits}
use Rattle.sheet.proofs.sheets.OpenSheet.owed.Goals as goal

pub returns : goal.returns
returns g c = record { answer = λ b h. c.count.ensures.answer ∙ ap length h.notes ∙ length_edits b.entries }
