use Rattle.std.proofs.Common.{rules}
use Rattle.sheet.proofs.Agreements.{settled}
use Rattle.sheet.proofs.sheets.OpenSheet.publish.Goals as goal

-- kept: each fact is looked for by its own tactic, and no step is named, so that a body that lacks one fails at that fact
pub returns : goal.returns
returns g c = record { closed = λ b h. settled h (search rules) (search rules) (search rules) (search rules) }
