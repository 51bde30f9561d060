use Rattle.std.proofs.Common.{subst}
use Rattle.replay.specs.World.{Holds}
use Rattle.replay.proofs.Runs.{owes_nothing}
use Rattle.replay.proofs.lists.parts.Goals as goal

pub returns-in-Published-clause-owed : goal.returns-in-Published-clause-owed
returns-in-Published-clause-owed g c = λ w h. owes_nothing g.B.Board g.K.Keep c.in-Published.sheet w (subst (λ z. Holds g.B.Board g.K.Keep z w) c.in-Published.is h)
