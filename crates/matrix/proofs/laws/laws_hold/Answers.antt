use Rattle.matrix.proofs.Undo.{undone}
use Rattle.matrix.proofs.Flats.{shown}
use Rattle.matrix.proofs.laws.laws_hold.Goals as goal

pub returns-clause-undone : goal.returns-clause-undone
returns-clause-undone g c = undone _

pub returns-clause-shown : goal.returns-clause-shown
returns-clause-shown g c = shown _
