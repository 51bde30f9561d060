use Rattle.std.proofs.Common.{ap, ◌∙◌}
use Rattle.matrix.specs.Shapes.{form, held}
use Rattle.matrix.proofs.Held.{held_turned}
use Rattle.grid.proofs.grid.Grid.transpose.Goals as goal

pub returns-clause-effect : goal.returns-clause-effect
returns-clause-effect g c =
    let was = c.args.self.now in
    ap (λ f. held f was.cells.now) c.turned-self.ensures.answer ∙ held_turned (form was.shape) was.cells.now
