use Rattle.std.proofs.Common.{ap, ◌∙◌}
use Rattle.matrix.specs.Shapes.{held}
use Rattle.matrix.proofs.Makes.{held_vacant}
use Rattle.grid.proofs.grid.Grid.clear.Goals as goal

pub returns-clause-effect : goal.returns-clause-effect
returns-clause-effect g c =
    let was = c.args.self.now in
    ap (λ f. held f was.cells.now) c.empty-self.ensures.answer ∙ held_vacant was.shape.order was.cells.now
