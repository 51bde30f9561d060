use Rattle.std.proofs.Common.{ap, ◌∙◌}
use Rattle.matrix.specs.Axes.{along}
use Rattle.grid.specs.Grids.{matrix}
use Rattle.walks.proofs.Betweens.{step_some, step_none}
use Rattle.walks.proofs.Places.{cell_along}
use Rattle.walks.proofs.line.LineWalkWalk.next.Goals as goal

pub returns : goal.returns
returns g c =
    let w = c.args.self.now in
    let m = matrix c.args.grid.now in
    let here = cell_along w.axis m w.line w.at c.pair-r.result c.get.result c.pair-r.ensures.answer c.get.ensures.answer in
    let step = step_some w.at w.end ((along w.axis m).cell w.line) c.in_ok-cell.cell c.if-self.false (here ∙ c.in_ok-cell.was) in
    record { answer = step.answer; effect = ap (λ k. record { axis = w.axis; line = w.line; at = k; end = w.end }) step.place; rest = step.rest }

pub returns-in_err-cell : goal.returns-in_err-cell
returns-in_err-cell g c =
    let w = c.args.self.now in
    let m = matrix c.args.grid.now in
    let here = cell_along w.axis m w.line w.at c.pair-r.result c.get.result c.pair-r.ensures.answer c.get.ensures.answer in
    let step = step_none w.at w.end ((along w.axis m).cell w.line) (λ _. here ∙ c.in_err-cell.was) in
    record { answer = c.from_residual.ensures ∙ step.answer; effect = ap (λ k. record { axis = w.axis; line = w.line; at = k; end = w.end }) step.place; rest = step.rest }
