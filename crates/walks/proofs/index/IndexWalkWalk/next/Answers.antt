use Rattle.std.proofs.Common.{sym, ap, ◌∙◌}
use Rattle.grid.specs.Grids.{matrix, order}
use Rattle.walks.specs.Indexed.{flat_item}
use Rattle.walks.proofs.Betweens.{step_some, step_none}
use Rattle.walks.proofs.index.IndexWalkWalk.next.Goals as goal

pub returns : goal.returns
returns g c =
    let w = c.args.self.now in
    let step = step_some w.at w.end (flat_item (order c.args.grid.now) (matrix c.args.grid.now)) c.in_ok-item.item c.if-self.false (sym c.item.ensures.answer ∙ c.in_ok-item.was) in
    record { answer = step.answer; effect = ap (λ k. record { at = k; end = w.end }) step.place; rest = step.rest }

pub returns-in_err-item : goal.returns-in_err-item
returns-in_err-item g c =
    let w = c.args.self.now in
    let step = step_none w.at w.end (flat_item (order c.args.grid.now) (matrix c.args.grid.now)) (λ _. sym c.item.ensures.answer ∙ c.in_err-item.was) in
    record { answer = c.from_residual.ensures ∙ step.answer; effect = ap (λ k. record { at = k; end = w.end }) step.place; rest = step.rest }
