use Rattle.std.proofs.Common.{sym, ap, ◌∙◌}
use Rattle.std.specs.Result.{result_ok}
use Rattle.grid.specs.Grids.{matrix}
use Rattle.walks.specs.Walks.{line_begun}
use Rattle.walks.proofs.Betweens.{step_some, step_none}
use Rattle.walks.proofs.lines.LinesWalkWalk.next.Goals as goal

pub returns : goal.returns
returns g c =
    let w = c.args.self.now in
    let m = matrix c.args.grid.now in
    let step = step_some w.front w.back (λ i. result_ok (line_begun w.axis i m)) c.in_ok-line.line c.if-self.false (ap result_ok (sym c.iter_line.ensures.answer) ∙ sym c.ok.ensures.value ∙ c.in_ok-line.was) in
    record { answer = step.answer; effect = ap (λ k. record { axis = w.axis; front = k; back = w.back }) step.place; rest = step.rest }

pub returns-in_err-line : goal.returns-in_err-line
returns-in_err-line g c =
    let w = c.args.self.now in
    let m = matrix c.args.grid.now in
    let step = step_none w.front w.back (λ i. result_ok (line_begun w.axis i m)) (λ _. ap result_ok (sym c.iter_line.ensures.answer) ∙ sym c.ok.ensures.value ∙ c.in_err-line.was) in
    record { answer = c.from_residual.ensures ∙ step.answer; effect = ap (λ k. record { axis = w.axis; front = k; back = w.back }) step.place; rest = step.rest }
