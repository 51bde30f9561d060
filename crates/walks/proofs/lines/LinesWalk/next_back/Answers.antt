use Rattle.std.proofs.Common.{min, ap, ◌∙◌}
use Rattle.std.specs.Result.{result_ok}
use Rattle.grid.specs.Grids.{matrix}
use Rattle.walks.proofs.Handed.{last_ahead, ended}
use Rattle.walks.proofs.lines.LinesWalk.next_back.Goals as goal

pub returns : goal.returns
returns g c =
    let w = c.args.self.now in
    let m = matrix c.args.grid.now in
    let end = c.min-end.result in
    let last = last_ahead w m end (c.min-end.ensures ∙ ap (min w.back) c.lines.ensures.answer) in
    record {
      answer = c.ok.ensures.value ∙ ap result_ok c.iter_line.ensures.answer ∙ last.answer c.if-end-self.false;
      effect = ended w m end last.count c.if-end-self.false;
      rest = last.rest c.if-end-self.false;
    }
