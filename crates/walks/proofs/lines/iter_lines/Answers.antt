use Rattle.std.proofs.Common.{sym, ap, ◌∙◌}
use Rattle.grid.specs.Grids.{matrix}
use Rattle.walks.specs.Ends.{ahead}
use Rattle.walks.proofs.Handed.{all_ahead, cells_ahead}
use Rattle.walks.proofs.lines.iter_lines.Goals as goal

pub returns-clause-lines : goal.returns-clause-lines
returns-clause-lines g c =
    let m = matrix c.args.grid.now in
    ap (λ n. ahead (record { axis = c.args.axis; front = 0; back = n }) m) c.lines.ensures.answer ∙ sym (all_ahead c.args.axis m)

pub returns-clause-cells : goal.returns-clause-cells
returns-clause-cells g c = cells_ahead c.args.axis (matrix c.args.grid.now)
