use Rattle.std.proofs.Common.{length, min, ap, ◌∙◌}
use Rattle.matrix.proofs.Held.{held_shaped}
use Rattle.grid.specs.Grids.{matrix, order}
use Rattle.walks.proofs.Indexes.{count_items}
use Rattle.walks.proofs.index.read_cells.Goals as goal

pub returns-clause-answer : goal.returns-clause-answer
returns-clause-answer g c =
    let grid = c.args.grid.now in
    let n = length c.args.memory.now in
    c.read.ensures.answer ∙ ap (λ xs. min n (length xs)) c.indexed_iter-walk.ensures.items ∙ ap (min n) (count_items (order grid) (matrix grid) (held_shaped grid.shape grid.cells.now))
