use Rattle.std.proofs.Common.{◌*◌, ℕ, sym, ap, ◌∙◌}
use Rattle.matrix.proofs.Held.{held_shaped}
use Rattle.grid.specs.Grids.{matrix, order}
use Rattle.walks.specs.Indexed.{flat_item, ahead}
use Rattle.walks.proofs.Betweens.{all_between}
use Rattle.walks.proofs.Indexes.{in_flat_order}
use Rattle.walks.proofs.index.indexed_iter.Goals as goal

pub returns-clause-items : goal.returns-clause-items
returns-clause-items g c =
    let grid = c.args.grid.now in
    let m = matrix grid in
    let o = order grid in
    ap (λ (p : ℕ × ℕ). ahead (record { at = 0; end = p.0 * p.1 }) o m) {y = (m.rows, m.cols)} c.size-rows.ensures.answer ∙ sym (all_between (m.rows * m.cols) (flat_item o m))

pub returns-clause-cells : goal.returns-clause-cells
returns-clause-cells g c =
    let grid = c.args.grid.now in
    in_flat_order (order grid) (matrix grid) (held_shaped grid.shape grid.cells.now)
