use Rattle.std.proofs.Common.{◌≡◌, ◌*◌, length, Ok, sym, ap, ◌∙◌, arith}
use Rattle.cells.specs.Refusals.{answered}
use Rattle.matrix.specs.Matrix.{empty}
use Rattle.matrix.specs.Rules.{from_vec}
use Rattle.grid.specs.Grids.{matrix, order}
use Rattle.grid.proofs.Owes.{grid_within}
use Rattle.mapping.specs.Maps.{map_answer, mapped}
use Rattle.mapping.proofs.Made.{met, accepts, made_flat}
use Rattle.mapping.proofs.map.map_ref.Goals as goal

pub returns-clause-effect : goal.returns-clause-effect
returns-clause-effect g c =
    let source = c.args.source.now in
    let m = matrix source in
    let within = grid_within source in
    let o = order source in
    let ys = c.answer_cells.new.memory in
    let n = length c.args.memory.now in
    let yes : map_answer n m ≡ Ok tt = sym c.map_check.ensures.answer ∙ accepts c.map_check.result (sym c.is_err.ensures.value ∙ c.if-is_err.false) in
    let room = met n m yes in
    c.from_vec_with_order-2.ensures.effect
    ∙ ap (λ k. from_vec k (c.size-rows.result.0 * c.size-rows.result.1) c.size-rows.result.1 ys) c.order-order.ensures.answer
    ∙ ap (λ p. from_vec o (p.0 * p.1) p.1 ys) {y = (m.rows, m.cols)} c.size-rows.ensures.answer
    ∙ made_flat o m.rows m.cols ys (omega (arith, room.small, c.answer_cells.ensures.len)) (omega (arith, room.room, c.answer_cells.ensures.len)) (omega (arith, within.tall)) (omega (arith, within.wide)) within.shaped.no_rows within.shaped.no_cols
    ∙ c.answer_cells.ensures.effect
    ∙ ap (λ a. answered a (mapped g.R.CellRule.rule m) empty) (sym yes)
