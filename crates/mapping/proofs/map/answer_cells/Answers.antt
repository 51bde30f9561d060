use Rattle.std.proofs.Common.{◌≡◌, ◌+◌, ◌*◌, length, sym, ap, ◌∙◌, arith}
use Rattle.matrix.specs.Shapes.{form, fitted, laid}
use Rattle.matrix.proofs.Held.{fitted_room}
use Rattle.mapping.specs.Maps.{outer}
use Rattle.mapping.proofs.Passes.{passed_more, passed_all}
use Rattle.mapping.proofs.Places.{fitted_order, all_lines, cell_there, place_there, missing}
use Rattle.mapping.proofs.map.answer_cells.Goals as goal
use Rattle.mapping.proofs.map.answer_cells.Goals.{in-Some, in_default}

pub loop-i-preserved : goal.loop-i-preserved
loop-i-preserved g c =
    let xs = c.args.source.now.cells.now in
    let f = fitted (length xs) (form c.args.source.now.shape) in
    let ax = c.outer-axis.result in
    let bx = c.other.result in
    let n = c.lines-across.result in
    let o = c.loop-o.o in
    let i = c.loop-i.i in
    let facing : ax ≡ outer f.order = c.outer-axis.ensures.answer ∙ ap outer (c.order.ensures.answer ∙ sym (fitted_order (length xs) (form c.args.source.now.shape))) in
    let inside = place_there f xs ax bx c.lines-o-end.result n facing c.other.ensures.answer c.lines-o-end.ensures.answer c.lines-across.ensures.answer o i (omega arith) (omega arith) in
    let there = cell_there f xs ax bx c.lines-o-end.result n facing c.other.ensures.answer c.lines-o-end.ensures.answer c.lines-across.ensures.answer o i c.pair-r.result (omega arith) (omega arith) c.pair-r.ensures.answer in
    let got = sym there ∙ sym c.get.ensures.answer in
    elim c.match-get.branch [
      | in-Some w ↦ passed_more g.R.CellRule.rule xs c.args.memory.now c.loop-i.memory c.match-get.memory (o * n + i) (o * n + (i + 1)) w.in-Some.x w.answer.result c.loop-i.invariant (omega (arith, inside)) (got ∙ w.in-Some.is) w.answer.ensures.answer (w.memory-is ∙ w.poke.ensures.effect) (omega arith)
      | in_default w ↦ absurd (missing xs (o * n + i) (omega (arith, inside, fitted_room (length xs) (form c.args.source.now.shape))) (got ∙ w.in_default.is))
    ]

pub returns-clause-effect : goal.returns-clause-effect
returns-clause-effect g c =
    let xs = c.args.source.now.cells.now in
    let f = fitted (length xs) (form c.args.source.now.shape) in
    let ax = c.outer-axis.result in
    let n = c.lines-across.result in
    let order : f.order ≡ c.args.source.now.shape.order = fitted_order (length xs) (form c.args.source.now.shape) in
    let facing : ax ≡ outer f.order = c.outer-axis.ensures.answer ∙ ap outer (c.order.ensures.answer ∙ sym order) in
    let all = all_lines f xs ax c.other.result c.lines-o-end.result n facing c.other.ensures.answer c.lines-o-end.ensures.answer c.lines-across.ensures.answer in
    let last : c.loop-o.o ≡ c.lines-o-end.result = omega arith in
    ap (λ z. laid (record { rows = f.rows; cols = f.cols; order = z }) c.loop-o.memory) (sym order)
    ∙ passed_all g.R.CellRule.rule f xs c.args.memory.now c.loop-o.memory (c.loop-o.o * n) (ap (λ z. z * n) last ∙ all) c.loop-o.invariant
