use Rattle.std.proofs.Common.{length, refl, ap, ◌∙◌, arith}
use Rattle.std.proofs.lemmas.List.{set-get_or}
use Rattle.std.proofs.lemmas.Option.{slice_get_read}
use Rattle.cells.specs.Refusals.{answered}
use Rattle.matrix.specs.Matrix.{insert_row}
use Rattle.matrix.specs.Rules.{insert_row_answer}
use Rattle.matrix.proofs.Longer.{one_more, none_more}
use Rattle.scoresheet.specs.Rows.{row_said, row_laid}
use Rattle.scoresheet.proofs.grounds.lay.Goals as goal
use Rattle.scoresheet.proofs.grounds.lay.Goals.{in-Some, in_default}

pub loop-k-preserved : goal.loop-k-preserved
loop-k-preserved g c =
    let l = c.loop-k in
    let cells = c.as_slice-cells.result.now in
    let rows = c.as_slice-rows.result.now in
    let first = g.B.Board.limits c.args.board.now in
    let start = g.B.Board.matrix c.args.board.now in
    let bounds = g.B.Board.limits l.board in
    let was = g.B.Board.matrix l.board in
    elim c.match-get.branch [
      | in-Some w ↦
          let row = w.in-Some.row.now in
          let found = w.in-Some.ensures.lookup in
          let inside = found.3.0 in
          let last = ap (λ p. p.0) w.size-last.ensures.answer in
          let line = w.of.ensures.answer in
          let said = w.insert.ensures.answer ∙ (λ i. insert_row_answer bounds (last i) (line i) was) in
          let matrix = w.insert.ensures.effect ∙ (λ i. answered (said i) (insert_row (last i) (line i) was) was) in
          let p = one_more (λ m. row_laid m cells) (λ m. row_said m cells) first bounds rows start was c.args.starts.now l.starts l.k (g.B.Board.limits w.insert.new.self) (g.B.Board.matrix w.insert.new.self) row w.insert.result
          (slice_get_read rows (length rows) l.k row refl inside found.1) inside (omega arith) said matrix w.insert.ensures.limits l.invariant in
          record { limits = ap g.B.Board.limits w.board-is ∙ p.limits; state = ap g.B.Board.matrix w.board-is ∙ p.state; said = w.starts-is ∙ p.said }
      | in_default w ↦
          let p = none_more (λ m. row_laid m cells) (λ m. row_said m cells) first bounds rows start was c.args.starts.now l.starts l.k w.in_default.ensures.lookup.3 l.invariant in
          record { limits = ap g.B.Board.limits w.board-is ∙ p.limits; state = ap g.B.Board.matrix w.board-is ∙ p.state; said = w.starts-is ∙ set-get_or l.starts l.k _ ∙ p.said }
    ]
