use Rattle.std.proofs.Common.{rules, length, sym, ap, ◌∙◌}
use Rattle.cells.specs.Refusals.{answered}
use Rattle.matrix.specs.Axes.{along, inserted}
use Rattle.sheet.proofs.Agreements.{has_room}
use Rattle.sheet.proofs.Edits.{checked, insert_refused, insert_accepted}
use Rattle.sheet.proofs.sheets.OpenSheet.insert.Goals as goal

pub returns-in_err-room : goal.returns-in_err-room
returns-in_err-room g c = record {
  follows = λ b h.
      let was = c.args.self.now in
      let m = g.B.Board.matrix was.board in
      let ok = checked c.insert_check.result _ (g.B.Board.limits was.board) c.args.i (length c.args.line.now) _ (along c.args.axis m) c.insert_check.ensures.answer c.in_ok-insert_check.was c.bounds.ensures.answer c.lines-count.ensures.answer in
      insert_refused h (g.met.B.Board.within was.board) c.args.axis c.args.i c.args.line.now ok c.from_residual-in_err-room.result _ (sym c.in_err-room.was ∙ c.room.ensures.answer) (search rules);
}

pub returns : goal.returns
returns g c = record {
  follows = λ b h.
      let was = c.args.self.now in
      let m = g.B.Board.matrix was.board in
      let line = c.args.line.now in
      let p = has_room (length was.journal) (sym c.in_ok-room.was ∙ c.room.ensures.answer) in
      let ok = checked c.insert_check.result _ (g.B.Board.limits was.board) c.args.i (length line) _ (along c.args.axis m) c.insert_check.ensures.answer c.in_ok-insert_check.was c.bounds.ensures.answer c.lines-count.ensures.answer in
      let made = c.insert.ensures in
      let is = made.effect ∙ ap (λ q. answered q (inserted c.args.axis c.args.i line m) m) (made.answer ∙ sym ok) in
      insert_accepted h (g.met.B.Board.within was.board) c.args.axis c.args.i line ok p is made.limits (c.note.ensures.effect p);
}
