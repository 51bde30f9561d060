use Rattle.std.proofs.Common.{rules, length, sym, refl, ap, ◌∙◌}
use Rattle.sheet.specs.declared.edit.Edit.TheVariants.{Flip}
use Rattle.matrix.specs.Axes.{flipped}
use Rattle.sheet.proofs.Undoes.{flip_undone}
use Rattle.sheet.proofs.Agreements.{has_room, plain_refused, plain_done, book_within}
use Rattle.sheet.proofs.sheets.OpenSheet.flip.Goals as goal

pub returns-in_err-room : goal.returns-in_err-room
returns-in_err-room g c = record { follows = λ b h. plain_refused h _ c.from_residual.result _ (sym c.in_err-room.was ∙ c.room.ensures.answer) (search rules) }

pub returns : goal.returns
returns g c = record {
  follows = λ b h.
      let made = c.flip.ensures in
      let p = has_room (length c.args.self.now.journal) (sym c.in_ok-room.was ∙ c.room.ensures.answer) in
      plain_done h (Flip c.args.axis) (flipped c.args.axis b.matrix) p (made.effect ∙ ap (flipped c.args.axis) h.matrix) made.limits (c.note.ensures.effect p) refl (flip_undone c.args.axis b.limits b.matrix (book_within h (g.met.B.Board.within c.args.self.now.board)));
}
