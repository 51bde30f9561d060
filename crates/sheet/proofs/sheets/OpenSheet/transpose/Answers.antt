use Rattle.std.proofs.Common.{rules, length, sym, refl, ap, ◌∙◌}
use Rattle.matrix.specs.Matrix.{turned}
use Rattle.sheet.specs.declared.edit.Edit.TheVariants.{Transpose}
use Rattle.sheet.proofs.Agreements.{has_room, plain_refused, plain_done}
use Rattle.sheet.proofs.sheets.OpenSheet.transpose.Goals as goal

pub returns-in_err-room : goal.returns-in_err-room
returns-in_err-room g c = record { follows = λ b h. plain_refused h _ c.from_residual.result _ (sym c.in_err-room.was ∙ c.room.ensures.answer) (search rules) }

pub returns : goal.returns
returns g c = record {
  follows = λ b h.
      let made = c.transpose.ensures in
      let p = has_room (length c.args.self.now.journal) (sym c.in_ok-room.was ∙ c.room.ensures.answer) in
      plain_done h Transpose (turned b.matrix) p (made.effect ∙ ap turned h.matrix) made.limits (c.note.ensures.effect p) refl refl;
}
