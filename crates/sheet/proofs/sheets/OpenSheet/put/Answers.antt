use Rattle.std.proofs.Common.{◌≡◌, Err, rules, length, sym, ◌∙◌}
use Rattle.cells.specs.declared.refusal.Refusal.TheVariants.{Place}
use Rattle.sheet.proofs.Agreements.{has_room}
use Rattle.sheet.proofs.Edits.{put_nowhere, put_no_journal, put_no_keep, put_accepted}
use Rattle.sheet.proofs.sheets.OpenSheet.put.Goals as goal

pub returns-in_err-old : goal.returns-in_err-old
returns-in_err-old g c =
    let is : c.from_residual.result ≡ Err Place = search rules in
    record {
      follows = λ b h. rw is (put_nowhere h (g.met.B.Board.within c.args.self.now.board) c.args.r c.args.c c.args.x (sym c.get.ensures.answer ∙ c.in_err-old.ensures.ok_part));
    }

pub returns-in_err-room : goal.returns-in_err-room
returns-in_err-room g c = record {
  follows = λ b h.
      put_no_journal h (g.met.B.Board.within c.args.self.now.board) c.args.r c.args.c c.args.x c.in_ok-old.old (sym c.get.ensures.answer ∙ c.in_ok-old.ensures.ok_part)
      c.from_residual-in_err-room.result _ (sym c.in_err-room.was ∙ c.room.ensures.answer) (search rules);
}

pub returns-in_err-push : goal.returns-in_err-push
returns-in_err-push g c = record {
  follows = λ b h.
      let p = has_room (length c.args.self.now.journal) (sym c.in_ok-room.was ∙ c.room.ensures.answer) in
      let made = c.push.ensures in
      put_no_keep h (g.met.B.Board.within c.args.self.now.board) c.args.r c.args.c c.args.x c.in_ok-old.old (sym c.get.ensures.answer ∙ c.in_ok-old.ensures.ok_part)
      c.from_residual-in_err-push.result c.push.result _ p (made.ordered h.ordered) c.in_err-push.was (made.answer h.ordered) (made.effect h.ordered) (search rules);
}

pub returns : goal.returns
returns g c = record {
  follows = λ b h.
      let p = has_room (length c.args.self.now.journal) (sym c.in_ok-room.was ∙ c.room.ensures.answer) in
      let made = c.push.ensures in
      let put = c.put.ensures in
      put_accepted h (g.met.B.Board.within c.args.self.now.board) c.args.r c.args.c c.args.x c.in_ok-old.old (sym c.get.ensures.answer ∙ c.in_ok-old.ensures.ok_part)
      c.push.result c.put.result p (made.ordered h.ordered) c.in_ok-push.was (made.answer h.ordered) (made.effect h.ordered) put.answer put.effect put.limits (c.note.ensures.effect p);
}
