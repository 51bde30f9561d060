use Rattle.std.proofs.lemmas.List.{take_all}
use Rattle.std.proofs.Common.{rules, ◌≡◌, ◌-◌, ◌≤◌, ◌++◌, length, take, drop, sym, ap, ◌∙◌, arith, take_at}
use Rattle.cells.specs.Refusals.{answered}
use Rattle.matrix.specs.Matrix.{over}
use Rattle.matrix.proofs.Along.{within_along}
use Rattle.matrix.proofs.Undo.{row_length}
use Rattle.keeps.specs.Kept.{holding}
use Rattle.matrix.specs.Axes.{along, removed, line_of}
use Rattle.sheet.proofs.Agreements.{has_room}
use Rattle.sheet.proofs.Removes.{checked_out, met_in, remove_no_journal, no_journal_memory, remove_no_keep, no_keep_memory, remove_accepted, accepted_memory}
use Rattle.sheet.proofs.sheets.OpenSheet.remove.Goals as goal

pub returns-in_err-room : goal.returns-in_err-room
returns-in_err-room g c =
    let was = c.args.self.now in
    let m = g.B.Board.matrix was.board in
    let w = g.met.B.Board.within was.board in
    let ok = checked_out c.remove_check.result c.args.i (length c.args.memory.now) _ (along c.args.axis m) c.remove_check.ensures.answer c.in_ok-remove_check.was c.lines-count.ensures.answer in
    let no = sym c.in_err-room.was ∙ c.room.ensures.answer in
    record {
      follows = λ b h. remove_no_journal h w c.args.axis c.args.i c.args.memory.now ok c.from_residual-in_err-room.result _ no (search rules);
      leaves = λ b h. no_journal_memory h w c.args.axis c.args.i c.args.memory.now ok _ no;
    }

pub returns-then-saturating_sub-across : goal.returns-then-saturating_sub-across
returns-then-saturating_sub-across g c =
    let was = c.args.self.now in
    let m = g.B.Board.matrix was.board in
    let w = g.met.B.Board.within was.board in
    let ok = checked_out c.remove_check.result c.args.i (length c.args.memory.now) _ (along c.args.axis m) c.remove_check.ensures.answer c.in_ok-remove_check.was c.lines-count.ensures.answer in
    let p = has_room (length was.journal) (sym c.in_ok-room.was ∙ c.room.ensures.answer) in
    let cols = ap (λ z. z.1) c.lines-count.ensures.answer in
    record {
      follows = λ b h. remove_no_keep h w c.args.axis c.args.i c.args.memory.now ok p (omega (arith, cols, c.limit.ensures.answer, c.count.ensures.answer h.ordered));
      leaves = λ b h. no_keep_memory h w c.args.axis c.args.i c.args.memory.now ok p (omega (arith, cols, c.limit.ensures.answer, c.count.ensures.answer h.ordered));
    }

pub returns : goal.returns
returns g c =
    let was = c.args.self.now in
    let ax = c.args.axis in
    let i = c.args.i in
    let memory = c.args.memory.now in
    let m = g.B.Board.matrix was.board in
    let w = g.met.B.Board.within was.board in
    let k = g.K.Keep.store was.keep in
    let n = c.lines-count.result.1 in
    let ok = checked_out c.remove_check.result i (length memory) _ (along ax m) c.remove_check.ensures.answer c.in_ok-remove_check.was c.lines-count.ensures.answer in
    let p = has_room (length was.journal) (sym c.in_ok-room.was ∙ c.room.ensures.answer) in
    let cols : n ≡ (along ax m).cols = ap (λ z. z.1) c.lines-count.ensures.answer in
    let out = c.remove.ensures in
    let yes = out.answer ∙ sym ok in
    let at = met_in i (length memory) (along ax m).rows (along ax m).cols ok in
    let size = row_length i (along ax m) (within_along ax w).shaped at in
    let mem = out.line ∙ ap (λ q. answered q (over (line_of ax i m) memory) memory) yes in
    let front = ap (take n) mem ∙ take_at (line_of ax i m) (drop (length (line_of ax i m)) memory) n (size ∙ sym cols) in
    record {
      follows = λ b h.
          let room : (along ax m).cols ≤ k.most - length k.cells = omega (arith, cols, c.limit.ensures.answer, c.count.ensures.answer h.ordered) in
          let all = take_all (k.most - length k.cells) (take n c.remove.new.memory) (omega (arith, ap length front, size)) in
          remove_accepted h w ax i memory ok n p room (c.push_line.ensures.ordered h.ordered) (out.effect ∙ ap (λ q. answered q (removed ax i m) m) yes) out.limits
          (c.push_line.ensures.effect h.ordered ∙ ap (λ xs. holding (k.cells ++ xs) k) (all ∙ front)) cols (c.note.ensures.effect p);
      leaves = λ b h.
          let room : (along ax m).cols ≤ k.most - length k.cells = omega (arith, cols, c.limit.ensures.answer, c.count.ensures.answer h.ordered) in
          accepted_memory h w ax i memory ok p room mem;
    }
