use Rattle.std.proofs.Common.{◌≡◌, ◌≤◌, ◌++◌, length, take, drop, Some, Err, rules, sym, refl, ap, ◌∙◌, arith, length-take-le, take_at}
use Rattle.cells.specs.Refusals.{answered}
use Rattle.matrix.specs.Matrix.{turned}
use Rattle.keeps.specs.Kept.{older}
use Rattle.keeps.proofs.Pulls.{pulled_back}
use Rattle.cells.specs.declared.refusal.Refusal.TheVariants.{NothingOwed}
use Rattle.sheet.specs.declared.edit.Edit.{Edit}
use Rattle.sheet.specs.declared.edit.Edit.TheVariants.{Put, Insert, Remove, Transpose, Flip}
use Rattle.matrix.specs.Axes.{flipped, inserted, insert_along}
use Rattle.sheet.specs.Book.{Book, kept}
use Rattle.sheet.specs.Sheets.{Stands}
use Rattle.sheet.proofs.Backs.{Newest, Back, back_by, is_newest, back_nothing, back_short, back_done, same_keep, can_undo, undo_insert, undo_put, undo_remove, put_cell_back, keep_ends}
use Rattle.sheet.proofs.sheets.OpenSheet.step_back.Goals as goal
use Rattle.sheet.proofs.sheets.OpenSheet.step_back.Goals.{in-Put+in_ok-old-in-Put, in-Insert+else-memory-n, in-Remove+else-memory-n-2, in-Transpose, in-Flip}

pub returns-in_err-edit : goal.returns-in_err-edit
returns-in_err-edit g c =
    let is : c.from_residual.result ≡ Err NothingOwed = search rules in
    let none = sym c.in_err-edit.ensures.ok_part ∙ c.last.ensures.answer in
    record {
      follows = λ b h. rw is (back_nothing h c.args.memory.now none).0;
      leaves = λ b h. (back_nothing h c.args.memory.now none).1;
    }

pub returns-in_err-old-in-Put : goal.returns-in_err-old-in-Put
returns-in_err-old-in-Put g c =
    let none : (b : Book g.row.B-Cell.Denot) → Stands g.B.Board g.K.Keep c.args.self.now b → ⊥ = λ b h.
    let nw = is_newest h (Put c.in-Put.r c.in-Put.c) (ap Some (sym c.in-Put.is) ∙ sym c.in_ok-edit.ensures.ok_part ∙ c.last.ensures.answer) in
    let there = (put_cell_back h c.args.memory.now c.in-Put.r c.in-Put.c nw c.take.result (c.take.ensures.answer h.ordered)).1.0 in
    search (rules, c.in_err-old-in-Put.ensures.ok_part, there) in
    record { follows = λ b h. absurd (none b h); leaves = λ b h. absurd (none b h) }

pub returns-then-memory-n : goal.returns-then-memory-n
returns-then-memory-n g c =
    let e = Insert c.in-Insert.axis c.in-Insert.i c.in-Insert.n in
    let newest = ap Some (sym c.in-Insert.is) ∙ sym c.in_ok-edit.ensures.ok_part ∙ c.last.ensures.answer in
    record {
      follows = λ b h. (back_short h e (is_newest h e newest) c.args.memory.now (omega arith)).0;
      leaves = λ b h. (back_short h e (is_newest h e newest) c.args.memory.now (omega arith)).1;
    }

pub returns-then-memory-n-2 : goal.returns-then-memory-n-2
returns-then-memory-n-2 g c =
    let e = Remove c.in-Remove.axis c.in-Remove.i c.in-Remove.n in
    let newest = ap Some (sym c.in-Remove.is) ∙ sym c.in_ok-edit.ensures.ok_part ∙ c.last.ensures.answer in
    record {
      follows = λ b h. (back_short h e (is_newest h e newest) c.args.memory.now (omega arith)).0;
      leaves = λ b h. (back_short h e (is_newest h e newest) c.args.memory.now (omega arith)).1;
    }

pub returns : goal.returns
returns g c =
    let was = c.args.self.now in
    let memory = c.args.memory.now in
    let board = g.B.Board in
    let keep = g.K.Keep in
    let m = board.matrix was.board in
    let l = board.limits was.board in
    let done : (b : Book g.row.B-Cell.Denot) → Stands board keep was b → Back board keep c.match-edit.self c.strike.new.self c.match-edit.memory memory b = λ b h.
    let newest : (e : Edit) → c.in_ok-edit.edit ≡ e → Newest b e = λ e is. is_newest h e (ap Some (sym is) ∙ sym c.in_ok-edit.ensures.ok_part ∙ c.last.ensures.answer) in
    elim c.match-edit.branch [
      | in-Put+in_ok-old-in-Put w ↦
          let r = w.in-Put.r in
          let col = w.in-Put.c in
          let took = w.take.ensures in
          let put = w.put.ensures in
          let struck = c.strike.ensures.effect ∙ ap (λ s. older s.journal) w.self-is in
          back_by board keep memory b w.self-is w.memory-is
          (undo_put h memory r col (newest (Put r col) w.in-Put.is) w.put.result w.in_ok-old-in-Put.old (took.ordered h.ordered) (sym w.in_ok-old-in-Put.ensures.ok_part ∙ took.answer h.ordered) (took.effect h.ordered) put.answer put.effect put.limits struck)
      | in-Insert+else-memory-n w ↦
          let i = w.in-Insert in
          let out = w.remove.ensures in
          let struck = c.strike.ensures.effect ∙ ap (λ s. older s.journal) w.self-is in
          let long : i.n ≤ length memory = omega (arith, w.if-memory-n.false) in
          back_by board keep memory b w.self-is w.memory-is
          (undo_insert h memory i.axis i.i i.n (newest (Insert i.axis i.i i.n) i.is) w.remove.result long out.answer out.effect out.line out.limits struck)
      | in-Remove+else-memory-n-2 w ↦
          let struck = c.strike.ensures.effect ∙ ap (λ s. older s.journal) w.self-is in
          let long : w.in-Remove.n ≤ length memory = omega (arith, w.if-memory-n-2.false) in
          let ax = w.in-Remove.axis in
          let i = w.in-Remove.i in
          let n = w.in-Remove.n in
          let e = Remove ax i n in
          let nw = newest e w.in-Remove.is in
          let can = can_undo h e nw memory in
          let off = w.pull_line.new.memory in
          let back = pulled_back (keep.store was.keep) (kept nw.rest) nw.entry.taken (take n memory) (keep_ends h e nw memory) (can.1 ∙ sym (length-take-le n memory long)) in
          let pulled = w.pull_line.ensures in
          let off_is = pulled.memory h.ordered ∙ back.1 in
          let size : length off ≡ n = ap length off_is ∙ can.1 in
          let part = take_at off (drop n memory) n size in
          let into = w.insert.ensures in
          back_by board keep memory b w.self-is w.memory-is
          (undo_remove h memory ax i n nw w.insert.result off long (pulled.ordered h.ordered) off_is (pulled.effect h.ordered ∙ back.0)
          (into.answer ∙ ap (λ z. insert_along l ax i z m) part) (into.effect ∙ ap (λ z. answered w.insert.result (inserted ax i z m) m) part) (ap (λ j. off ++ drop j memory) (sym size)) into.limits struck)
      | in-Transpose w ↦
          let nw = newest Transpose w.in-Transpose.is in
          let out = w.transpose.ensures in
          let struck = c.strike.ensures.effect ∙ ap (λ s. older s.journal) w.self-is in
          back_by board keep memory b w.self-is w.memory-is
          (back_done h Transpose nw memory (omega arith) h.ordered (out.effect ∙ ap turned h.matrix) out.limits (same_keep h Transpose nw memory (can_undo h Transpose nw memory)) struck refl)
      | in-Flip w ↦
          let e = Flip w.in-Flip.axis in
          let nw = newest e w.in-Flip.is in
          let out = w.flip.ensures in
          let struck = c.strike.ensures.effect ∙ ap (λ s. older s.journal) w.self-is in
          back_by board keep memory b w.self-is w.memory-is
          (back_done h e nw memory (omega arith) h.ordered (out.effect ∙ ap (flipped w.in-Flip.axis) h.matrix) out.limits (same_keep h e nw memory (can_undo h e nw memory)) struck refl)
    ] in
    record { follows = λ b h. (done b h).0; leaves = λ b h. (done b h).1 }
