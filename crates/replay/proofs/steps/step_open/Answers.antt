use Rattle.std.proofs.Common.{◌≡◌, length, Some, sym, refl, ap, ◌∙◌, subst}
use Rattle.sheet.specs.Book.{kept, settle, put_said, put_book, insert_said, insert_book, remove_said, remove_book, remove_memory, plain_said, transpose_book, flip_book, back_said, back_book, back_memory}
use Rattle.sheet.specs.Sheets.{Stands}
use Rattle.replay.specs.declared.call.Answer.TheVariants.{Cell, Sized, Count}
use Rattle.replay.specs.declared.call.State.TheVariants.{Published}
use Rattle.flat.specs.Segments.{part}
use Rattle.replay.specs.World.{next, reply, by_stage}
use Rattle.replay.proofs.Worlds.{said_open, steps_to, steps_by, edit_said, lent_steps, asked, not_open}
use Rattle.replay.proofs.steps.step_open.Goals as goal
use Rattle.replay.proofs.steps.step_open.Goals.{in-Put, in-Insert, in-Remove, in-Transpose, in-Flip, in-StepBack, in-Get, in-Size, in-Owed, in-Kept, in-Reopen}

pub returns-in-Publish : goal.returns-in-Publish
returns-in-Publish g c = record {
  steps = λ w st h m.
      let i = c.in-Publish in
      let pool = c.args.lines.now in
      let n = length w.book.entries in
      let p = c.publish-published.result in
      let closed = c.publish-published.ensures.closed w.book h in
      let said = c.settled-n.ensures.answer (settle w.book) n closed in
      steps_to g.B.Board g.K.Keep (Published p) (Count c.settled-n.result) c.args.memory.now pool c.args.call w
      (record { book = settle w.book; stage = Some n; memory = w.memory })
      (ap (λ k. next pool k w) i.is ∙ ap (λ o. by_stage o (record { book = settle w.book; stage = Some n; memory = w.memory }) (λ k. w)) st)
      (ap (λ k. reply pool k w) i.is ∙ sym (said_open w st (Count n)) ∙ ap Count (sym said))
      (ap Some (sym closed.1), (closed.0, refl)) (sym m);
}

pub returns : goal.returns
returns g c = record {
  steps = λ w st h m.
      let board = g.B.Board in
      let keep = g.K.Keep in
      let pool = c.args.lines.now in
      let mem = c.args.memory.now in
      let call = c.args.call in
      let b = w.book in
      elim c.match-call.branch [
        | in-Put v ↦
            let i = v.in-Put in
            steps_by board keep pool call w v.sheet-is v.answer-is v.memory-is
            (edit_said board keep v.put.new.self mem pool call w st m v.put.result (put_said i.r i.c) (put_book i.r i.c i.x) (ap (λ k. next pool k w) i.is) (ap (λ k. reply pool k w) i.is) (v.put.ensures.follows b h))
        | in-Insert v ↦
            let i = v.in-Insert in
            let line = v.of.ensures.answer in
            steps_by board keep pool call w v.sheet-is v.answer-is v.memory-is
            (edit_said board keep v.insert.new.self mem pool call w st m v.insert.result (insert_said i.axis i.i (part pool i.segment)) (insert_book i.axis i.i (part pool i.segment)) (ap (λ k. next pool k w) i.is) (ap (λ k. reply pool k w) i.is)
            (subst (λ z. (v.insert.result ≡ insert_said i.axis i.i z b) × Stands board keep v.insert.new.self (insert_book i.axis i.i z b)) line (v.insert.ensures.follows b h)))
        | in-Remove v ↦
            let i = v.in-Remove in
            let e = v.within-range in
            steps_by board keep pool call w v.sheet-is v.answer-is v.memory-is
            (lent_steps board keep v.remove.new.self v.remove.result mem pool call w st m (remove_said i.axis i.i) (remove_book i.axis i.i) (remove_memory i.axis i.i) i.segment e.result.start e.result.end e.ensures.start e.ensures.end
            (ap (λ k. next pool k w) i.is) (ap (λ k. reply pool k w) i.is) v.remove.new.memory (v.remove.ensures.follows b h) (v.remove.ensures.leaves b h))
        | in-Transpose v ↦
            let i = v.in-Transpose in
            steps_by board keep pool call w v.sheet-is v.answer-is v.memory-is
            (edit_said board keep v.transpose.new.self mem pool call w st m v.transpose.result plain_said transpose_book (ap (λ k. next pool k w) i.is) (ap (λ k. reply pool k w) i.is) (v.transpose.ensures.follows b h))
        | in-Flip v ↦
            let i = v.in-Flip in
            steps_by board keep pool call w v.sheet-is v.answer-is v.memory-is
            (edit_said board keep v.flip.new.self mem pool call w st m v.flip.result plain_said (flip_book i.axis) (ap (λ k. next pool k w) i.is) (ap (λ k. reply pool k w) i.is) (v.flip.ensures.follows b h))
        | in-StepBack v ↦
            let i = v.in-StepBack in
            let e = v.within-range-in-StepBack in
            steps_by board keep pool call w v.sheet-is v.answer-is v.memory-is
            (lent_steps board keep v.step_back.new.self v.step_back.result mem pool call w st m back_said back_book back_memory i.segment e.result.start e.result.end e.ensures.start e.ensures.end
            (ap (λ k. next pool k w) i.is) (ap (λ k. reply pool k w) i.is) v.step_back.new.memory (v.step_back.ensures.follows b h) (v.step_back.ensures.leaves b h))
        | in-Get v ↦
            let i = v.in-Get in
            steps_by board keep pool call w v.sheet-is v.answer-is v.memory-is
            (asked board keep c.args.sheet mem pool call w st m (Cell v.get.result) (ap (λ k. next pool k w) i.is) (ap (λ k. reply pool k w) i.is ∙ ap Cell (sym (v.get.ensures.answer b h))) h)
        | in-Size v ↦
            let i = v.in-Size in
            steps_by board keep pool call w v.sheet-is v.answer-is v.memory-is
            (asked board keep c.args.sheet mem pool call w st m (Sized v.size-rows.result.0 v.size-rows.result.1) (ap (λ k. next pool k w) i.is) (ap (λ k. reply pool k w) i.is ∙ ap (λ p. Sized p.0 p.1) (sym (v.size-rows.ensures.answer b h))) h)
        | in-Owed v ↦
            let i = v.in-Owed in
            steps_by board keep pool call w v.sheet-is v.answer-is v.memory-is
            (asked board keep c.args.sheet mem pool call w st m (Count v.owed.result) (ap (λ k. next pool k w) i.is) (ap (λ k. reply pool k w) i.is ∙ sym (said_open w st (Count (length b.entries))) ∙ ap Count (sym (v.owed.ensures.answer b h))) h)
        | in-Kept v ↦
            let i = v.in-Kept in
            steps_by board keep pool call w v.sheet-is v.answer-is v.memory-is
            (asked board keep c.args.sheet mem pool call w st m (Count v.kept.result) (ap (λ k. next pool k w) i.is) (ap (λ k. reply pool k w) i.is ∙ sym (said_open w st (Count (length (kept b.entries)))) ∙ ap Count (sym (v.kept.ensures.answer b h))) h)
        | in-Reopen v ↦ steps_by board keep pool call w v.sheet-is v.answer-is v.memory-is (not_open board keep c.args.sheet mem pool call w st m v.in-Reopen.is h)
      ];
}
