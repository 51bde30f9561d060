use Rattle.std.proofs.Common.{◌≡◌, None, sym, refl, ap, ◌∙◌}
use Rattle.replay.specs.declared.call.Answer.TheVariants.{Cell, Sized, Count, Moved, Lacking}
use Rattle.replay.specs.declared.call.State.TheVariants.{Open, Published}
use Rattle.replay.specs.World.{next, reply, by_stage}
use Rattle.replay.proofs.Worlds.{steps_to, not_published}
use Rattle.replay.proofs.steps.step_published.Goals as goal
use Rattle.replay.proofs.steps.step_published.Goals.{in-Get, in-Size, in-Settled, in_default}

pub returns-in-Reopen : goal.returns-in-Reopen
returns-in-Reopen g c = record {
  steps = λ w pool st h.
      steps_to g.B.Board g.K.Keep (Open c.reopen.result) Moved w.memory pool c.args.call w
      (record { book = w.book; stage = None; memory = w.memory })
      (ap (λ k. next pool k w) c.in-Reopen.is) (ap (λ k. reply pool k w) c.in-Reopen.is ∙ ap (λ o. by_stage o Lacking (λ n. Moved)) st)
      (refl, c.reopen.ensures.stands w.book c.args.sheet.settled h) refl;
}

pub returns : goal.returns
returns g c = record {
  steps = λ w pool st h.
      let n = c.args.sheet.settled in
      let call = c.args.call in
      let same : (next pool call w ≡ w) × (reply pool call w ≡ c.match-call.answer) = elim c.match-call.branch [
        | in-Get v ↦ (ap (λ k. next pool k w) v.in-Get.is, ap (λ k. reply pool k w) v.in-Get.is ∙ ap Cell (sym (v.get.ensures.answer w.book n h)) ∙ sym v.answer-is)
        | in-Size v ↦ (ap (λ k. next pool k w) v.in-Size.is, ap (λ k. reply pool k w) v.in-Size.is ∙ ap (λ p. Sized p.0 p.1) (sym (v.size-rows.ensures.answer w.book n h)) ∙ sym v.answer-is)
        | in-Settled v ↦ (ap (λ k. next pool k w) v.in-Settled.is, ap (λ k. reply pool k w) v.in-Settled.is ∙ ap (λ o. by_stage o Lacking (λ k. Count k)) st ∙ ap Count (sym (v.settled.ensures.answer w.book n h)) ∙ sym v.answer-is)
        | in_default v ↦ let d = v.in_default in let not = not_published pool w n st call d.not-Reopen d.not-Get d.not-Size d.not-Settled in (not.0, not.1 ∙ sym v.answer-is)
      ] in
      steps_to g.B.Board g.K.Keep (Published c.args.sheet) c.match-call.answer w.memory pool call w w same.0 same.1 (st, h) refl;
}
