use Rattle.std.proofs.Common.{rules, arith, IsOk, ◌∙◌, subst}
use Rattle.std.proofs.lemmas.List.Elements.{All-more}
use Rattle.scoresheet.specs.Plans.{AllAsked}
use Rattle.scoresheet.proofs.Unrolling.{line_more}
use Rattle.scoresheet.proofs.script.Plan.unrolled.Goals as goal

pub loop-item-preserved : goal.loop-item-preserved
loop-item-preserved g c =
    let items = c.deref-item-items.result.now in
    let k = c.loop-item.item-index in
    let old = c.loop-item.plan in (
      (λ asked.
          let one = c.in_ok-note.ensures.items asked in
          let before = c.loop-item.invariant.0 (subst (λ items. AllAsked items.items) (c.unroll.ensures.items ∙ c.loop-call.invariant.0) one.0) in
          All-more (λ item. IsOk item.ask) items k _ (search rules) before one.1),
      line_more c.args.self.now.calls.items c.args.said.now items k c.loop-call.call-index c.len-first.result _ old c.loop-call.plan c.unroll.new.self c.note.new.self c.as_slice.result.now c.of-call-items.result.now c.of.result.now (search rules) c.loop-item.invariant.1 c.as_slice.ensures.value c.of-call-items.ensures.answer c.of.ensures.answer (omega (arith, c.len-first.ensures, old.calls.ok.0)) (search rules) c.loop-call.invariant c.unroll.ensures.items c.in_ok-unroll.ensures.calls c.in_ok-unroll.ensures.pool c.in_ok-note.ensures.noted c.note.ensures.calls c.note.ensures.pool,
    )
