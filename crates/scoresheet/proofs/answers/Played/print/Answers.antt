use Rattle.std.proofs.Common.{rules, IsOk}
use Rattle.std.proofs.lemmas.List.Elements.{All-more}
use Rattle.scoresheet.proofs.Tellings.{line_told}
use Rattle.scoresheet.proofs.answers.Played.print.Goals as goal

pub loop-item-preserved : goal.loop-item-preserved
loop-item-preserved g c =
    let items = c.deref-item-items.result.now in
    let k = c.loop-item.item-index in
    let before = c.loop-item.invariant in
    let more = line_told g.T.Written.spelling c.args.self.now c.args.plan.now.calls.items c.as_slice.result.now c.of-calls.result.now c.as_slice-in-loop-item.result.now c.of-said.result.now items k _ _ _ _ c.loop-item.tally c.tallied-tally.result (search rules) c.as_slice.ensures.value c.of-calls.ensures.answer c.as_slice-in-loop-item.ensures.value c.of-said.ensures.answer before.text before.tally c.in_ok-print_item.ensures.text c.tallied-tally.ensures.answer in
    record {
      text = more.0;
      tally = more.1;
      asked = λ clean.
          let one = c.in_ok-print_item.ensures.outcome clean in
          let ones = before.asked one.0 in
          (ones.0, All-more (λ item. IsOk item.ask) items k _ (search rules) ones.1 one.1);
    }
