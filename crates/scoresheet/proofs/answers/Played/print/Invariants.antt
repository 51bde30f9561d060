use Rattle.std.proofs.Common.{◌≡◌, ◌++◌, take}
use Rattle.std.specs.Prelude.{string_bytes}
use Rattle.scoresheet.specs.Outcomes.{Clean}
use Rattle.scoresheet.specs.Plans.{AllAsked}
use Rattle.scoresheet.specs.Pages.{told}
use Rattle.scoresheet.proofs.answers.Played.print.Given as goal

-- the lines so far are printed, and none of them is wrong
abbrev pub invariant-loop-item : goal.invariant-loop-item
invariant-loop-item g l =
    let so_far = told g.T.Written.spelling l.self l.plan.calls.items (take l.item-index l.item-items) in
    record {
      text : string_bytes l.out.text ≡ string_bytes l.initial.out.text ++ so_far.text;
      tally : l.tally ≡ so_far.tally;
      asked : Clean l.out → Clean l.initial.out × AllAsked (take l.item-index l.item-items);
    }
