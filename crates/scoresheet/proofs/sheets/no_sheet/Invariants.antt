use Rattle.std.proofs.Common.{◌≡◌, ◌++◌, [], List, false}
use Rattle.std.specs.Prelude.{string_bytes}
use Rattle.std.specs.List.{AllByRecursion}
use Rattle.listing.specs.Calls.{texts}
use Rattle.scoresheet.specs.declared.lines.Line.{Line}
use Rattle.scoresheet.specs.Lists.{Between}
use Rattle.scoresheet.specs.Outcomes.{Clean}
use Rattle.scoresheet.specs.Pages.{unsheeted_lines}
use Rattle.scoresheet.specs.Sheets.{makes}
use Rattle.scoresheet.proofs.sheets.no_sheet.Given as goal

-- each line so far is an error
abbrev pub invariant-loop-at : goal.invariant-loop-at
invariant-loop-at l = record {
  us : List Line;
  said : Between (texts l.lines) l.initial.at l.at us;
  none : AllByRecursion (λ line. makes line.call ≡ false) us;
  text : string_bytes l.out.text ≡ string_bytes l.initial.out.text ++ unsheeted_lines us;
  clean : Clean l.out → Clean l.initial.out × (us ≡ []);
}
