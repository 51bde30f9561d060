use Rattle.std.proofs.Common.{◌≡◌, List, false}
use Rattle.std.specs.List.{AllByRecursion}
use Rattle.listing.specs.Calls.{texts}
use Rattle.scoresheet.specs.declared.lines.Line.{Line}
use Rattle.scoresheet.specs.Lists.{Between}
use Rattle.scoresheet.specs.Outcomes.{Sound}
use Rattle.scoresheet.specs.Plans.{AllAsked}
use Rattle.scoresheet.specs.Sheets.{NotesAll, makes}
use Rattle.scoresheet.proofs.script.Plan.read_all.Given as goal

-- the lines so far are those of the plan
abbrev pub invariant-loop-at : goal.invariant-loop-at
invariant-loop-at g l = record {
  us : List Line;
  said : Between (texts l.lines) l.initial.at l.at us;
  none : AllByRecursion (λ line. makes line.call ≡ false) us;
  notes : NotesAll g.T.Written.spells l.kind us l.initial.supply l.supply l.initial.self l.self;
  asked : AllAsked l.self.items.items → AllAsked l.initial.self.items.items × Sound us;
  pool : l.self.pool ≡ l.initial.self.pool;
}
