use Rattle.std.proofs.Common.{◌≡◌, ◌≤◌, ◌++◌}
use Rattle.std.specs.Str.{IsCharBoundary}
use Rattle.listing.specs.Calls.{texts}
use Rattle.scoresheet.proofs.Words.{NoGap, left}
use Rattle.scoresheet.proofs.lines.split_line.Given as goal

-- the words so far, and those of what is left, are the words of the text
abbrev pub invariant-loop-at : goal.invariant-loop-at
invariant-loop-at l = record {
  before : l.from ≤ l.at;
  start : IsCharBoundary l.text l.from;
  none : NoGap l.text l.from l.at;
  words : texts l.words.items ++ left l.text l.from ≡ left l.text 0;
}
