use Rattle.std.proofs.Common.{◌+◌, ◌-◌, length}
use Rattle.listing.specs.Calls.{texts}
use Rattle.scoresheet.specs.Sheets.{stopper}
use Rattle.scoresheet.proofs.Sounds.{Answering}
use Rattle.scoresheet.proofs.sheets.answer.Given as goal

-- the sheets so far are answered
abbrev pub invariant-loop-stop : goal.invariant-loop-stop
invariant-loop-stop l = Answering (texts l.lines) l.stop l.out

-- each sheet reads on
abbrev pub decreases-loop-stop : goal.decreases-loop-stop
decreases-loop-stop l = length (texts l.lines) - l.stop.lines + length (stopper l.stop.lines l.stop.fresh)
