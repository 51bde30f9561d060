use Rattle.std.proofs.Common.{take}
use Rattle.std.specs.Fmt.{HasWritten, IsPlainFormatter}
use Rattle.listing.specs.Lines.{cells_text}
use Rattle.listing.proofs.answer.CellsDisplay.fmt.Given as goal

-- the cells so far stand written
abbrev pub invariant-loop-cell : goal.invariant-loop-cell
invariant-loop-cell g l =
    IsPlainFormatter l.initial.f → HasWritten g.W.Write.write_str_gives l.initial.f (cells_text g.T.Written.spelling (take l.cell-index l.cell-items)) l.f
