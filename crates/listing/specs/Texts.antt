-- What a person is told of a line that is answered by an error.
use Rattle.std.specs.Prelude.{ℕ, List, ◌++◌, codes, decimal, ⊤}
use Rattle.matrix.specs.declared.axis.Axis.TheVariants.{Row, Col}
use Rattle.listing.specs.declared.name.Name.{Name}
use Rattle.listing.specs.declared.name.Name.TheVariants.{New, Start, Put, Insert, Remove, Transpose, Flip, StepBack, Publish, Reopen, Size, Get, Owed, Kept, Settled, Show, Tally}
use Rattle.listing.specs.declared.call.SheetKind.TheVariants.{Passages, Penalties}
use Rattle.listing.specs.declared.wrong.Wrong.{Wrong}
use Rattle.listing.specs.declared.wrong.Failure.{Failure}

-- how a call is written, and a call that is its name alone has no more words
abbrev pub usage : Name → List ℕ
usage New = codes "new passages|penalties BOARD KEEP"
usage Start = codes "start CELL .."
usage Put = codes "put R C CELL"
usage (Insert Row) = codes "insert-row I CELL .."
usage (Insert Col) = codes "insert-col I CELL .."
usage (Remove Row) = codes "remove-row I [ROOM]"
usage (Remove Col) = codes "remove-col I [ROOM]"
usage StepBack = codes "step-back [ROOM]"
usage Get = codes "get R C"
usage Transpose = codes "nothing after this call's name"
usage (Flip ax) = codes "nothing after this call's name"
usage Publish = codes "nothing after this call's name"
usage Reopen = codes "nothing after this call's name"
usage Size = codes "nothing after this call's name"
usage Owed = codes "nothing after this call's name"
usage Kept = codes "nothing after this call's name"
usage Settled = codes "nothing after this call's name"
usage Show = codes "nothing after this call's name"
usage Tally = codes "nothing after this call's name"

abbrev pub wrong_text : Wrong → List ℕ
wrong_text Wrong.NoName = codes "expected the name of a call"
wrong_text (Wrong.Usage name) = codes "expected " ++ usage name
wrong_text Wrong.NoSheet = codes "no sheet: begin with new"
wrong_text Wrong.Late = codes "start: the sheet's first call was made"
wrong_text (Wrong.NoCell Passages at) = codes "cell " ++ decimal at ++ codes ": expected -, thousandths up to 4294967295, DNS, DNF, DSQ or OFF"
wrong_text (Wrong.NoCell Penalties at) = codes "cell " ++ decimal at ++ codes ": expected thousandths from -2147483648 to 2147483647"
wrong_text Wrong.Published = codes "the sheet is published: reopen it before this call"
wrong_text Wrong.Open = codes "the sheet is open: publish it before this call"

abbrev pub IsNoMemory : Failure → Type 0
IsNoMemory (Failure.Wrong wrong) = ⊥
IsNoMemory (Failure.NoMemory error) = ⊤
