-- What each line of a sheet asks of the library.
use Rattle.std.specs.Prelude.{◌≡◌, ℕ, ◌+◌, ◌-◌, ◌*◌, ◌==◌, min, false, cond, List, [], ◌∷◌, ◌++◌, length, Option, Some, None, Result, Ok, Err, ⊤}
use Rattle.matrix.specs.Rules.{side_limit}
use Rattle.flat.specs.declared.segment.Segment.{Segment}
use Rattle.listing.specs.declared.call.SheetKind.{SheetKind}
use Rattle.listing.specs.declared.call.Call.{Call as Asked}
use Rattle.listing.specs.declared.call.Call.TheVariants as asked
use Rattle.listing.specs.declared.wrong.Wrong.{Wrong}
use Rattle.listing.specs.declared.wrong.Failure.{Failure}
use Rattle.listing.specs.Calls.{texts}
use Rattle.scoresheet.specs.declared.lines.Line.{Line as Desked}
use Rattle.scoresheet.specs.Cells.{Gained}
use Rattle.replay.specs.declared.call.Call.{Call}
use Rattle.replay.specs.declared.call.Call.TheVariants.{Put, Insert, Remove, Transpose, Flip, StepBack, Publish, Reopen, Get, Size, Owed, Kept, Settled}
use Rattle.replay.specs.declared.call.Answer.{Answer}
use Rattle.replay.specs.declared.call.Answer.TheVariants.{Sized}
use Rattle.replay.specs.Tallies.{capped}
use Rattle.scoresheet.specs.declared.script.Ask.{Ask}
use Rattle.scoresheet.specs.declared.script.Ask.TheVariants.{Start, One, Line, Show, Tally}
use Rattle.scoresheet.specs.declared.script.Supply.{Supply}
use Rattle.scoresheet.specs.declared.script.Plan.{Plan}
use Rattle.scoresheet.specs.Wrongs.{begun_by, Mistaken}

-- the cells that come next, of which there are n
abbrev pub coming : {T : Type 0} → Supply T → ℕ → Segment
coming supply n = record { start = length supply.cells.items; len = n }

-- memory for a line at the start of the pool, no more than the longest line has
abbrev pub room_lent : ℕ → Segment
room_lent room = record { start = 0; len = min room side_limit }

-- the calls come after the others, and the line is answered by them in that way
abbrev pub Adds : {T : Type 0} → Ask → List (Call T) → Ask → List (Call T) → List (Call T) → Type 0
Adds said calls ask old new = (ask ≡ said) × (new ≡ old ++ calls)

-- A line's call becomes calls of the library. A removal or a step back stands between two sizes; a row under the sheet is no call,
-- and comes before the sheet's first.
abbrev pub Becomes : {T : Type 0} → (List ℕ → T → Type 0) → Supply T → Asked → Ask → List (Call T) → List (Call T) → Type 0
Becomes spells supply (asked.New fresh) ask old new = ⊥
Becomes spells supply (asked.Start words) ask old new = (begun_by old ≡ false) × Adds (Start (length supply.starts.items)) [] ask old new
Becomes spells supply (asked.Put r c word) ask old new = (x : _) × spells word.now x × Adds One (Put r c x ∷ []) ask old new
Becomes spells supply (asked.Insert ax i words) ask old new = Adds One (Insert ax i (coming supply (length words.now)) ∷ []) ask old new
Becomes spells supply (asked.Remove ax i room) ask old new = Adds Line (Size ∷ Remove ax i (room_lent room) ∷ Size ∷ []) ask old new
Becomes spells supply asked.Transpose ask old new = Adds One (Transpose ∷ []) ask old new
Becomes spells supply (asked.Flip ax) ask old new = Adds One (Flip ax ∷ []) ask old new
Becomes spells supply (asked.StepBack room) ask old new = Adds Line (Size ∷ StepBack (room_lent room) ∷ Size ∷ []) ask old new
Becomes spells supply asked.Publish ask old new = Adds One (Publish ∷ []) ask old new
Becomes spells supply asked.Reopen ask old new = Adds One (Reopen ∷ []) ask old new
Becomes spells supply asked.Size ask old new = Adds One (Size ∷ []) ask old new
Becomes spells supply (asked.Get r c) ask old new = Adds One (Get r c ∷ []) ask old new
Becomes spells supply asked.Owed ask old new = Adds One (Owed ∷ []) ask old new
Becomes spells supply asked.Kept ask old new = Adds One (Kept ∷ []) ask old new
Becomes spells supply asked.Settled ask old new = Adds One (Settled ∷ []) ask old new
Becomes spells supply asked.Show ask old new = Adds Show (Size ∷ []) ask old new
Becomes spells supply asked.Tally ask old new = Adds Tally (Owed ∷ []) ask old new

-- What becomes of the supply: the cells of a line come after those that there are, and a row under the sheet after the others.
abbrev pub Supplies : {T : Type 0} → (List ℕ → T → Type 0) → Asked → Supply T → Supply T → Type 0
Supplies spells (asked.Start words) old new = (new.starts.items ≡ old.starts.items ++ (coming old (length words.now) ∷ [])) × Gained spells (texts words.now) old.cells.items new.cells.items
Supplies spells (asked.Insert ax i words) old new = (new.starts ≡ old.starts) × Gained spells (texts words.now) old.cells.items new.cells.items
Supplies spells call old new = new ≡ old

-- A line that is wrong asks nothing, and lays no row. Where there is no memory the run ends.
abbrev pub Unasked : {T : Type 0} → Failure → List (Call T) → List (Call T) → List Segment → List Segment → Type 0
Unasked (Failure.Wrong wrong) calls new_calls rows new_rows = (new_calls ≡ calls) × (new_rows ≡ rows)
Unasked (Failure.NoMemory error) calls new_calls rows new_rows = ⊤

-- a line's own part of the calls: those that came by it
abbrev pub since : {T : Type 0} → List (Call T) → List (Call T) → Segment
since old new = record { start = length old; len = length new - length old }

-- What is asked by a line that was read, or is wrong with it, follows from what was read.
abbrev pub Follows : {T : Type 0} → (List ℕ → T → Type 0) → SheetKind → Result Asked Wrong → Result Ask Wrong → Supply T → Supply T → List (Call T) → List (Call T) → Type 0
Follows spells kind (Ok call) (Ok ask) supply new_supply calls new_calls = Becomes spells supply call ask calls new_calls × Supplies spells call supply new_supply
Follows spells kind (Ok call) (Err wrong) supply new_supply calls new_calls = Mistaken spells kind call calls supply.cells.items new_supply.cells.items wrong × (new_calls ≡ calls) × (new_supply.starts.items ≡ supply.starts.items)
Follows spells kind (Err wrong) ask supply new_supply calls new_calls = (ask ≡ Err wrong) × (new_calls ≡ calls) × (new_supply ≡ supply)

-- a line more among the items, with its number and its part of the calls
abbrev pub Notes : {T : Type 0} → (List ℕ → T → Type 0) → SheetKind → Desked → Supply T → Supply T → Plan T → Plan T → Type 0
Notes spells kind line supply new_supply plan new_plan =
    (ask : Result Ask Wrong) × (new_plan.items.items ≡ plan.items.items ++ (record { number = line.number; ask = ask; part = since plan.calls.items new_plan.calls.items } ∷ []))
    × Follows spells kind line.call ask supply new_supply plan.calls.items new_plan.calls.items

-- how many cells come or go between two sizes, if they are not as many; products are held as numbers of 64 bits
abbrev pub differing : ℕ → ℕ → Option ℕ
differing a b = cond (a == b) None (Some ((a - b) + (b - a)))

abbrev pub line_between : {T : Type 0} → List (Answer T) → Option ℕ
line_between (Sized r c ∷ said ∷ Sized r₂ c₂ ∷ []) = differing (capped (r * c)) (capped (r₂ * c₂))
line_between said = None

-- the same call, with its memory from there on
abbrev pub moved_to : {T : Type 0} → ℕ → Call T → Call T
moved_to start (Put r c x) = Put r c x
moved_to start (Insert ax i g) = Insert ax i g
moved_to start (Remove ax i g) = Remove ax i (record { start = start; len = g.len })
moved_to start Transpose = Transpose
moved_to start (Flip ax) = Flip ax
moved_to start (StepBack g) = StepBack (record { start = start; len = g.len })
moved_to start Publish = Publish
moved_to start Reopen = Reopen
moved_to start (Get r c) = Get r c
moved_to start Size = Size
moved_to start Owed = Owed
moved_to start Kept = Kept
moved_to start Settled = Settled
