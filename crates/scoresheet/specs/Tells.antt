-- What a line of a sheet is answered, when its calls have said this.
use Rattle.std.specs.Prelude.{ℕ, ◌*◌, List, [], ◌∷◌, ◌++◌, Option, Some, None, Result, Ok, Err, codes}
use Rattle.std.specs.List.{slice_get, filter_map}
use Rattle.cells.specs.declared.refusal.Refusal.{Refusal}
use Rattle.flat.specs.Segments.{part}
use Rattle.listing.specs.declared.answer.Answer.{Answer}
use Rattle.listing.specs.declared.name.Name.{Name}
use Rattle.listing.specs.declared.wrong.Wrong.{Wrong}
use Rattle.listing.specs.Lines.{answer_text, cells_text}
use Rattle.replay.specs.declared.call.Call.{Call}
use Rattle.replay.specs.declared.call.Call.TheVariants.{Remove, StepBack, Publish, Reopen, Kept, Settled}
use Rattle.replay.specs.declared.call.Answer.{Answer as Said}
use Rattle.replay.specs.declared.call.Answer.TheVariants as said
use Rattle.replay.specs.declared.tally.Tally.{Tally}
use Rattle.replay.specs.Tallies.{capped}
use Rattle.scoresheet.specs.declared.answers.Played.{Played}
use Rattle.scoresheet.specs.declared.script.Ask.{Ask}
use Rattle.scoresheet.specs.Asks.{line_between}

-- the name under which a call counts
abbrev pub counting : {T : Type 0} → Call T → ℕ → Answer T
counting Publish n = Answer.Published n
counting Kept n = Answer.Count Name.Kept n
counting Settled n = Answer.Count Name.Settled n
counting call n = Answer.Count Name.Owed n

-- what is wrong where the sheet does not have the call
abbrev pub lack : {T : Type 0} → Call T → Wrong
lack Reopen = Wrong.Open
lack Settled = Wrong.Open
lack call = Wrong.Published

-- what a call says
abbrev pub speech : {T : Type 0} → Call T → Said T → Result (Answer T) Wrong
speech call (said.Said done) = Ok (Answer.Done done)
speech call (said.Cell cell) = Ok (Answer.Cell cell)
speech call (said.Sized rows cols) = Ok (Answer.Size rows cols)
speech call (said.Count n) = Ok (counting call n)
speech call said.Moved = Ok (Answer.Done (Ok tt))
speech call said.Lacking = Err (lack call)

-- what the first call of a line says
abbrev pub first_speech : {T : Type 0} → List (Call T) → List (Said T) → Result (Answer T) Wrong
first_speech (call ∷ calls) (one ∷ rest) = speech call one
first_speech calls all = Err Wrong.Published

-- the answer of a row under the sheet
abbrev pub row_speech : {T : Type 0} → Option (Result Unit Refusal) → Result (Answer T) Wrong
row_speech (Some done) = Ok (Answer.Done done)
row_speech None = Err Wrong.Late

-- the counts so far, with the count owed, which a published sheet lacks
abbrev pub counts : {T : Type 0} → Tally → List (Said T) → Answer T
counts t (said.Count owed ∷ []) = Answer.Tally t.accepted owed t.back t.settled
counts t all = Answer.Tally t.accepted 0 t.back t.settled

-- an answer as text, or what is wrong
abbrev pub as_text : {T : Type 0} → (T → List ℕ) → Result (Answer T) Wrong → Result (List ℕ) Wrong
as_text spell (Ok answer) = Ok (answer_text spell answer)
as_text spell (Err wrong) = Err wrong

abbrev pub line_text : {T : Type 0} → (T → List ℕ) → List T → List ℕ
line_text spell xs = codes "ok line" ++ cells_text spell xs

-- the line of that length that a call has laid into the memory
abbrev pub laid_text : {T : Type 0} → (T → List ℕ) → List T → ℕ → Call T → Result (List ℕ) Wrong
laid_text spell memory len (Remove ax i g) = Ok (line_text spell (part memory (record { start = g.start; len = len })))
laid_text spell memory len (StepBack g) = Ok (line_text spell (part memory (record { start = g.start; len = len })))
laid_text spell memory len call = Err Wrong.Published

-- a call between two sizes: a line where one has come out, and else what it says
abbrev pub out_text : {T : Type 0} → (T → List ℕ) → List T → Option ℕ → Call T → Said T → Result (List ℕ) Wrong
out_text spell memory (Some len) call one = laid_text spell memory len call
out_text spell memory None call one = as_text spell (speech call one)

abbrev pub between_text : {T : Type 0} → (T → List ℕ) → List T → List (Call T) → List (Said T) → Result (List ℕ) Wrong
between_text spell memory (a ∷ call ∷ b ∷ []) (x ∷ one ∷ y ∷ []) = out_text spell memory (line_between (x ∷ one ∷ y ∷ [])) call one
between_text spell memory calls all = Err Wrong.Published

-- the answer of a line, by what it asks
abbrev pub told_text : {T : Type 0} → (T → List ℕ) → Played T → Tally → Result Ask Wrong → List (Call T) → List (Said T) → Result (List ℕ) Wrong
told_text spell played t (Ok (Ask.Start n)) calls all = as_text spell (row_speech (slice_get played.starts.items n))
told_text spell played t (Ok Ask.One) calls all = as_text spell (first_speech calls all)
told_text spell played t (Ok Ask.Show) calls all = as_text spell (first_speech calls all)
told_text spell played t (Ok Ask.Line) calls all = between_text spell played.memory.items calls all
told_text spell played t (Ok Ask.Tally) calls all = Ok (answer_text spell (counts t all))
told_text spell played t (Err wrong) calls all = Err wrong

-- the cell that was asked for, if it is there
abbrev pub cell_told : {T : Type 0} → Said T → Option T
cell_told (said.Cell cell) = cell
cell_told one = None

-- row r of a sheet that is shown, of which the size was said and then the cells
abbrev pub row_told : {T : Type 0} → ℕ → List (Said T) → List T
row_told r (said.Sized rows cols ∷ cells) = filter_map cell_told (part cells (record { start = capped (r * cols); len = cols }))
row_told r all = []
