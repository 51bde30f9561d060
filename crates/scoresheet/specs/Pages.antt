-- What is printed, line by line.
use Rattle.std.specs.Prelude.{ℕ, zero, suc, ◌+◌, List, [], ◌∷◌, ◌++◌, Result, Ok, Err, codes, decimal, flat_map}
use Rattle.matrix.specs.Runs.{after}
use Rattle.flat.specs.Segments.{part}
use Rattle.listing.specs.declared.call.Call.{Call as Asked}
use Rattle.listing.specs.declared.wrong.Wrong.{Wrong}
use Rattle.listing.specs.Lines.{cells_text}
use Rattle.listing.specs.Texts.{wrong_text}
use Rattle.replay.specs.declared.call.Call.{Call}
use Rattle.replay.specs.declared.call.Answer.{Answer as Said}
use Rattle.replay.specs.declared.call.Answer.TheVariants.{Sized}
use Rattle.replay.specs.declared.tally.Tally.{Tally}
use Rattle.replay.specs.Tallies.{aim, accepts, backs, settles, capped}
use Rattle.scoresheet.specs.declared.lines.Line.{Line}
use Rattle.scoresheet.specs.declared.answers.Played.{Played}
use Rattle.scoresheet.specs.declared.script.Ask.{Ask}
use Rattle.scoresheet.specs.declared.script.Item.{Item}
use Rattle.scoresheet.specs.declared.script.Plan.{Plan}
use Rattle.scoresheet.specs.Tells.{told_text, row_told}

-- the line of an answer
abbrev pub answer_line : List ℕ → List ℕ
answer_line text = text ++ codes "\n"

-- the line of an error, with the number of the line in the list
abbrev pub error_line : ℕ → Wrong → List ℕ
error_line n wrong = codes "error " ++ decimal n ++ codes " " ++ wrong_text wrong ++ codes "\n"

-- what is wrong with a line that no sheet stands before
abbrev pub unsheeted : Result Asked Wrong → Wrong
unsheeted (Ok call) = Wrong.NoSheet
unsheeted (Err wrong) = wrong

-- the lines of such errors
abbrev pub unsheeted_lines : List Line → List ℕ
unsheeted_lines lines = flat_map (λ line. error_line line.number (unsheeted line.call)) lines

-- the line of an answer or an error
abbrev pub printed : ℕ → Result (List ℕ) Wrong → List ℕ
printed n (Ok text) = answer_line text
printed n (Err wrong) = error_line n wrong

-- the first rows of a sheet that is shown
abbrev pub first_rows : {T : Type 0} → (T → List ℕ) → ℕ → List (Said T) → List ℕ
first_rows spell zero said = []
first_rows spell (suc r) said = first_rows spell r said ++ answer_line (codes "row" ++ cells_text spell (row_told r said))

-- all of them, when its size was said and then its cells
abbrev pub rows_lines : {T : Type 0} → (T → List ℕ) → List (Said T) → List ℕ
rows_lines spell (Sized rows cols ∷ cells) = first_rows spell rows (Sized rows cols ∷ cells)
rows_lines spell said = []

-- what follows the answer of a line: the rows of a sheet that is shown
abbrev pub shown : {T : Type 0} → (T → List ℕ) → Result Ask Wrong → List (Said T) → List ℕ
shown spell (Ok Ask.Show) said = rows_lines spell said
shown spell ask said = []

-- the lines of one line of the sheet, which these are the calls of, and what they said
abbrev pub item_lines : {T : Type 0} → (T → List ℕ) → Played T → Tally → Item → List (Call T) → List (Said T) → List ℕ
item_lines spell played t item calls said = printed item.number (told_text spell played t item.ask calls said) ++ shown spell item.ask said

-- the counts with one more call and what it said
abbrev pub with_one : {T : Type 0} → Tally → Call T → Said T → Tally
with_one t call one = record {
  accepted = capped (t.accepted + accepts (aim call) one);
  back = capped (t.back + backs (aim call) one);
  settled = capped (t.settled + settles (aim call) one);
}

-- and with each of these
abbrev pub with_all : {T : Type 0} → Tally → List (Call T) → List (Said T) → Tally
with_all t [] all = t
with_all t (call ∷ calls) [] = t
with_all t (call ∷ calls) (one ∷ all) = with_all (with_one t call one) calls all

-- the text so far, and the counts
pub record Telling : Type 0 where
  pub text : List ℕ
  pub tally : Tally

-- one line more
abbrev pub told_more : {T : Type 0} → (T → List ℕ) → Played T → List (Call T) → Item → Telling → Telling
told_more spell played calls item so_far =
    let own = part calls item.part in
    let said = part played.answers.items item.part in
    record { text = so_far.text ++ item_lines spell played so_far.tally item own said; tally = with_all so_far.tally own said }

-- all lines, from the first to the last
abbrev pub told : {T : Type 0} → (T → List ℕ) → Played T → List (Call T) → List Item → Telling
told spell played calls items = after (told_more spell played calls) items (record { text = []; tally = record { accepted = 0; back = 0; settled = 0 } })

-- the text of a sheet: that of all its lines
abbrev pub page : {T : Type 0} → (T → List ℕ) → Played T → Plan T → List ℕ
page spell played plan = (told spell played plan.calls.items plan.items.items).text
