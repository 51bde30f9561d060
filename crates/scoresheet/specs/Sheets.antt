-- What is printed for the lines of a sheet, and for a list of sheets.
use Rattle.std.specs.Prelude.{◌≡◌, ℕ, ◌+◌, ◌<◌, ◌≤◌, Bool, true, false, cond, List, [], ◌∷◌, ◌++◌, length, Option, Some, None, Result, Ok, Err, string_bytes, map}
use Rattle.std.specs.List.{list_any, AllByRecursion}
use Rattle.std.specs.Str.Lines.{lines}
use Rattle.matrix.specs.Rules.{side_limit}
use Rattle.cells.specs.declared.refusal.Refusal.{Refusal}
use Rattle.layouts.specs.Layouts.{memory_under, ground_limits, ground_answer}
use Rattle.listing.specs.declared.answer.Answer.{Answer}
use Rattle.listing.specs.declared.call.SheetKind.{SheetKind}
use Rattle.listing.specs.declared.call.Fresh.{Fresh}
use Rattle.listing.specs.declared.call.Call.{Call}
use Rattle.listing.specs.declared.wrong.Wrong.{Wrong}
use Rattle.listing.specs.Lines.{answer_text}
use Rattle.listing.specs.Spellings.{passage_word, penalty_word, Passes, Adds}
use Rattle.replay.specs.declared.call.Answer.{Answer as Said}
use Rattle.replay.specs.Tallies.{capped}
use Rattle.scoresheet.specs.declared.lines.Line.{Line}
use Rattle.scoresheet.specs.declared.lines.Stop.{Stop}
use Rattle.scoresheet.specs.declared.output.Output.{Output}
use Rattle.scoresheet.specs.declared.script.Plan.{Plan}
use Rattle.scoresheet.specs.declared.script.Supply.{Supply}
use Rattle.scoresheet.specs.declared.answers.Played.{Played}
use Rattle.scoresheet.specs.Lists.{words, AreLines, Between}
use Rattle.scoresheet.specs.Outcomes.{Answered, Clean, Sound}
use Rattle.scoresheet.specs.Plans.{AllAsked}
use Rattle.scoresheet.specs.Asks.{Notes}
use Rattle.scoresheet.specs.Plays.{PlaysPlan}
use Rattle.scoresheet.specs.Unrolls.{waits, unrolled}
use Rattle.scoresheet.specs.Pages.{answer_line, unsheeted_lines, page}

-- such a text has been printed after the others
abbrev pub Prints : (List ℕ → Type 0) → Output → Output → Type 0
Prints so old new = (text : List ℕ) × (string_bytes new.text ≡ string_bytes old.text ++ text) × so text

-- lines of a sheet are noted in its plan, and its supply grows, one line after another
abbrev pub NotesAll : {T : Type 0} → (List ℕ → T → Type 0) → SheetKind → List Line → Supply T → Supply T → Plan T → Plan T → Type 0
NotesAll spells kind [] supply new_supply plan new_plan = (new_supply ≡ supply) × (new_plan ≡ plan)
NotesAll spells kind (line ∷ lines) supply new_supply plan new_plan =
    (next : Supply _) × (next_plan : Plan _) × Notes spells kind line supply next plan next_plan × NotesAll spells kind lines next new_supply next_plan new_plan

-- the lines of a sheet make its plan and its supply, out of none
pub record MakesPlan {T : Type 0} (spells : List ℕ → T → Type 0) (kind : SheetKind) (lines : List Line) (supply : Supply T) (plan : Plan T) : Type 0 where
  pub no_supply : Supply T
  pub no_plan : Plan T
  pub starts : no_supply.starts.items ≡ []
  pub cells : no_supply.cells.items ≡ []
  pub items : no_plan.items.items ≡ []
  pub calls : no_plan.calls.items ≡ []
  pub notes : NotesAll spells kind lines no_supply supply no_plan plan
  pub pool : plan.pool ≡ side_limit

-- the plan once more, when the first run has answered this, with room for a line more
pub record Unrolled {T : Type 0} (plan : Plan T) (said : List (Said T)) (again : Plan T) : Type 0 where
  pub items : again.items.items ≡ (unrolled plan.calls.items said plan.items.items).items
  pub calls : again.calls.items ≡ (unrolled plan.calls.items said plan.items.items).calls
  pub pool : again.pool ≡ capped ((unrolled plan.calls.items said plan.items.items).pool + side_limit)

-- a run of the plan on a new sheet
abbrev pub Runs : {T : Type 0} → Fresh → Supply T → Plan T → Played T → Type 0
Runs fresh supply plan played = PlaysPlan fresh.keeping (ground_limits (memory_under fresh.layout.ground) fresh.layout.ground) supply plan played

-- the text of a plan: where a line waits for sizes, that of a second run, of the plan unrolled by what the first has answered
abbrev pub RunText : {T : Type 0} → Bool → (T → List ℕ) → Fresh → Supply T → Plan T → Played T → List ℕ → Type 0
RunText false spell fresh supply plan first text = text ≡ page spell first plan
RunText true spell fresh supply plan first text =
    (again : Plan _) × (second : Played _) × Unrolled plan first.answers.items again × Runs fresh supply again second × (text ≡ page spell second again)

-- the text of the lines of a sheet that is made
pub record SheetText {T : Type 0} (spells : List ℕ → T → Type 0) (spell : T → List ℕ) (fresh : Fresh) (lines : List Line) (text : List ℕ) : Type 0 where
  pub supply : Supply T
  pub plan : Plan T
  pub made : MakesPlan spells fresh.kind lines supply plan
  pub first : Played T
  pub run : Runs fresh supply plan first
  pub shown : RunText (list_any waits plan.items.items) spell fresh supply plan first text

-- the text of the lines after the one that makes a sheet, which is made or refused
abbrev pub MadeText : Result Unit Refusal → SheetKind → Fresh → List Line → List ℕ → Type 0
MadeText (Err refusal) kind fresh lines text = text ≡ unsheeted_lines lines
MadeText (Ok done) SheetKind.Passages fresh lines text = SheetText Passes passage_word fresh lines text
MadeText (Ok done) SheetKind.Penalties fresh lines text = SheetText Adds penalty_word fresh lines text

-- the text of a line and those after it, by what it says: where it makes a sheet, they are that sheet's
abbrev pub FirstText : Result Call Wrong → Line → List Line → List ℕ → Type 0
FirstText (Ok (Call.New fresh)) line lines text =
    let made = ground_answer fresh.layout.ground in
    (more : List ℕ) × (text ≡ answer_line (answer_text passage_word (Answer.Done made)) ++ more) × MadeText made fresh.kind fresh lines more
FirstText call line lines text = text ≡ unsheeted_lines (line ∷ lines)

-- the text of the lines of one sheet, of which the first makes it, or of lines that no sheet stands before
abbrev pub GroupText : List Line → List ℕ → Type 0
GroupText [] text = text ≡ []
GroupText (line ∷ lines) text = FirstText line.call line lines text

-- whether a line makes a sheet
abbrev pub makes : Result Call Wrong → Bool
makes (Ok (Call.New fresh)) = true
makes call = false

-- groups of lines with a line before them: it joins the first group, unless that begins with a line that makes a sheet
abbrev pub joined : Line → List (List Line) → List (List Line)
joined line ((first ∷ rest) ∷ groups) = cond (makes first.call) ((line ∷ []) ∷ (first ∷ rest) ∷ groups) ((line ∷ first ∷ rest) ∷ groups)
joined line groups = (line ∷ []) ∷ groups

-- the lines of a list by their sheets
abbrev pub sheets : List Line → List (List Line)
sheets [] = []
sheets (line ∷ lines) = joined line (sheets lines)

-- the text of groups of lines, one after another
abbrev pub GroupsText : List (List Line) → List ℕ → Type 0
GroupsText [] text = text ≡ []
GroupsText (group ∷ groups) text = (own : List ℕ) × (more : List ℕ) × (text ≡ own ++ more) × GroupText group own × GroupsText groups more

-- what lines are answered: the text of those that say something, by their sheets
abbrev pub LinesText : List (List ℕ) → List ℕ → Type 0
LinesText list text = (ls : List Line) × AreLines 1 (map words list) ls × GroupsText (sheets ls) text

-- what a list is answered
abbrev pub ListText : List ℕ → List ℕ → Type 0
ListText list text = LinesText (lines list) text

-- the line of that number, which makes that sheet
abbrev pub making : ℕ → Fresh → Line
making n fresh = record { number = n; call = Ok (Call.New fresh) }

-- the line that stops reading, if one does: its number is how many lines are read
abbrev pub stopper : ℕ → Option Fresh → List Line
stopper n None = []
stopper n (Some fresh) = making n fresh ∷ []

-- reading goes on after the first n lines of a list over lines of which none makes a sheet, to the one that makes the next or to the end
pub record UpTo (list : List (List ℕ)) (n : ℕ) (stop : Stop) (us : List Line) : Type 0 where
  pub said : Between list n stop.lines (us ++ stopper stop.lines stop.fresh)
  pub none : AllByRecursion (λ line. makes line.call ≡ false) us
  pub end : stop.fresh ≡ None → stop.lines ≡ length list
  pub further : (fresh : Fresh) → stop.fresh ≡ Some fresh → (n < stop.lines) × (stop.lines ≤ length list)

-- lines that no sheet stands before are answered by errors
pub record NoSheet (list : List (List ℕ)) (n : ℕ) (stop : Stop) (old new : Output) : Type 0 where
  pub us : List Line
  pub upto : UpTo list n stop us
  pub text : string_bytes new.text ≡ string_bytes old.text ++ unsheeted_lines us
  pub none : Clean new → Clean old × (us ≡ [])

-- the lines of a sheet are noted in its plan and its supply
pub record NotesUpTo {T : Type 0} (spells : List ℕ → T → Type 0) (kind : SheetKind) (list : List (List ℕ)) (n : ℕ) (stop : Stop) (supply new_supply : Supply T) (plan new_plan : Plan T) : Type 0 where
  pub us : List Line
  pub upto : UpTo list n stop us
  pub notes : NotesAll spells kind us supply new_supply plan new_plan
  pub asked : AllAsked new_plan.items.items → AllAsked plan.items.items × Sound us

-- lines are answered by such a text
pub record Told (so : List Line → List ℕ → Type 0) (list : List (List ℕ)) (n : ℕ) (stop : Stop) (old new : Output) : Type 0 where
  pub us : List Line
  pub upto : UpTo list n stop us
  pub text : Prints (so us) old new
  pub sound : Answered us old new
