-- What answers leave of the outcome, which is an error where one was answered.
use Rattle.std.specs.Prelude.{◌≡◌, ℕ, List, [], ◌∷◌, Ok, IsOk, All, ⊤, map}
use Rattle.std.specs.Str.Lines.{lines}
use Rattle.listing.specs.declared.call.Fresh.{Fresh}
use Rattle.listing.specs.declared.call.Call.{Call}
use Rattle.scoresheet.specs.declared.lines.Line.{Line}
use Rattle.scoresheet.specs.declared.output.Output.{Output}
use Rattle.scoresheet.specs.Lists.{words, AreLines}

-- no line is wrong, whatever the sheet
abbrev pub Sound : List Line → Type 0
Sound lines = All (λ line. IsOk line.call) lines

-- no error has been printed
abbrev pub Clean : Output → Type 0
Clean out = out.outcome ≡ Ok tt

-- lines are answered: where no error has been printed afterwards, none was before, and none of these lines is wrong
abbrev pub Answered : List Line → Output → Output → Type 0
Answered lines old new = Clean new → Clean old × Sound lines

-- the first line, if there is one, makes a sheet
abbrev pub Begins : List Line → Type 0
Begins [] = ⊤
Begins (line ∷ lines) = (fresh : Fresh) × (line.call ≡ Ok (Call.New fresh))

-- lines that are calls, or say nothing, and of which the first call makes a sheet
abbrev pub AnswerableLines : List (List ℕ) → Type 0
AnswerableLines list = (ls : List Line) × AreLines 1 (map words list) ls × Sound ls × Begins ls

-- a text of such lines
abbrev pub Answerable : List ℕ → Type 0
Answerable text = AnswerableLines (lines text)
