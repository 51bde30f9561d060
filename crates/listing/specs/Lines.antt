-- The line of each answer.
use Rattle.std.specs.Prelude.{ℕ, List, ◌++◌, Some, None, Ok, Err, codes, decimal, flat_map}
use Rattle.cells.specs.Refusals.{number, spelt}
use Rattle.listing.specs.declared.answer.Answer.{Answer}
use Rattle.listing.specs.Names.{name_word}

-- the cells of a line, each after a space
abbrev pub cells_text : {A : Type 0} → (A → List ℕ) → List A → List ℕ
cells_text spell xs = flat_map (λ x. codes " " ++ spell x) xs

abbrev pub answer_text : {A : Type 0} → (A → List ℕ) → Answer A → List ℕ
answer_text spell (Answer.Done (Ok done)) = codes "ok"
answer_text spell (Answer.Done (Err refusal)) = codes "refused " ++ decimal (number refusal) ++ codes " " ++ spelt refusal
answer_text spell (Answer.Line cells) = codes "ok line" ++ cells_text spell cells.0.now
answer_text spell (Answer.Row cells) = codes "row" ++ cells_text spell cells.0.now
answer_text spell (Answer.Size rows cols) = codes "size " ++ decimal rows ++ codes " " ++ decimal cols
answer_text spell (Answer.Cell (Some x)) = codes "cell " ++ spell x
answer_text spell (Answer.Cell None) = codes "absent"
answer_text spell (Answer.Count name n) = name_word name ++ codes " " ++ decimal n
answer_text spell (Answer.Published n) = codes "ok settled " ++ decimal n
answer_text spell (Answer.Tally accepted owed back settled) = codes "tally " ++ decimal accepted ++ codes " " ++ decimal owed ++ codes " " ++ decimal back ++ codes " " ++ decimal settled
