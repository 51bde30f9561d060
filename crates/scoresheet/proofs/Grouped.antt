-- The texts of sheets, one after another.
use Rattle.std.proofs.Common.{◌≡◌, ℕ, List, [], ◌∷◌, ◌++◌, Bool, true, false, cond, Result, Ok, refl, rules, sym, ap, ◌∙◌, subst, append_assoc, append-nil}
use Rattle.std.specs.Prelude.{string_bytes, ⊤}
use Rattle.std.specs.List.{AllByRecursion}
use Rattle.cells.specs.declared.refusal.Refusal.{Refusal}
use Rattle.layouts.specs.Layouts.{ground_answer}
use Rattle.listing.specs.declared.answer.Answer.{Answer}
use Rattle.listing.specs.declared.call.SheetKind.{SheetKind}
use Rattle.listing.specs.declared.call.Fresh.{Fresh}
use Rattle.listing.specs.declared.call.Call.{Call}
use Rattle.listing.specs.declared.wrong.Wrong.{Wrong}
use Rattle.listing.specs.Lines.{answer_text}
use Rattle.listing.specs.Spellings.{passage_word}
use Rattle.scoresheet.specs.declared.lines.Line.{Line}
use Rattle.scoresheet.specs.declared.output.Output.{Output}
use Rattle.scoresheet.specs.Pages.{answer_line, unsheeted_lines}
use Rattle.scoresheet.specs.Sheets.{Prints, MadeText, FirstText, GroupText, GroupsText, makes, making, joined, sheets}

-- the answer to the line that makes a sheet, and then those of the sheet
pub made_text : (n : ℕ) (us : List Line) (fresh : Fresh) (made m : Result Unit Refusal) (kind : SheetKind) (old mid new : Output) → made ≡ ground_answer fresh.layout.ground
    → string_bytes mid.text ≡ string_bytes old.text ++ answer_line (answer_text passage_word (Answer.Done made)) → made ≡ m → fresh.kind ≡ kind
    → Prints (MadeText m kind fresh us) mid new → Prints (GroupText (making n fresh ∷ us)) old new
made_text n us fresh made m kind old mid new answer first em ek more =
    let own = answer_line (answer_text passage_word (Answer.Done made)) in (
      own ++ more.0,
      more.1 ∙ ap (λ z. z ++ more.0) first ∙ append_assoc (string_bytes old.text) own more.0,
      (
        more.0,
        ap (λ z. answer_line (answer_text passage_word (Answer.Done z)) ++ more.0) answer,
        subst (λ z. MadeText z fresh.kind fresh us more.0) (sym em ∙ answer) (subst (λ k. MadeText m k fresh us more.0) (sym ek) more.2),
      ),
    )

-- what is left begins with a line that makes a sheet
abbrev pub NextMakes : List Line → Type 0
NextMakes [] = ⊤
NextMakes (line ∷ lines) = makes line.call ≡ true

-- a line that makes a sheet is joined by none before it
before_new : (y m : Line) (groups : List (List Line)) → makes m.call ≡ true → joined y (joined m groups) ≡ (y ∷ []) ∷ joined m groups
before_new y m [] e = ap (λ b. cond b ((y ∷ []) ∷ (m ∷ []) ∷ []) ((y ∷ m ∷ []) ∷ [])) e
before_new y m ([] ∷ groups) e = ap (λ b. cond b ((y ∷ []) ∷ (m ∷ []) ∷ [] ∷ groups) ((y ∷ m ∷ []) ∷ [] ∷ groups)) e
before_new y m ((first ∷ rest) ∷ groups) e = either (makes first.call) where
  either : (b : Bool) → joined y (cond b ((m ∷ []) ∷ (first ∷ rest) ∷ groups) ((m ∷ first ∷ rest) ∷ groups)) ≡ (y ∷ []) ∷ cond b ((m ∷ []) ∷ (first ∷ rest) ∷ groups) ((m ∷ first ∷ rest) ∷ groups)
  either true = ap (λ b. cond b ((y ∷ []) ∷ (m ∷ []) ∷ (first ∷ rest) ∷ groups) ((y ∷ m ∷ []) ∷ (first ∷ rest) ∷ groups)) e
  either false = ap (λ b. cond b ((y ∷ []) ∷ (m ∷ first ∷ rest) ∷ groups) ((y ∷ m ∷ first ∷ rest) ∷ groups)) e

-- none but the first makes a sheet, and the next does
pub sheets_cut : (y : Line) (ys more : List Line) → AllByRecursion (λ line. makes line.call ≡ false) ys → NextMakes more → sheets (y ∷ (ys ++ more)) ≡ (y ∷ ys) ∷ sheets more
sheets_cut y [] [] h next = refl
sheets_cut y [] (m ∷ more) h next = before_new y m (sheets more) next
sheets_cut y (z ∷ zs) more h next = ap (joined y) (sheets_cut z zs more h.1 next) ∙ ap (λ b. cond b ((y ∷ []) ∷ (z ∷ zs) ∷ sheets more) ((y ∷ z ∷ zs) ∷ sheets more)) h.0

-- lines are answered, and any text may follow of lines of which the first makes a sheet
abbrev pub SoFar : List Line → List ℕ → Type 0
SoFar ls text = (more : List Line) (after : List ℕ) → NextMakes more → GroupsText (sheets more) after → GroupsText (sheets (ls ++ more)) (text ++ after)

-- a line that makes no sheet, and others that no sheet stands before
first_text : (call : Result Call Wrong) (line : Line) (lines : List Line) → makes call ≡ false → FirstText call line lines (unsheeted_lines (line ∷ lines))
first_text (Ok (Call.New fresh)) line lines e = search (rules, e)
first_text call line lines e = refl

-- lines that no sheet stands before
pub so_far_first : (us : List Line) (text : List ℕ) → AllByRecursion (λ line. makes line.call ≡ false) us → text ≡ unsheeted_lines us → SoFar us text
so_far_first [] text none e more after next h = subst (λ z. GroupsText (sheets more) (z ++ after)) (sym e) h
so_far_first (u ∷ us) text none e more after next h =
    subst (λ gs. GroupsText gs (text ++ after)) (sym (sheets_cut u us more none.1 next)) (text, after, refl, subst (GroupText (u ∷ us)) (sym e) (first_text u.call u us none.0), h)

-- one sheet more
pub so_far_more : (ls us : List Line) (n : ℕ) (fresh : Fresh) (old new : Output) → SoFar ls (string_bytes old.text) → AllByRecursion (λ line. makes line.call ≡ false) us
    → Prints (GroupText (making n fresh ∷ us)) old new → SoFar (ls ++ (making n fresh ∷ us)) (string_bytes new.text)
so_far_more ls us n fresh old new h none group more after next text =
    let all = h (making n fresh ∷ (us ++ more)) (group.0 ++ after) refl
    (subst (λ gs. GroupsText gs (group.0 ++ after)) (sym (sheets_cut (making n fresh) us more none next)) (group.0, after, refl, group.2, text)) in
    subst (λ xs. GroupsText (sheets xs) (string_bytes new.text ++ after)) (sym (append_assoc ls (making n fresh ∷ us) more))
    (subst (GroupsText (sheets (ls ++ (making n fresh ∷ (us ++ more))))) (sym (ap (λ z. z ++ after) group.1 ∙ append_assoc (string_bytes old.text) group.0 after)) all)

-- no line is left
pub so_far_end : (ls : List Line) (text : List ℕ) → SoFar ls text → GroupsText (sheets ls) text
so_far_end ls text h = subst (λ xs. GroupsText (sheets xs) text) (append-nil ls) (subst (GroupsText (sheets (ls ++ []))) (append-nil text) (h [] [] tt refl))
