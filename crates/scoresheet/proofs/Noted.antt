-- Lines that make a plan, one after another.
use Rattle.std.proofs.Common.{◌≡◌, ℕ, ◌+◌, Bool, List, [], ◌∷◌, ◌++◌, refl, sym, subst}
use Rattle.std.specs.List.{list_any}
use Rattle.matrix.specs.Rules.{side_limit}
use Rattle.listing.specs.declared.call.SheetKind.{SheetKind}
use Rattle.listing.specs.declared.call.Fresh.{Fresh}
use Rattle.replay.specs.declared.call.Answer.{Answer}
use Rattle.replay.specs.Tallies.{capped}
use Rattle.scoresheet.specs.declared.lines.Line.{Line}
use Rattle.scoresheet.specs.declared.script.Plan.{Plan}
use Rattle.scoresheet.specs.declared.script.Supply.{Supply}
use Rattle.scoresheet.specs.declared.answers.Played.{Played}
use Rattle.scoresheet.specs.Asks.{Notes}
use Rattle.scoresheet.specs.Unrolls.{waits, unrolled}
use Rattle.scoresheet.specs.Sheets.{NotesAll, Runs, RunText, SheetText, Unrolled}

module _ {T : Type 0} (spells : List ℕ → T → Type 0) (kind : SheetKind) where
  -- one line more
  pub notes_append : (xs : List Line) (line : Line) (first old new : Supply T) (first_plan old_plan new_plan : Plan T) → NotesAll spells kind xs first old first_plan old_plan
      → Notes spells kind line old new old_plan new_plan → NotesAll spells kind (xs ++ (line ∷ [])) first new first_plan new_plan
  notes_append [] line first old new first_plan old_plan new_plan h one =
      (new, new_plan, subst (λ s. Notes spells kind line s new first_plan new_plan) h.0 (subst (λ p. Notes spells kind line old new p new_plan) h.1 one), (refl, refl))
  notes_append (x ∷ xs) line first old new first_plan old_plan new_plan h one = (h.0, h.1, h.2, notes_append xs line h.0 old new h.1 old_plan new_plan h.3 one)

-- the plan unrolled by what was said
pub unrolled_by : {T : Type 0} (plan : Plan T) (told said : List (Answer T)) (again : Plan T) → told ≡ said → again.items.items ≡ (unrolled plan.calls.items told plan.items.items).items
    → again.calls.items ≡ (unrolled plan.calls.items told plan.items.items).calls → again.pool ≡ capped ((unrolled plan.calls.items told plan.items.items).pool + side_limit) → Unrolled plan said again
unrolled_by plan told said again e items calls pool = subst (λ z. Unrolled plan z again) e (record { items = items; calls = calls; pool = pool })

-- all lines are noted, and the plan has run
pub sheet_text : {T : Type 0} (spells : List ℕ → T → Type 0) (spell : T → List ℕ) (fresh : Fresh) (lines : List Line) (none supply : Supply T) (no_plan plan : Plan T) (first : Played T) (text : List ℕ) (b : Bool)
    → none.starts.items ≡ [] → none.cells.items ≡ [] → no_plan.items.items ≡ [] → no_plan.calls.items ≡ [] → NotesAll spells fresh.kind lines none supply no_plan plan → plan.pool ≡ side_limit
    → Runs fresh supply plan first → list_any waits plan.items.items ≡ b → RunText b spell fresh supply plan first text → SheetText spells spell fresh lines text
sheet_text spells spell fresh lines none supply no_plan plan first text b starts cells items calls notes pool run waiting shown = record {
  supply = supply;
  plan = plan;
  made = record {
    no_supply = none;
    no_plan = no_plan;
    starts = starts;
    cells = cells;
    items = items;
    calls = calls;
    notes = notes;
    pool = pool;
  };
  first = first;
  run = run;
  shown = subst (λ z. RunText z spell fresh supply plan first text) (sym waiting) shown;
}
