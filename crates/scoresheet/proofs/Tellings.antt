-- The lines of a sheet, printed one after another.
use Rattle.std.proofs.Common.{◌≡◌, ℕ, ◌+◌, ◌<◌, List, [], ◌∷◌, ◌++◌, ◌⊎◌, ⊎_elim, length, take, get_or, refl, sym, ap, ◌∙◌, append_assoc}
use Rattle.std.proofs.lemmas.List.{take_more}
use Rattle.matrix.proofs.Runs.{after_append}
use Rattle.flat.specs.Segments.{part}
use Rattle.replay.specs.declared.call.Call.{Call}
use Rattle.replay.specs.declared.call.Answer.{Answer}
use Rattle.replay.specs.declared.tally.Tally.{Tally}
use Rattle.scoresheet.specs.declared.answers.Played.{Played}
use Rattle.scoresheet.specs.declared.script.Item.{Item}
use Rattle.scoresheet.specs.Pages.{Telling, with_all, item_lines, told_more, told}

none_answered : {T : Type 0} (t : Tally) (calls : List (Call T)) → with_all t calls [] ≡ t
none_answered t [] = refl
none_answered t (call ∷ calls) = refl

-- no call is left, or no answer
pub with_all_end : {T : Type 0} (t : Tally) (calls : List (Call T)) (all : List (Answer T)) → (calls ≡ []) ⊎ (all ≡ []) → with_all t calls all ≡ t
with_all_end t calls all = ⊎_elim (λ (e : calls ≡ []). ap (λ cs. with_all t cs all) e) (λ (e : all ≡ []). ap (with_all t calls) e ∙ none_answered t calls)

-- one line more, after some text
pub line_told : {T : Type 0} (spell : T → List ℕ) (played : Played T) (calls all own : List (Call T)) (answers said : List (Answer T)) (items : List Item) (k : ℕ) (d : Item) (start old new : List ℕ) (t u : Tally) → k < length items
    → all ≡ calls → own ≡ part all (get_or items k d).part → answers ≡ played.answers.items → said ≡ part answers (get_or items k d).part
    → old ≡ start ++ (told spell played calls (take k items)).text → t ≡ (told spell played calls (take k items)).tally
    → new ≡ old ++ item_lines spell played t (get_or items k d) own said → u ≡ with_all t own said
    → (new ≡ start ++ (told spell played calls (take (k + 1) items)).text) × (u ≡ (told spell played calls (take (k + 1) items)).tally)
line_told spell played calls all own answers said items k d start old new t u h ea eo ean es text tally line counts =
    let item = get_or items k d in
    let before = told spell played calls (take k items) in
    let own_is = eo ∙ ap (λ z. part z item.part) ea in
    let said_is = es ∙ ap (λ z. part z item.part) ean in
    let more : told spell played calls (take (k + 1) items) ≡ told_more spell played calls item before =
    ap (told spell played calls) (take_more items k d h) ∙ after_append (told_more spell played calls) (λ item s. s) (take k items) (item ∷ []) (record { text = []; tally = record { accepted = 0; back = 0; settled = 0 } }) in (
      line ∙ (λ i. text i ++ item_lines spell played (tally i) item (own_is i) (said_is i)) ∙ append_assoc start before.text _ ∙ ap (λ (z : Telling). start ++ z.text) (sym more),
      counts ∙ (λ i. with_all (tally i) (own_is i) (said_is i)) ∙ ap (λ (z : Telling). z.tally) (sym more),
    )
