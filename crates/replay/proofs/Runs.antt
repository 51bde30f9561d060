-- A list on a sheet, one call longer.
use Rattle.std.proofs.Common.{◌≡◌, ℕ, ◌+◌, ◌<◌, ◌≤◌, List, [], ◌∷◌, ◌++◌, length, take, set, Some, sym, refl, ap, ◌∙◌, subst, inl, inr, ⊎_elim, arith, length-append, length-take-le, take_all}
use lib.Seq.{take-append-le}
use Rattle.std.specs.List.{slice_get}
use Rattle.std.proofs.lemmas.Bool.{cases_lt}
use Rattle.matrix.specs.Matrix.{over}
use Rattle.matrix.proofs.Stretches.{take_one_more}
use Rattle.matrix.proofs.Longer.{after_one_more, said_one_more, take_past}
use Rattle.boards.specs.declared.board.Board.{Ghosts as Board}
use Rattle.keeps.specs.declared.keep.Keep.{Ghosts as Keep}
use Rattle.sheet.specs.declared.sheets.PublishedSheet.{PublishedSheet}
use Rattle.sheet.specs.Book.{Entry, edits}
use Rattle.replay.specs.declared.call.Call.{Call}
use Rattle.replay.specs.declared.call.Answer.{Answer}
use Rattle.replay.specs.declared.call.State.{State}
use Rattle.replay.specs.declared.call.State.TheVariants.{Open, Published}
use Rattle.replay.specs.World.{World, Holds, Steps, Firm, Ran, next, reply, after, replies}

no_edits : {T : Type 0} (es : List (Entry T)) → [] ≡ edits es → es ≡ []
no_edits [] p = refl
no_edits (e ∷ es) p = absurd (omega (arith, ap length p, length-append (edits es) (e.edit ∷ [])))

module _ {B K T : Type 0} (as_board : Board B T) (as_keep : Keep K T) where
  holds_firm : (n : ℕ) (state : State B K) (w : World T) → Holds as_board as_keep state w → length w.memory ≡ n → Firm n w
  holds_firm n (Open s) w h e = record { past = h.1.past; owing = inl h.0; room = e }
  holds_firm n (Published p) w h e = record { past = h.1.0.past; owing = inr (no_edits w.book.entries h.1.0.notes); room = e }

  pub owes_nothing : (p : PublishedSheet B K) (w : World T) → Holds as_board as_keep (Published p) w → 0 ≡ length w.book.entries
  owes_nothing p w h = sym (ap length (no_edits w.book.entries h.1.0.notes))

  module _ (pool : List T) (calls : List (Call T)) (before : List (Answer T)) (w : World T) where
    pub ran_none : (state : State B K) (memory : List T) → Holds as_board as_keep state w → w.memory ≡ memory → Ran as_board as_keep state memory before before pool [] w
    ran_none state memory h m = record {
      stands = h;
      memory_is = sym m;
      answers_are = refl;
      firm = λ k. subst (λ z. Firm (length w.memory) (after pool z w)) (sym (take_all k [] (omega arith))) (holds_firm (length w.memory) state w h refl);
    }

    pub ran_more : (i : ℕ) (state old : State B K) (a : Answer T) (memory was : List T) (answers : List (Answer T)) (c : Call T) → slice_get calls i ≡ Some c → i < length calls → i < length before
        → Steps as_board as_keep state a memory pool c (after pool (take i calls) w) → length memory ≡ length w.memory → Ran as_board as_keep old was before answers pool (take i calls) w
        → Ran as_board as_keep state memory before (set answers i a) pool (take (i + 1) calls) w
    ran_more i state old a memory was answers c e hc hb s len ran = record {
      stands = stands;
      memory_is = memory_is;
      answers_are = ap (λ z. set z i a) ran.answers_are ∙ ap (set (over (replies pool (take i calls) w) before) i) s.answer ∙ said_one_more (next pool) (reply pool) calls i c e w before hc hb;
      firm = λ k. ⊎_elim
          (λ (h : k < i + 1). subst (λ z. Firm (length w.memory) (after pool z w)) (sym (ap (take k) more ∙ take-append-le k (take i calls) (c ∷ []) (omega (arith, long)))) (ran.firm k))
          (λ (h : i + 1 ≤ k). subst (λ z. Firm (length w.memory) (after pool z w)) (sym (take_all k (take (i + 1) calls) (omega (arith, length-take-le (i + 1) calls (omega arith))))) (holds_firm (length w.memory) state _ stands (sym (ap length memory_is) ∙ len)))
          (cases_lt k (i + 1));
    }
      where
        long : length (take i calls) ≡ i
        long = length-take-le i calls (omega arith)

        more : take (i + 1) calls ≡ take i calls ++ (c ∷ [])
        more = take_one_more calls i c e

        world : next pool c (after pool (take i calls) w) ≡ after pool (take (i + 1) calls) w
        world = after_one_more (next pool) (reply pool) calls i c e w

        stands : Holds as_board as_keep state (after pool (take (i + 1) calls) w)
        stands = subst (λ z. Holds as_board as_keep state z) world s.stands

        memory_is : memory ≡ (after pool (take (i + 1) calls) w).memory
        memory_is = s.memory_is ∙ ap (λ z. z.memory) world

    -- no calls are left
    pub ran_past : (k : ℕ) (state : State B K) (memory : List T) (answers : List (Answer T)) → length calls ≤ k → Ran as_board as_keep state memory before answers pool (take k calls) w
        → Ran as_board as_keep state memory before answers pool (take (k + 1) calls) w
    ran_past k state memory answers h ran = subst (λ z. Ran as_board as_keep state memory before answers pool z w) (take_past calls k h) ran

    -- the same of a sheet, a memory and answers that are these
    pub ran_by : (made : List (Call T)) {s s' : State B K} {m m' : List T} {rs rs' : List (Answer T)} → s' ≡ s → m' ≡ m → rs' ≡ rs → Ran as_board as_keep s m before rs pool made w → Ran as_board as_keep s' m' before rs' pool made w
    ran_by made {s} {s'} {m} {m'} {rs} {rs'} es em er h =
        subst (λ z. Ran as_board as_keep z m' before rs' pool made w) (sym es) (subst (λ z. Ran as_board as_keep s z before rs' pool made w) (sym em) (subst (λ z. Ran as_board as_keep s m before z pool made w) (sym er) h))
