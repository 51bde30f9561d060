-- One call in a world: what it leaves on an open sheet, and on a published one.
use Rattle.std.proofs.Common.{◌≡◌, ℕ, ◌+◌, ◌-◌, min, ◌⊎◌, List, ◌++◌, length, take, drop, Some, None, Result, sym, refl, ap, ◌∙◌, subst, ⊎_elim}
use Rattle.boards.specs.declared.board.Board.{Ghosts as Board}
use Rattle.keeps.specs.declared.keep.Keep.{Ghosts as Keep}
use Rattle.sheet.specs.declared.sheets.OpenSheet.{OpenSheet}
use Rattle.sheet.specs.Book.{Book}
use Rattle.sheet.specs.Sheets.{Stands}
use Rattle.cells.specs.declared.refusal.Refusal.{Refusal}
use Rattle.flat.specs.declared.segment.Segment.{Segment}
use Rattle.flat.specs.Segments.{part, patched}
use Rattle.flat.proofs.Segments.{part_is, patched_is}
use Rattle.replay.specs.declared.call.Call.{Call}
use Rattle.replay.specs.declared.call.Call.TheVariants.{Put, Insert, Remove, Transpose, Flip, StepBack, Publish, Reopen, Get, Size, Owed, Kept, Settled}
use Rattle.replay.specs.declared.call.Answer.{Answer}
use Rattle.replay.specs.declared.call.Answer.TheVariants.{Said, Count, Moved, Lacking}
use Rattle.replay.specs.declared.call.State.{State}
use Rattle.replay.specs.declared.call.State.TheVariants.{Open}
use Rattle.replay.specs.World.{World, Holds, Steps, by_stage, edited, open_only, next, reply}

module _ {T : Type 0} (w : World T) (st : w.stage ≡ None) where
  pub edited_is : (b : Book T) (memory : List T) → edited w b memory ≡ record { book = b; stage = None; memory = memory }
  edited_is b memory = ap (λ o. by_stage {A = World T} o (record { book = b; stage = None; memory = memory }) (λ n. w)) st

  pub said_open : (a : Answer T) → a ≡ open_only w a
  said_open a = ap (λ o. by_stage o a (λ n. Lacking)) (sym st)

-- a call that leaves the world `left`, as the sheet does
pub steps_to : {B K T : Type 0} (as_board : Board B T) (as_keep : Keep K T) (new : State B K) (a : Answer T) (memory pool : List T) (call : Call T) (w left : World T)
    → next pool call w ≡ left → reply pool call w ≡ a → Holds as_board as_keep new left → memory ≡ left.memory → Steps as_board as_keep new a memory pool call w
steps_to as_board as_keep new a memory pool call w left world said h m = record {
  stands = subst (λ z. Holds as_board as_keep new z) (sym world) h;
  answer = sym said;
  memory_is = m ∙ sym (ap (λ z. z.memory) world);
}

-- an edit that leaves the open sheet standing by the book b, the answer a and the memory
module _ {B K T : Type 0} (as_board : Board B T) (as_keep : Keep K T) (s : OpenSheet B K) (a : Answer T) (memory pool : List T) (call : Call T) (w : World T) (st : w.stage ≡ None) where
  pub edit_steps : (b : Book T) → next pool call w ≡ edited w b memory → reply pool call w ≡ open_only w a → Stands as_board as_keep s b → Steps as_board as_keep (Open s) a memory pool call w
  edit_steps b world said h = steps_to as_board as_keep (Open s) a memory pool call w (record { book = b; stage = None; memory = memory }) (world ∙ edited_is w st b memory) (said ∙ sym (said_open w st a)) (refl, h) refl

-- An edit that is handed a segment of the memory, which lies from `a` to `e`: on its cells the book answers as `said` says, goes
-- on as `book` says and leaves them as `left` says.
module _ {B K T : Type 0} (as_board : Board B T) (as_keep : Keep K T) (s : OpenSheet B K) (r : Result Unit Refusal) (old pool : List T) (call : Call T) (w : World T) (st : w.stage ≡ None) (m : w.memory ≡ old)
    (said : List T → Book T → Result Unit Refusal) (book : List T → Book T → Book T) (left : List T → Book T → List T) (g : Segment) (a e : ℕ) (a_is : a ≡ min g.start (length old)) (e_is : e ≡ a + min g.len (length old - a)) where
  pub lent_steps : next pool call w ≡ edited w (book (part w.memory g) w.book) (patched w.memory g (left (part w.memory g) w.book)) → reply pool call w ≡ open_only w (Said (said (part w.memory g) w.book))
      → (ys : List T) → (r ≡ said (take (e - a) (drop a old)) w.book) × Stands as_board as_keep s (book (take (e - a) (drop a old)) w.book) → ys ≡ left (take (e - a) (drop a old)) w.book
      → Steps as_board as_keep (Open s) (Said r) (take a old ++ (ys ++ drop (e - a) (drop a old))) pool call w
  lent_steps world answer ys h ys_is =
      let xs = take (e - a) (drop a old) in
      let memory = take a old ++ (ys ++ drop (e - a) (drop a old)) in
      let now : part w.memory g ≡ xs = ap (λ z. part z g) m ∙ sym (part_is old g a e a_is e_is) in
      let cells : patched w.memory g (left (part w.memory g) w.book) ≡ memory = ap (λ z. patched w.memory g (left z w.book)) now ∙ ap (patched w.memory g) (sym ys_is) ∙ ap (λ z. patched z g ys) m ∙ sym (patched_is old g a e a_is e_is ys) in
      edit_steps as_board as_keep s (Said r) memory pool call w st (book xs w.book)
      (world ∙ ap (λ z. edited w (book (part w.memory g) w.book) z) cells ∙ ap (λ z. edited w (book z w.book) memory) now)
      (answer ∙ ap (λ z. open_only w (Said (said z w.book))) now ∙ ap (λ z. open_only w (Said z)) (sym h.0))
      h.1

-- a call on an open sheet that is handed no memory
module _ {B K T : Type 0} (as_board : Board B T) (as_keep : Keep K T) (s : OpenSheet B K) (memory pool : List T) (call : Call T) (w : World T) (st : w.stage ≡ None) (m : w.memory ≡ memory) where
  -- an edit: the book answers as `said` says, and goes on as `book` says
  pub edit_said : (r : Result Unit Refusal) (said : Book T → Result Unit Refusal) (book : Book T → Book T) → next pool call w ≡ edited w (book w.book) w.memory → reply pool call w ≡ open_only w (Said (said w.book))
      → (r ≡ said w.book) × Stands as_board as_keep s (book w.book) → Steps as_board as_keep (Open s) (Said r) memory pool call w
  edit_said r said book world answer h = edit_steps as_board as_keep s (Said r) memory pool call w st (book w.book) (world ∙ ap (edited w (book w.book)) m) (answer ∙ ap (λ z. open_only w (Said z)) (sym h.0)) h.1

  -- a question
  pub asked : (a : Answer T) → next pool call w ≡ w → reply pool call w ≡ a → Stands as_board as_keep s w.book → Steps as_board as_keep (Open s) a memory pool call w
  asked a world said h = steps_to as_board as_keep (Open s) a memory pool call w w world said (st, h) (sym m)

  -- a call that an open sheet lacks
  pub not_open : (call ≡ Reopen) ⊎ (call ≡ Settled) → Stands as_board as_keep s w.book → Steps as_board as_keep (Open s) Lacking memory pool call w
  not_open is h = ⊎_elim
      (λ e. asked Lacking (ap (λ k. next pool k w) e ∙ (λ i. record { book = w.book; stage = sym st i; memory = w.memory })) (ap (λ k. reply pool k w) e ∙ ap (λ o. by_stage o Lacking (λ n. Moved)) st) h)
      (λ e. asked Lacking (ap (λ k. next pool k w) e) (ap (λ k. reply pool k w) e ∙ ap (λ o. by_stage o Lacking (λ n. Count n)) st) h)
      is

-- a call on a published sheet that leaves it as it is
module _ {T : Type 0} (pool : List T) (w : World T) (n : ℕ) (st : w.stage ≡ Some n) where
  late : {A : Type 0} (first : A) (later : ℕ → A) → by_stage w.stage first later ≡ later n
  late first later = ap (λ o. by_stage o first later) st

  -- all but four
  pub not_published : (call : Call T) → (call ≡ Reopen → ⊥) → ((r c : ℕ) → call ≡ Get r c → ⊥) → (call ≡ Size → ⊥) → (call ≡ Settled → ⊥) → (next pool call w ≡ w) × (reply pool call w ≡ Lacking)
  not_published (Put r c x) _ _ _ _ = (late _ _, late _ _)
  not_published (Insert ax i g) _ _ _ _ = (late _ _, late _ _)
  not_published (Remove ax i g) _ _ _ _ = (late _ _, late _ _)
  not_published Transpose _ _ _ _ = (late _ _, late _ _)
  not_published (Flip ax) _ _ _ _ = (late _ _, late _ _)
  not_published (StepBack g) _ _ _ _ = (late _ _, late _ _)
  not_published Publish _ _ _ _ = (late _ _, late _ _)
  not_published Reopen p _ _ _ = absurd (p refl)
  not_published (Get r c) _ p _ _ = absurd (p r c refl)
  not_published Size _ _ p _ = absurd (p refl)
  not_published Owed _ _ _ _ = (refl, late _ _)
  not_published Kept _ _ _ _ = (refl, late _ _)
  not_published Settled _ _ _ p = absurd (p refl)

-- the same of a sheet, an answer and a memory that are these
pub steps_by : {B K T : Type 0} (as_board : Board B T) (as_keep : Keep K T) (pool : List T) (call : Call T) (w : World T) {s s' : OpenSheet B K} {a a' : Answer T} {m m' : List T} → s' ≡ s → a' ≡ a → m' ≡ m
    → Steps as_board as_keep (Open s) a m pool call w → Steps as_board as_keep (Open s') a' m' pool call w
steps_by as_board as_keep pool call w {s} {s'} {a} {a'} {m} {m'} es ea em h =
    subst (λ z. Steps as_board as_keep (Open z) a' m' pool call w) (sym es) (subst (λ z. Steps as_board as_keep (Open s) z m' pool call w) (sym ea) (subst (λ z. Steps as_board as_keep (Open s) a z pool call w) (sym em) h))
