-- A list of a scorer's calls, run on the book.
use Rattle.std.specs.Prelude.{◌≡◌, ℕ, ◌⊎◌, List, [], length, take, Some, None, Option}
use Rattle.matrix.specs.declared.limits.Limits.{Limits}
use Rattle.matrix.specs.Matrix.{Matrix, over}
use Rattle.matrix.specs.Runs as runs
use Rattle.flat.specs.Segments.{part, patched}
use Rattle.boards.specs.declared.board.Board.{Ghosts as Board}
use Rattle.keeps.specs.declared.keep.Keep.{Ghosts as Keep}
use Rattle.sheet.specs.Book.{Book, fresh, kept, settle, put_said, put_book, insert_said, insert_book, remove_said, remove_book, remove_memory, plain_said, transpose_book, flip_book, back_said, back_book, back_memory}
use Rattle.sheet.specs.Stands.{Past}
use Rattle.sheet.specs.Sheets.{Stands, Closed}
use Rattle.replay.specs.declared.call.Call.{Call}
use Rattle.replay.specs.declared.call.Call.TheVariants.{Put, Insert, Remove, Transpose, Flip, StepBack, Publish, Reopen, Get, Size, Owed, Kept, Settled}
use Rattle.replay.specs.declared.call.Answer.{Answer}
use Rattle.replay.specs.declared.call.Answer.TheVariants.{Said, Cell, Sized, Count, Moved, Lacking}
use Rattle.replay.specs.declared.call.State.{State}
use Rattle.replay.specs.declared.call.State.TheVariants.{Open, Published}

-- the book; whether the sheet is published, and how many edits that settled; the pool of memory
pub record World (T : Type 0) : Type 0 where
  pub book : Book T
  pub stage : Option ℕ
  pub memory : List T

abbrev pub begun : {T : Type 0} → Matrix T → Limits → ℕ → List T → World T
begun m l most memory = record { book = fresh m l most; stage = None; memory = memory }

-- on a new sheet of a board and a keep, with this memory
abbrev pub started : {B K T : Type 0} → Board B T → Keep K T → B → K → List T → World T
started as_board as_keep board keep memory = begun (as_board.matrix board) (as_board.limits board) (as_keep.store keep).most memory

abbrev pub by_stage : {A : Type 0} → Option ℕ → A → (ℕ → A) → A
by_stage None first later = first
by_stage (Some n) first later = later n

-- an edit of the open sheet: what it leaves, and nothing on a published one
abbrev pub edited : {T : Type 0} → World T → Book T → List T → World T
edited w b memory = by_stage w.stage (record { book = b; stage = None; memory = memory }) (λ n. w)

abbrev pub next : {T : Type 0} → List T → Call T → World T → World T
next pool (Put r c x) w = edited w (put_book r c x w.book) w.memory
next pool (Insert ax i g) w = edited w (insert_book ax i (part pool g) w.book) w.memory
next pool (Remove ax i g) w = edited w (remove_book ax i (part w.memory g) w.book) (patched w.memory g (remove_memory ax i (part w.memory g) w.book))
next pool Transpose w = edited w (transpose_book w.book) w.memory
next pool (Flip ax) w = edited w (flip_book ax w.book) w.memory
next pool (StepBack g) w = edited w (back_book (part w.memory g) w.book) (patched w.memory g (back_memory (part w.memory g) w.book))
next pool Publish w = by_stage w.stage (record { book = settle w.book; stage = Some (length w.book.entries); memory = w.memory }) (λ n. w)
next pool Reopen w = record { book = w.book; stage = None; memory = w.memory }
next pool (Get r c) w = w
next pool Size w = w
next pool Owed w = w
next pool Kept w = w
next pool Settled w = w

abbrev pub open_only : {T : Type 0} → World T → Answer T → Answer T
open_only w a = by_stage w.stage a (λ n. Lacking)

abbrev pub reply : {T : Type 0} → List T → Call T → World T → Answer T
reply pool (Put r c x) w = open_only w (Said (put_said r c w.book))
reply pool (Insert ax i g) w = open_only w (Said (insert_said ax i (part pool g) w.book))
reply pool (Remove ax i g) w = open_only w (Said (remove_said ax i (part w.memory g) w.book))
reply pool Transpose w = open_only w (Said (plain_said w.book))
reply pool (Flip ax) w = open_only w (Said (plain_said w.book))
reply pool (StepBack g) w = open_only w (Said (back_said (part w.memory g) w.book))
reply pool Publish w = open_only w (Count (length w.book.entries))
reply pool Reopen w = by_stage w.stage Lacking (λ n. Moved)
reply pool (Get r c) w = Cell (w.book.matrix.cell r c)
reply pool Size w = Sized w.book.matrix.rows w.book.matrix.cols
reply pool Owed w = open_only w (Count (length w.book.entries))
reply pool Kept w = open_only w (Count (length (kept w.book.entries)))
reply pool Settled w = by_stage w.stage Lacking (λ n. Count n)

-- a whole list: the world that is left, and the answers in their order
abbrev pub after : {T : Type 0} → List T → List (Call T) → World T → World T
after pool cs w = runs.after (next pool) cs w

abbrev pub replies : {T : Type 0} → List T → List (Call T) → World T → List (Answer T)
replies pool cs w = runs.replies (next pool) (reply pool) cs w

-- a sheet, open or published, stands as a world says
abbrev pub Holds : {B K T : Type 0} → Board B T → Keep K T → State B K → World T → Type 0
Holds as_board as_keep (Open s) w = (w.stage ≡ None) × Stands as_board as_keep s w.book
Holds as_board as_keep (Published p) w = (w.stage ≡ Some p.settled) × Closed as_board as_keep p w.book p.settled

-- one call on such a sheet
pub record Steps {B K T : Type 0} (as_board : Board B T) (as_keep : Keep K T) (new : State B K) (a : Answer T) (memory : List T) (pool : List T) (c : Call T) (w : World T) : Type 0 where
  pub stands : Holds as_board as_keep new (next pool c w)
  pub answer : a ≡ reply pool c w
  pub memory_is : memory ≡ (next pool c w).memory

-- what steps back rest on: owed edits can be undone, a published sheet owes none, and the memory has n cells
pub record Firm {T : Type 0} (n : ℕ) (w : World T) : Type 0 where
  pub past : Past w.book.limits w.book.matrix w.book.entries
  pub owing : (w.stage ≡ None) ⊎ (w.book.entries ≡ [])
  pub room : length w.memory ≡ n

-- a list of calls on such a sheet, the answers written over a memory for them
pub record Ran {B K T : Type 0} (as_board : Board B T) (as_keep : Keep K T) (new : State B K) (memory : List T) (before answers : List (Answer T)) (pool : List T) (calls : List (Call T)) (w : World T) : Type 0 where
  pub stands : Holds as_board as_keep new (after pool calls w)
  pub memory_is : memory ≡ (after pool calls w).memory
  pub answers_are : answers ≡ over (replies pool calls w) before
  pub firm : (k : ℕ) → Firm (length w.memory) (after pool (take k calls) w)

-- the board and the keep of a sheet, open or published
abbrev pub board_of : {B K : Type 0} → State B K → B
board_of (Open s) = s.board
board_of (Published p) = p.board

abbrev pub keep_of : {B K : Type 0} → State B K → K
keep_of (Open s) = s.keep
keep_of (Published p) = p.keep
