-- Laws over every list of calls.
use Rattle.std.specs.Prelude.{◌≡◌, ℕ, zero, suc, ◌+◌, ◌≤◌, min, List, [], ◌∷◌, ◌++◌, map, length, drop, Ok}
use Rattle.matrix.specs.Matrix.{Matrix, turned}
use Rattle.boards.specs.declared.board.Board.{Ghosts as Board}
use Rattle.keeps.specs.declared.keep.Keep.{Ghosts as Keep}
use Rattle.sheet.specs.declared.edit.Edit.{Edit}
use Rattle.sheet.specs.declared.edit.Edit.TheVariants as edit
use Rattle.matrix.specs.Axes.{other}
use Rattle.sheet.specs.Book.{Book, Entry, kept}
use Rattle.flat.specs.declared.segment.Segment.{Segment}
use Rattle.replay.specs.declared.call.Call.{Call}
use Rattle.replay.specs.declared.call.Call.TheVariants.{Put, Insert, Remove, Transpose, Flip, StepBack, Publish, Reopen, Get, Size, Owed, Kept, Settled}
use Rattle.replay.specs.declared.call.Answer.{Answer}
use Rattle.replay.specs.declared.call.Answer.TheVariants.{Said, Cell, Sized, Count, Moved, Lacking}
use Rattle.replay.specs.declared.lists.Left.{Left}
use Rattle.replay.specs.World.{World, after, replies}
use Rattle.replay.specs.Tallies.{accepts, backs, settles, total}

-- the matrix that stood before the newest k entries of a book
abbrev pub earlier : {T : Type 0} → ℕ → Matrix T → List (Entry T) → Matrix T
earlier zero m es = m
earlier (suc k) m [] = m
earlier (suc k) m (e ∷ es) = earlier k e.before es

-- segments of 256 cells within a memory of n cells
abbrev pub Ample : ℕ → List Segment → Type 0
Ample n [] = Unit {0}
Ample n (g ∷ gs) = (g.len ≡ 256) × (g.start + 256 ≤ n) × Ample n gs

-- a step back for each segment, and all of them accepted
abbrev pub steps : {T : Type 0} → List Segment → List (Call T)
steps [] = []
steps (g ∷ gs) = StepBack g ∷ steps gs

abbrev pub all_done : {T : Type 0} → List Segment → List (Answer T)
all_done [] = []
all_done (g ∷ gs) = Said (Ok tt) ∷ all_done gs

-- rows and columns exchanged: in a call, in an answer, in an entry and in a book
abbrev pub exchange : {T : Type 0} → Call T → Call T
exchange (Put r c x) = Put c r x
exchange (Insert ax i g) = Insert (other ax) i g
exchange (Remove ax i g) = Remove (other ax) i g
exchange Transpose = Transpose
exchange (Flip ax) = Flip (other ax)
exchange (StepBack g) = StepBack g
exchange Publish = Publish
exchange Reopen = Reopen
exchange (Get r c) = Get c r
exchange Size = Size
exchange Owed = Owed
exchange Kept = Kept
exchange Settled = Settled

abbrev pub exchanged : {T : Type 0} → Answer T → Answer T
exchanged (Said r) = Said r
exchanged (Cell x) = Cell x
exchanged (Sized r c) = Sized c r
exchanged (Count n) = Count n
exchanged Moved = Moved
exchanged Lacking = Lacking

abbrev pub other_edit : Edit → Edit
other_edit (edit.Put r c) = edit.Put c r
other_edit (edit.Insert ax i n) = edit.Insert (other ax) i n
other_edit (edit.Remove ax i n) = edit.Remove (other ax) i n
other_edit edit.Transpose = edit.Transpose
other_edit (edit.Flip ax) = edit.Flip (other ax)

abbrev pub turned_entry : {T : Type 0} → Entry T → Entry T
turned_entry e = record { edit = other_edit e.edit; before = turned e.before; taken = e.taken }

abbrev pub turned_entries : {T : Type 0} → List (Entry T) → List (Entry T)
turned_entries [] = []
turned_entries (e ∷ es) = turned_entry e ∷ turned_entries es

abbrev pub turned_book : {T : Type 0} → Book T → Book T
turned_book b = record { matrix = turned b.matrix; limits = b.limits; most = b.most; entries = turned_entries b.entries; accepted = b.accepted; back = b.back; settled = b.settled }

abbrev pub turned_world : {T : Type 0} → World T → World T
turned_world w = record { book = turned_book w.book; stage = w.stage; memory = w.memory }

-- After any list on a new sheet, which began as the world w: of the sheet's own board and keep, of the count owed, of the
-- memory and of the answers.
pub record Law {B K T : Type 0} (as_board : Board B T) (as_keep : Keep K T) (end : Left B K) (memory : List T) (answers : List (Answer T)) (pool : List T) (calls : List (Call T)) (w : World T) : Type 0 where
  -- all answers are the book's, and so are the memory, the board's size and cells, and the count owed
  pub said : answers ≡ replies pool calls w
  pub left : memory ≡ (after pool calls w).memory
  pub cells : as_board.matrix end.board ≡ (after pool calls w).book.matrix
  pub owes : end.owed ≡ length (after pool calls w).book.entries
  -- edits accepted, counted from the answers, are owed, stepped back or settled
  pub count : total accepts calls answers ≡ end.owed + total backs calls answers + total settles calls answers
  -- and they are what the book counts, as are those stepped back and those settled
  pub accepted : (after pool calls w).book.accepted ≡ w.book.accepted + total accepts calls answers
  pub back : (after pool calls w).book.back ≡ w.book.back + total backs calls answers
  pub settled : (after pool calls w).book.settled ≡ w.book.settled + total settles calls answers
  -- the keep holds what owed edits took off, oldest first
  pub keeps : (as_keep.store end.keep).cells ≡ kept (after pool calls w).book.entries
  pub in_order : as_keep.ordered end.keep
  -- limits never change
  pub bounds : as_board.limits end.board ≡ w.book.limits
  pub most : (as_keep.store end.keep).most ≡ w.book.most
  -- Where the list ends with as many steps back as were owed at most, each given 256 cells, they are accepted, and the board
  -- has the size and cells that stood before the newest of those edits.
  pub restores : (cs : List (Call T)) (gs : List Segment) → calls ≡ cs ++ steps gs → length gs ≤ length (after pool cs w).book.entries → Ample (length w.memory) gs
      → (drop (length cs) answers ≡ all_done gs) × (as_board.matrix end.board ≡ earlier (length gs) (after pool cs w).book.matrix (after pool cs w).book.entries)
  -- the exchange of the list on the world turned is answered alike, and leaves the world turned
  pub turns : (after pool (map exchange calls) (turned_world w) ≡ turned_world (after pool calls w)) × (replies pool (map exchange calls) (turned_world w) ≡ map exchanged answers)

-- Two sheets, one of which began as the other turned, after a list and its exchange: of their own boards and keeps, of the
-- counts owed, of the memories and of the answers.
pub record Mirrored {B K C L T : Type 0} (as_board : Board B T) (as_keep : Keep K T) (as_board' : Board C T) (as_keep' : Keep L T) (end : Left B K) (end' : Left C L) (memory memory' : List T) (answers answers' : List (Answer T)) : Type 0 where
  pub said : answers' ≡ map exchanged answers
  pub left : memory' ≡ memory
  pub cells : as_board'.matrix end'.board ≡ turned (as_board.matrix end.board)
  pub owes : end'.owed ≡ end.owed
  pub keeps : (as_keep'.store end'.keep).cells ≡ (as_keep.store end.keep).cells

-- as many calls of a list as there is room for: for their exchange, and for the answers of both sheets
abbrev pub room : {C A : Type 0} → List C → List C → List A → List A → ℕ
room calls exchanged answers answers' = min (min (length calls) (length exchanged)) (min (length answers) (length answers'))
