-- What a sheet means: every book that it stands by.
use Rattle.std.specs.Prelude.{◌≡◌, ℕ, List, []}
use Rattle.boards.specs.declared.board.Board.{Ghosts as Board}
use Rattle.keeps.specs.declared.keep.Keep.{Ghosts as Keep}
use Rattle.sheet.specs.declared.sheets.OpenSheet.{OpenSheet}
use Rattle.sheet.specs.declared.sheets.PublishedSheet.{PublishedSheet}
use Rattle.sheet.specs.Book.{Book}
use Rattle.sheet.specs.Stands.{Agrees}

abbrev pub Stands : {B K T : Type 0} → Board B T → Keep K T → OpenSheet B K → Book T → Type 0
Stands board keep s b = Agrees (keep.ordered s.keep) (board.matrix s.board) (board.limits s.board) (keep.store s.keep) s.journal b

-- every book that the sheet stood by is followed: `said` is what the book answers, `next` what becomes of it
abbrev pub Follows : {B K T R : Type 0} → Board B T → Keep K T → OpenSheet B K → OpenSheet B K → R → (Book T → R) → (Book T → Book T) → Type 0
Follows {T = T} board keep old new r said next = (b : Book T) → Stands board keep old b → (r ≡ said b) × Stands board keep new (next b)

-- and the memory is left as each such book says
abbrev pub Leaves : {B K T : Type 0} → Board B T → Keep K T → OpenSheet B K → List T → (Book T → List T) → Type 0
Leaves {T = T} board keep old memory left = (b : Book T) → Stands board keep old b → memory ≡ left b

-- a published sheet that has just settled n edits stands by a book that owes nothing
abbrev pub Closed : {B K T : Type 0} → Board B T → Keep K T → PublishedSheet B K → Book T → ℕ → Type 0
Closed board keep p b n = Agrees (keep.ordered p.keep) (board.matrix p.board) (board.limits p.board) (keep.store p.keep) [] b × (p.settled ≡ n)
