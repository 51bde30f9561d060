-- When a sheet stands as a book says.
use Rattle.std.specs.Prelude.{◌≡◌, ◌+◌, ◌<◌, ◌≤◌, List, [], ◌∷◌, length, Ok}
use Rattle.matrix.specs.declared.limits.Limits.{Limits}
use Rattle.matrix.specs.Matrix.{Matrix, put_cell, turned}
use Rattle.matrix.specs.Rules.{put_answer}
use Rattle.keeps.specs.Kept.{Store}
use Rattle.sheet.specs.declared.edit.Edit.{Edit}
use Rattle.sheet.specs.declared.edit.Edit.TheVariants.{Put, Insert, Remove, Transpose, Flip}
use Rattle.matrix.specs.Axes.{along, inserted, removed, flipped, insert_along}
use Rattle.sheet.specs.Book.{Book, Entry, kept, edits}

-- what undoing an edit makes of a matrix, with the cells that the edit took off
abbrev pub undone : {T : Type 0} → Edit → List T → Matrix T → Matrix T
undone (Put r c) [] m = m
undone (Put r c) (x ∷ xs) m = put_cell r c x m
undone (Insert ax i n) off m = removed ax i m
undone (Remove ax i n) off m = inserted ax i off m
undone Transpose off m = turned m
undone (Flip ax) off m = flipped ax m

-- what the undoing call asks of the board, so that it is not refused
abbrev pub Undoable : {T : Type 0} → Edit → List T → Limits → Matrix T → Type 0
Undoable (Put r c) off l m = (put_answer r c m ≡ Ok tt) × (length off ≡ 1)
Undoable (Insert ax i n) off l m = (i < (along ax m).rows) × ((along ax m).cols ≡ n) × (n ≤ 256) × (off ≡ [])
Undoable (Remove ax i n) off l m = (insert_along l ax i off m ≡ Ok tt) × (length off ≡ n) × (n ≤ 256)
Undoable Transpose off l m = off ≡ []
Undoable (Flip ax) off l m = off ≡ []

-- each entry's matrix comes back when its edit is undone, the newest first
abbrev pub Past : {T : Type 0} → Limits → Matrix T → List (Entry T) → Type 0
Past l m [] = Unit {0}
Past l m (e ∷ es) = Undoable e.edit e.taken l m × (undone e.edit e.taken m ≡ e.before) × Past l e.before es

-- A board's matrix and limits, a keep in order and its store, and the edits noted are what the book has.
pub record Agrees {T : Type 0} (ko : Type 0) (m : Matrix T) (l : Limits) (k : Store T) (js : List Edit) (b : Book T) : Type 0 where
  pub ordered : ko
  pub matrix : m ≡ b.matrix
  pub limits : l ≡ b.limits
  pub cells : k.cells ≡ kept b.entries
  pub most : k.most ≡ b.most
  pub notes : js ≡ edits b.entries
  pub past : Past b.limits b.matrix b.entries
  pub count : b.accepted ≡ length b.entries + b.back + b.settled
