-- The book: fed the calls of a list with their arguments, and no answer.
use Rattle.std.specs.Prelude.{ℕ, ◌+◌, ◌-◌, Bool, List, [], ◌∷◌, ◌++◌, length, Some, None, Ok, Err, Option, Result, nat_le, nat_lt}
use Rattle.cells.specs.declared.refusal.Refusal.{Refusal}
use Rattle.cells.specs.Refusals.{refused, accepted, answered, numbered}
use Rattle.matrix.specs.declared.limits.Limits.{Limits}
use Rattle.matrix.specs.Matrix.{Matrix, put_cell, over, turned}
use Rattle.matrix.specs.Rules.{put_answer}
use Rattle.matrix.specs.declared.axis.Axis.{Axis}
use Rattle.sheet.specs.declared.edit.Edit.{Edit}
use Rattle.sheet.specs.declared.edit.Edit.TheVariants.{Put, Insert, Remove, Transpose, Flip}
use Rattle.matrix.specs.Axes.{along, inserted, removed, line_of, flipped, insert_along, remove_along}

-- No more edits are owed than these.
abbrev pub owed_limit : ℕ
owed_limit = 256

-- an owed edit, the matrix before it, and the cells that it took off
pub record Entry (T : Type 0) : Type 0 where
  pub edit : Edit
  pub before : Matrix T
  pub taken : List T

-- The entries stand newest first.
pub record Book (T : Type 0) : Type 0 where
  pub matrix : Matrix T
  pub limits : Limits
  pub most : ℕ
  pub entries : List (Entry T)
  pub accepted : ℕ
  pub back : ℕ
  pub settled : ℕ

abbrev pub fresh : {T : Type 0} → Matrix T → Limits → ℕ → Book T
fresh m l most = record { matrix = m; limits = l; most = most; entries = []; accepted = 0; back = 0; settled = 0 }

-- the cells that owed edits took off, and the edits, oldest first
abbrev pub kept : {T : Type 0} → List (Entry T) → List T
kept [] = []
kept (e ∷ es) = kept es ++ e.taken

abbrev pub edits : {T : Type 0} → List (Entry T) → List Edit
edits [] = []
edits (e ∷ es) = edits es ++ (e.edit ∷ [])

-- first what the board says, then the rest
abbrev pub then : {A E : Type 0} → Result A E → Result A E → Result A E
then (Ok a) rest = rest
then (Err e) rest = Err e

abbrev pub full : {T : Type 0} → Book T → Bool
full b = nat_le owed_limit (length b.entries)

-- the keep's unused cells are fewer than n
abbrev pub lacks : {T : Type 0} → Book T → ℕ → Bool
lacks b n = nat_lt (b.most - length (kept b.entries)) n

-- an accepted edit: the new matrix, and the cells taken off
abbrev pub entered : {T : Type 0} → Edit → Matrix T → List T → Book T → Book T
entered e m off b = record { matrix = m; limits = b.limits; most = b.most; entries = record { edit = e; before = b.matrix; taken = off } ∷ b.entries; accepted = b.accepted + 1; back = b.back; settled = b.settled }

abbrev pub put_said : {T : Type 0} → ℕ → ℕ → Book T → Result Unit Refusal
put_said r c b = then (put_answer r c b.matrix) (refused 10 (full b) (refused 11 (lacks b 1) accepted))

-- a cell as a list of one
abbrev pub alone : {T : Type 0} → Option T → List T
alone None = []
alone (Some x) = x ∷ []

abbrev pub put_book : {T : Type 0} → ℕ → ℕ → T → Book T → Book T
put_book r c x b = answered (put_said r c b) (entered (Put r c) (put_cell r c x b.matrix) (alone (b.matrix.cell r c)) b) b

abbrev pub insert_said : {T : Type 0} → Axis → ℕ → List T → Book T → Result Unit Refusal
insert_said ax i line b = then (insert_along b.limits ax i line b.matrix) (refused 10 (full b) accepted)

abbrev pub insert_book : {T : Type 0} → Axis → ℕ → List T → Book T → Book T
insert_book ax i line b = answered (insert_said ax i line b) (entered (Insert ax i (length line)) (inserted ax i line b.matrix) [] b) b

abbrev pub remove_said : {T : Type 0} → Axis → ℕ → List T → Book T → Result Unit Refusal
remove_said ax i memory b = then (remove_along ax i memory b.matrix) (refused 10 (full b) (refused 11 (lacks b (along ax b.matrix).cols) accepted))

abbrev pub remove_book : {T : Type 0} → Axis → ℕ → List T → Book T → Book T
remove_book ax i memory b = answered (remove_said ax i memory b) (entered (Remove ax i (along ax b.matrix).cols) (removed ax i b.matrix) (line_of ax i b.matrix) b) b

abbrev pub remove_memory : {T : Type 0} → Axis → ℕ → List T → Book T → List T
remove_memory ax i memory b = answered (remove_said ax i memory b) (over (line_of ax i b.matrix) memory) memory

abbrev pub plain_said : {T : Type 0} → Book T → Result Unit Refusal
plain_said b = refused 10 (full b) accepted

abbrev pub transpose_book : {T : Type 0} → Book T → Book T
transpose_book b = answered (plain_said b) (entered Transpose (turned b.matrix) [] b) b

abbrev pub flip_book : {T : Type 0} → Axis → Book T → Book T
flip_book ax b = answered (plain_said b) (entered (Flip ax) (flipped ax b.matrix) [] b) b

abbrev pub by_newest : {T A : Type 0} → List (Entry T) → A → (Entry T → List (Entry T) → A) → A
by_newest [] none some = none
by_newest (e ∷ es) none some = some e es

-- how long the line is that an edit put in or took out
abbrev pub span : Edit → ℕ
span (Put r c) = 0
span (Insert ax i n) = n
span (Remove ax i n) = n
span Transpose = 0
span (Flip ax) = 0

-- that line itself, as a step back leaves it in the memory
abbrev pub handed_back : {T : Type 0} → Edit → List T → Matrix T → List T
handed_back (Put r c) off m = []
handed_back (Insert ax i n) off m = line_of ax i m
handed_back (Remove ax i n) off m = off
handed_back Transpose off m = []
handed_back (Flip ax) off m = []

abbrev pub back_said : {T : Type 0} → List T → Book T → Result Unit Refusal
back_said memory b = by_newest b.entries (Err (numbered 3)) (λ e es. refused 9 (nat_lt (length memory) (span e.edit)) accepted)

-- the newest entry struck
abbrev pub struck : {T : Type 0} → Entry T → List (Entry T) → Book T → Book T
struck e es b = record { matrix = e.before; limits = b.limits; most = b.most; entries = es; accepted = b.accepted; back = b.back + 1; settled = b.settled }

abbrev pub back_book : {T : Type 0} → List T → Book T → Book T
back_book memory b = answered (back_said memory b) (by_newest b.entries b (λ e es. struck e es b)) b

abbrev pub back_memory : {T : Type 0} → List T → Book T → List T
back_memory memory b = answered (back_said memory b) (by_newest b.entries memory (λ e es. over (handed_back e.edit e.taken b.matrix) memory)) memory

abbrev pub settle : {T : Type 0} → Book T → Book T
settle b = record { matrix = b.matrix; limits = b.limits; most = b.most; entries = []; accepted = b.accepted; back = b.back; settled = b.settled + length b.entries }
