-- What the answers of a list add up to.
use Rattle.std.specs.Prelude.{ℕ, ◌+◌, min, List, [], ◌∷◌}
use Rattle.cells.specs.Refusals.{answered}
use Rattle.replay.specs.declared.call.Call.{Call}
use Rattle.replay.specs.declared.call.Call.TheVariants.{Put, Insert, Remove, Transpose, Flip, StepBack, Publish, Reopen, Get, Size, Owed, Kept, Settled}
use Rattle.replay.specs.declared.tally.Aim.{Aim}
use Rattle.replay.specs.declared.tally.Aim.TheVariants.{Editing, Undoing, Settling, Asking}
use Rattle.replay.specs.declared.call.Answer.{Answer}
use Rattle.replay.specs.declared.call.Answer.TheVariants.{Said, Cell, Sized, Count, Moved, Lacking}

-- 1 where a call was accepted
abbrev pub granted : {T : Type 0} → Answer T → ℕ
granted (Said r) = answered r 1 0
granted (Cell x) = 0
granted (Sized r c) = 0
granted (Count n) = 0
granted Moved = 0
granted Lacking = 0

-- the number that an answer tells
abbrev pub told : {T : Type 0} → Answer T → ℕ
told (Said r) = 0
told (Cell x) = 0
told (Sized r c) = 0
told (Count n) = n
told Moved = 0
told Lacking = 0

-- what a call is for
abbrev pub aim : {T : Type 0} → Call T → Aim
aim (Put r c x) = Editing
aim (Insert ax i g) = Editing
aim (Remove ax i g) = Editing
aim Transpose = Editing
aim (Flip ax) = Editing
aim (StepBack g) = Undoing
aim Publish = Settling
aim Reopen = Asking
aim (Get r c) = Asking
aim Size = Asking
aim Owed = Asking
aim Kept = Asking
aim Settled = Asking

-- what an answered call adds to the edits accepted, to those stepped back, and to those settled
abbrev pub accepts : {T : Type 0} → Aim → Answer T → ℕ
accepts Editing a = granted a
accepts Undoing a = 0
accepts Settling a = 0
accepts Asking a = 0

abbrev pub backs : {T : Type 0} → Aim → Answer T → ℕ
backs Editing a = 0
backs Undoing a = granted a
backs Settling a = 0
backs Asking a = 0

abbrev pub settles : {T : Type 0} → Aim → Answer T → ℕ
settles Editing a = 0
settles Undoing a = 0
settles Settling a = told a
settles Asking a = 0

-- a count as the code holds it: the largest number there is stands for all above
abbrev pub capped : ℕ → ℕ
capped n = min n 18446744073709551615

-- over a list of calls and their answers
abbrev pub total : {T : Type 0} → (Aim → Answer T → ℕ) → List (Call T) → List (Answer T) → ℕ
total f [] rs = 0
total f (c ∷ cs) [] = 0
total f (c ∷ cs) (r ∷ rs) = f (aim c) r + total f cs rs
