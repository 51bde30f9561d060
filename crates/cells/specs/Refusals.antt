-- The number and the name of each refusal, and an answer as the first refusal that holds.
use Rattle.std.specs.Prelude.{◌≡◌, ℕ, Bool, cond, List, Ok, Err, codes, Result, ◌==◌}
use Rattle.cells.specs.declared.refusal.Refusal.{Refusal}
use Rattle.cells.specs.declared.refusal.Refusal.TheVariants.{Memory, Ragged, NothingOwed, Empty, Length, Place, Side, Full, Short, Journal, Keep}

abbrev pub number : Refusal → ℕ
number Memory = 1
number Ragged = 2
number NothingOwed = 3
number Empty = 4
number Length = 5
number Place = 6
number Side = 7
number Full = 8
number Short = 9
number Journal = 10
number Keep = 11

abbrev pub spelt : Refusal → List ℕ
spelt Memory = codes "MEMORY"
spelt Ragged = codes "RAGGED"
spelt NothingOwed = codes "NOTHING OWED"
spelt Empty = codes "EMPTY"
spelt Length = codes "LENGTH"
spelt Place = codes "PLACE"
spelt Side = codes "SIDE"
spelt Full = codes "FULL"
spelt Short = codes "SHORT"
spelt Journal = codes "JOURNAL"
spelt Keep = codes "KEEP"

-- the refusal of a number, and KEEP for every other
abbrev pub numbered : ℕ → Refusal
numbered n =
    cond (n == number Memory) Memory
    (cond (n == number Ragged) Ragged
    (cond (n == number NothingOwed) NothingOwed
    (cond (n == number Empty) Empty
    (cond (n == number Length) Length
    (cond (n == number Place) Place
    (cond (n == number Side) Side
    (cond (n == number Full) Full
    (cond (n == number Short) Short
    (cond (n == number Journal) Journal
    Keep)))))))))

-- An answer is made of tests in the order of their numbers: `refused 4 (if 4 holds) (what is answered if not)`.
-- kept: by the number and not the variant, so that a rule reads as the list of its numbers, in which people know it.
abbrev pub refused : {A : Type 0} → ℕ → Bool → Result A Refusal → Result A Refusal
refused n b rest = cond b (Err (numbered n)) rest

abbrev pub accepted : Result Unit Refusal
accepted = Ok tt

-- What stands after a call: `done` if it was accepted, `same` if it was refused.
abbrev pub answered : {A E X : Type 0} → Result A E → X → X → X
answered (Ok a) done same = done
answered (Err e) done same = same

-- Refused, and all is as it was.
abbrev pub Kept : {A E X : Type 0} → Result A E → X → X → Type 0
Kept r old new = answered r old new ≡ old

-- an answer without what an accepted call gives
abbrev pub verdict : {A E : Type 0} → Result A E → Result Unit E
verdict (Ok a) = Ok tt
verdict (Err e) = Err e

-- what stands after a call that gives what it made
abbrev pub stands : {X E : Type 0} → Result X E → X → X
stands (Ok new) old = new
stands (Err e) old = old
