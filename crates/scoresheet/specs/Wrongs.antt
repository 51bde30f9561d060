-- Why a line is wrong whose words are those of a call.
use Rattle.std.specs.Prelude.{◌≡◌, ℕ, ◌+◌, ◌<◌, ◌⊎◌, Bool, true, false, List, [], length, take, get_or, ⊤}
use Rattle.std.specs.List.{list_any}
use Rattle.listing.specs.declared.call.SheetKind.{SheetKind}
use Rattle.listing.specs.declared.call.Call.{Call as Asked}
use Rattle.listing.specs.declared.call.Call.TheVariants as asked
use Rattle.listing.specs.declared.wrong.Wrong.{Wrong}
use Rattle.listing.specs.declared.wrong.Failure.{Failure}
use Rattle.listing.specs.Calls.{texts}
use Rattle.listing.specs.Spellings.{Nothing}
use Rattle.scoresheet.specs.Cells.{Gained}
use Rattle.replay.specs.declared.call.Call.{Call}
use Rattle.replay.specs.declared.call.Call.TheVariants.{Reopen, Settled}

-- a call that a new sheet has
abbrev pub begins : {T : Type 0} → Call T → Bool
begins Reopen = false
begins Settled = false
begins call = true

-- the sheet's first call is among these
abbrev pub begun_by : {T : Type 0} → List (Call T) → Bool
begun_by calls = list_any begins calls

-- a row under the sheet comes after its first call
abbrev pub TooLate : {T : Type 0} → List (Call T) → Wrong → Type 0
TooLate calls wrong = (wrong ≡ Wrong.Late) × (begun_by calls ≡ true)

-- word k + 1 spells no cell, and the cells of those before it have come after the others
abbrev pub Misspelt : {T : Type 0} → (List ℕ → T → Type 0) → SheetKind → List (List ℕ) → List T → List T → Wrong → Type 0
Misspelt spells kind ws old new wrong = (k : ℕ) × (wrong ≡ Wrong.NoCell kind (k + 1)) × (k < length ws) × Nothing (spells (get_or ws k [])) × Gained spells (take k ws) old new

-- What is wrong with a call, and the cells that were read before it showed. The next sheet is none of this one's.
abbrev pub Mistaken : {T : Type 0} → (List ℕ → T → Type 0) → SheetKind → Asked → List (Call T) → List T → List T → Wrong → Type 0
Mistaken spells kind (asked.New fresh) calls old new wrong = (wrong ≡ Wrong.NoSheet) × (new ≡ old)
Mistaken spells kind (asked.Start words) calls old new wrong = Misspelt spells kind (texts words.now) old new wrong ⊎ (TooLate calls wrong × Gained spells (texts words.now) old new)
Mistaken spells kind (asked.Put r c word) calls old new wrong = (wrong ≡ Wrong.NoCell kind 1) × Nothing (spells word.now) × (new ≡ old)
Mistaken spells kind (asked.Insert ax i words) calls old new wrong = Misspelt spells kind (texts words.now) old new wrong
Mistaken spells kind call calls old new wrong = ⊥

-- that is what is wrong, if anything but the memory is
abbrev pub IfWrong : Failure → (Wrong → Type 0) → Type 0
IfWrong (Failure.Wrong wrong) says = says wrong
IfWrong (Failure.NoMemory error) says = ⊤
