-- What comes of reading words as cells.
use Rattle.std.specs.Prelude.{◌≡◌, ℕ, ◌+◌, ◌<◌, List, [], ◌++◌, length, take, get_or, Result, Ok, Err}
use Rattle.std.specs.List.{AllZip}
use Rattle.listing.specs.declared.call.SheetKind.{SheetKind}
use Rattle.listing.specs.declared.wrong.Wrong.{Wrong}
use Rattle.listing.specs.declared.wrong.Failure.{Failure}
use Rattle.listing.specs.Spellings.{Nothing}

-- a cell for each word, in their order, has come after those that there were
abbrev pub Gained : {A : Type 0} → (List ℕ → A → Type 0) → List (List ℕ) → List A → List A → Type 0
Gained spells ws old new = (xs : List _) × (new ≡ old ++ xs) × AllZip spells ws xs

-- All are read; or word k + 1 spells no cell, and those before it are read; or there is no memory, and some first ones are.
abbrev pub ReadCells : {A : Type 0} → (List ℕ → A → Type 0) → SheetKind → List (List ℕ) → List A → List A → Result Unit Failure → Type 0
ReadCells spells kind ws old new (Ok done) = Gained spells ws old new
ReadCells spells kind ws old new (Err (Failure.Wrong wrong)) =
    (k : ℕ) × (wrong ≡ Wrong.NoCell kind (k + 1)) × (k < length ws) × Nothing (spells (get_or ws k [])) × Gained spells (take k ws) old new
ReadCells spells kind ws old new (Err (Failure.NoMemory error)) = (k : ℕ) × Gained spells (take k ws) old new
