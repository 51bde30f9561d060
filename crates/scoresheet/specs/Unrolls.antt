-- The plan once more, when a first run has told the sizes.
use Rattle.std.specs.Prelude.{ℕ, zero, suc, ◌+◌, Bool, true, false, List, [], ◌∷◌, ◌++◌, map, Result, Ok}
use Rattle.std.specs.Option.{unwrap_or}
use Rattle.matrix.specs.Runs.{after}
use Rattle.flat.specs.Segments.{part}
use Rattle.listing.specs.declared.wrong.Wrong.{Wrong}
use Rattle.replay.specs.declared.call.Call.{Call}
use Rattle.replay.specs.declared.call.Call.TheVariants.{Get}
use Rattle.replay.specs.declared.call.Answer.{Answer}
use Rattle.replay.specs.declared.call.Answer.TheVariants.{Sized}
use Rattle.replay.specs.Tallies.{capped}
use Rattle.scoresheet.specs.declared.script.Ask.{Ask}
use Rattle.scoresheet.specs.declared.script.Ask.TheVariants.{Line, Show}
use Rattle.scoresheet.specs.declared.script.Item.{Item}
use Rattle.scoresheet.specs.declared.script.Plan.{Plan}
use Rattle.scoresheet.specs.Asks.{line_between, moved_to, since}

-- what is answered in full only when sizes are known
abbrev pub sizes_first : Result Ask Wrong → Bool
sizes_first (Ok Show) = true
sizes_first (Ok Line) = true
sizes_first ask = false

-- a line that waits for them
abbrev pub waits : Item → Bool
waits item = sizes_first item.ask

-- the first cells of a row, in their order
abbrev pub row_asked : {T : Type 0} → ℕ → ℕ → List (Call T)
row_asked r zero = []
row_asked r (suc c) = row_asked r c ++ (Get r c ∷ [])

-- every cell of the first rows, row by row
abbrev pub cells_asked : {T : Type 0} → ℕ → ℕ → List (Call T)
cells_asked zero cols = []
cells_asked (suc r) cols = cells_asked r cols ++ row_asked r cols

-- what is asked once more, when the line's calls have said this: every cell of a sheet that is shown
abbrev pub asked_again : {T : Type 0} → Result Ask Wrong → List (Answer T) → List (Call T)
asked_again (Ok Show) (Sized rows cols ∷ []) = cells_asked rows cols
asked_again ask said = []

-- how much memory is spoken for: a line that comes or goes has room of its own
abbrev pub pool_after : {T : Type 0} → Result Ask Wrong → List (Answer T) → ℕ → ℕ
pool_after (Ok Line) said pool = capped (pool + unwrap_or (line_between said) 0)
pool_after ask said pool = pool

-- a plan on the way: its lines, its calls and the memory spoken for
pub record Stand (T : Type 0) : Type 0 where
  pub items : List Item
  pub calls : List (Call T)
  pub pool : ℕ

abbrev pub stand : {T : Type 0} → Plan T → Stand T
stand plan = record { items = plan.items.items; calls = plan.calls.items; pool = plan.pool }

-- the calls of a line, with their memory from the pool's end on, and what is asked once more
abbrev pub calls_again : {T : Type 0} → List (Call T) → List (Answer T) → ℕ → Item → List (Call T)
calls_again calls said pool item = map (moved_to pool) (part calls item.part) ++ asked_again item.ask (part said item.part)

-- one line more: it keeps its number and what it asks, and its part is those calls
abbrev pub line_again : {T : Type 0} → List (Call T) → List (Answer T) → Item → Stand T → Stand T
line_again calls said item s =
    let all = s.calls ++ calls_again calls said s.pool item in
    record {
      items = s.items ++ (record { number = item.number; ask = item.ask; part = since s.calls all } ∷ []);
      calls = all;
      pool = pool_after item.ask (part said item.part) s.pool;
    }

-- all lines, from the first to the last
abbrev pub unrolled : {T : Type 0} → List (Call T) → List (Answer T) → List Item → Stand T
unrolled calls said items = after (line_again calls said) items (record { items = []; calls = []; pool = 0 })
