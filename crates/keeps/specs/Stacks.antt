-- What a stack means.
use Rattle.std.specs.Prelude.{ℕ, min, cond, length, take, nat_le}
use Rattle.matrix.specs.Rules.{cell_limit}
use Rattle.keeps.specs.declared.stack.StackKeep.{StackKeep}
use Rattle.keeps.specs.Kept.{Store}

-- how many cells are used, where M may be
abbrev pub used : ℕ → ℕ → ℕ
used n k = cond (nat_le k (min n cell_limit)) k 0

abbrev pub stacked : {T : Type 0} → StackKeep T → Store T
stacked k = record { cells = take (used (length k.cells.now) k.used) k.cells.now; most = min (length k.cells.now) cell_limit }
