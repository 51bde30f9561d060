-- What two keeps mean as one.
use Rattle.std.specs.Prelude.{◌≡◌, ◌+◌, ◌<◌, ◌≤◌, min, ◌++◌, length}
use Rattle.matrix.specs.Rules.{cell_limit}
use Rattle.keeps.specs.Kept.{Store}

-- the cells of the first and then those of the second, and the sum of both limits, as far as a keep may hold
abbrev pub joined : {T : Type 0} → Store T → Store T → Store T
joined a b = record { cells = a.cells ++ b.cells; most = min (a.most + b.most) cell_limit }

-- the second has cells only while the first is full, and both together have at most M
pub record Filled {T : Type 0} (a b : Store T) : Type 0 where
  pub turn : length a.cells < a.most → length b.cells ≡ 0
  pub fits : length a.cells + length b.cells ≤ (joined a b).most
