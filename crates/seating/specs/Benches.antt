-- Which seat a line has.
use Rattle.std.specs.Prelude.{ℕ, List, ◌++◌, reverse, take, drop, slice_index}
use Rattle.seating.specs.declared.bench.Bench.{Bench}

abbrev pub seat : Bench → ℕ → ℕ
seat b i = slice_index b.table i

-- the first n entries back to front
abbrev pub flipped : ℕ → List ℕ → List ℕ
flipped n t = reverse (take n t) ++ drop n t
