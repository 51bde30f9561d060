-- What cells on seats mean.
use Rattle.std.specs.Prelude.{◌≡◌, ℕ, ◌+◌, ◌-◌, ◌*◌, ◌<◌, cond, List, length, Some, nat_le}
use Rattle.std.specs.List.{slice_get}
use Rattle.matrix.specs.declared.limits.Limits.{Limits}
use Rattle.matrix.specs.declared.axis.Axis.{Axis}
use Rattle.matrix.specs.declared.axis.Axis.TheVariants.{Row, Col}
use Rattle.matrix.specs.Axes.{other}
use Rattle.matrix.specs.Matrix.{Matrix, inside, spliced, skipped, left_across}
use Rattle.seating.specs.declared.bench.Bench.{Bench}
use Rattle.seating.specs.declared.seating.Seating.{Seating}
use Rattle.seating.specs.Benches.{seat}

-- the flat place of row r and column c
abbrev pub spot_of : Seating → ℕ → ℕ → ℕ
spot_of s r c = seat s.down r * s.down.side + seat s.across c

-- the matrix that the tables pick out of the cells
abbrev pub seen : {T : Type 0} → Seating → List T → Matrix T
seen s xs = record {
  rows = s.down.count;
  cols = s.across.count;
  cell = λ r c. inside s.down.count s.across.count r c (slice_get xs (spot_of s r c));
}

-- a count of lines or seats where S × S cells are there, else 0
abbrev pub counted : Seating → ℕ → ℕ → ℕ
counted s n k = cond (nat_le (s.down.side * s.down.side) n) k 0

abbrev pub seated_limits : Seating → ℕ → Limits
seated_limits s n = record { side = counted s n s.down.side; most = counted s n s.down.side * counted s n s.down.side }

-- What memory means under a seating: the matrix seen, and the empty one where the memory has too few cells.
abbrev pub seated : {T : Type 0} → Seating → List T → Matrix T
seated s xs = record {
  rows = counted s (length xs) s.down.count;
  cols = counted s (length xs) s.across.count;
  cell = λ r c. inside (counted s (length xs) s.down.count) (counted s (length xs) s.across.count) r c (slice_get xs (spot_of s r c));
}

-- the flat place of each cell
abbrev pub spots : Seating → ℕ → Matrix ℕ
spots s n = record {
  rows = counted s n s.down.count;
  cols = counted s n s.across.count;
  cell = λ r c. inside (counted s n s.down.count) (counted s n s.across.count) r c (Some (spot_of s r c));
}

-- the seats of the lines along an axis
abbrev pub bench_of : Axis → Seating → Bench
bench_of Row s = s.down
bench_of Col s = s.across

-- new is old with line i along an axis on a seat that was free, and n lines across
pub record Opened (ax : Axis) (old new : Seating) (i n : ℕ) : Type 0 where
  pub seats : (k : ℕ) → k < (bench_of ax old).count + 1 → seat (bench_of ax new) k ≡ spliced i (seat (bench_of ax old) (bench_of ax old).count) (λ j. seat (bench_of ax old) j) k
  pub lines : (bench_of ax new).count ≡ (bench_of ax old).count + 1
  pub side : (bench_of ax new).side ≡ (bench_of ax old).side
  pub across : (bench_of (other ax) new).table ≡ (bench_of (other ax) old).table
  pub cells : (bench_of (other ax) new).count ≡ n

-- new is old without line i along an axis
pub record Closed (ax : Axis) (old new : Seating) (i : ℕ) : Type 0 where
  pub seats : (k : ℕ) → k < (bench_of ax old).count - 1 → seat (bench_of ax new) k ≡ seat (bench_of ax old) (skipped i k)
  pub lines : (bench_of ax new).count ≡ (bench_of ax old).count - 1
  pub side : (bench_of ax new).side ≡ (bench_of ax old).side
  pub across : (bench_of (other ax) new).table ≡ (bench_of (other ax) old).table
  pub cells : (bench_of (other ax) new).count ≡ left_across (bench_of ax old).count (bench_of (other ax) old).count
