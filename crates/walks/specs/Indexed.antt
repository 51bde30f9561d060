-- The cells of a grid with their places, in flat order.
use Rattle.std.specs.Prelude.{◌≡◌, ℕ, ◌+◌, ◌*◌, ◌/◌, ◌%◌, List, map, Some, None, Option}
use Rattle.std.specs.List.{range_with_len}
use Rattle.matrix.specs.declared.shape.Order.{Order}
use Rattle.matrix.specs.declared.shape.Order.TheVariants.{RowMajor, ColumnMajor}
use Rattle.matrix.specs.Matrix.{Matrix, listed}
use Rattle.matrix.specs.Shapes.{place, flat}
use Rattle.walks.specs.Walks.{between}
use Rattle.walks.specs.declared.index.IndexWalk.{IndexWalk}

-- where flat cell k stands
abbrev pub spot : {T : Type 0} → Order → Matrix T → ℕ → ℕ × ℕ
spot RowMajor m k = (k / m.cols, k % m.cols)
spot ColumnMajor m k = (k % m.rows, k / m.rows)

-- a place p with what stands there
abbrev pub at_place : {T : Type 0} → ℕ × ℕ → Option T → Option ((ℕ × ℕ) × T)
at_place p (Some x) = Some (p, x)
at_place p None = None

abbrev pub flat_item : {T : Type 0} → Order → Matrix T → ℕ → Option ((ℕ × ℕ) × T)
flat_item o m k = at_place (spot o m k) (m.cell (spot o m k).0 (spot o m k).1)

-- all cells with their places, in flat order
abbrev pub all_items : {T : Type 0} → Order → Matrix T → List ((ℕ × ℕ) × T)
all_items o m = listed (m.rows * m.cols) (flat_item o m)

-- The cells still to come of a grid that holds m in that order, each with its place.
abbrev pub ahead : {T : Type 0} → IndexWalk → Order → Matrix T → List ((ℕ × ℕ) × T)
ahead w o m = between w.at w.end (flat_item o m)

-- n places on
abbrev pub moved : ℕ → IndexWalk → IndexWalk
moved n w = record { at = w.at + n; end = w.end }

-- All cells of m, each once with its place, in flat order: their flat places are 0, 1 and so on, and each place has that cell.
pub record InFlatOrder {T : Type 0} (o : Order) (m : Matrix T) (items : List ((ℕ × ℕ) × T)) : Type 0 where
  pub places : map (λ i. place o m.rows m.cols i.0.0 i.0.1) items ≡ range_with_len 0 (m.rows * m.cols)
  pub stands : map (λ i. m.cell i.0.0 i.0.1) items ≡ map (λ i. Some i.1) items
  pub cells : map (λ i. i.1) items ≡ flat o m
