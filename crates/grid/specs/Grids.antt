-- What a grid means.
use Rattle.std.specs.Prelude.{◌≡◌, ◌≤◌, List, length}
use Rattle.std.specs.Borrow.{MutBor}
use Rattle.matrix.specs.declared.shape.Order.{Order}
use Rattle.matrix.specs.Matrix.{Matrix}
use Rattle.matrix.specs.Shapes.{Form, form, other, held}
use Rattle.matrix.specs.declared.limits.Limits.{Limits}
use Rattle.matrix.specs.Rules.{grid_limits}
use Rattle.grid.specs.declared.grid.Grid.{Grid}

abbrev pub matrix : {T : Type 0} → Grid T → Matrix T
matrix g = held (form g.shape) g.cells.now

abbrev pub limits : {T : Type 0} → Grid T → Limits
limits g = grid_limits (length g.cells.now)

abbrev pub order : {T : Type 0} → Grid T → Order
order g = g.shape.order

-- all that a grid stores
pub record Stored (T : Type 0) : Type 0 where
  pub form : Form
  pub cells : List T

abbrev pub stored : {T : Type 0} → Grid T → Stored T
stored g = record { form = form g.shape; cells = g.cells.now }

-- what stays of a grid, whatever a call does to its matrix
pub record Stays {T : Type 0} (old new : Grid T) : Type 0 where
  pub limits : limits new ≡ limits old
  pub order : order new ≡ order old
  pub memory : new.cells.ghost_name ≡ old.cells.ghost_name

-- the same where rows become columns, and the order the other one
pub record Crosses {T : Type 0} (old new : Grid T) : Type 0 where
  pub limits : limits new ≡ limits old
  pub order : order new ≡ other (order old)
  pub memory : new.cells.ghost_name ≡ old.cells.ghost_name

-- what a grid has of the memory that it was made over: its limits, its order, and the memory itself if that is no longer than a grid may be
pub record Over {T : Type 0} (o : Order) (lent : MutBor (List T)) (g : Grid T) : Type 0 where
  pub limits : limits g ≡ grid_limits (length lent.now)
  pub order : order g ≡ o
  pub memory : length lent.now ≤ 65536 → g.cells.ghost_name ≡ lent.ghost_name
