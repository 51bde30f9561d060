-- A call along an axis of the tables is one along the board's own.
use Rattle.std.proofs.Common.{◌≡◌, Ok, Err, Result, ap}
use Rattle.cells.specs.Refusals.{answered}
use Rattle.matrix.specs.declared.axis.Axis.{Axis}
use Rattle.matrix.specs.declared.axis.Axis.TheVariants.{Row, Col}
use Rattle.matrix.specs.Axes.{along, beneath}
use Rattle.matrix.specs.Matrix.{Matrix, turned}

pub faced : {T A E : Type 0} (F : Matrix T → Matrix T) (facing ax : Axis) (r : Result A E) (m n : Matrix T) → n ≡ answered r (along (beneath facing ax) (F (along (beneath facing ax) m))) m → along facing n ≡ answered r (along ax (F (along ax (along facing m)))) (along facing m)
faced F Row ax r m n p = p
faced F Col Row (Ok a) m n p = ap turned p
faced F Col Row (Err e) m n p = ap turned p
faced F Col Col (Ok a) m n p = ap turned p
faced F Col Col (Err e) m n p = ap turned p
