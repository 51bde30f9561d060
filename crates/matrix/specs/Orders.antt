-- The word that names each order of flat cells.
use Rattle.std.specs.Prelude.{ℕ, List, codes}
use Rattle.matrix.specs.declared.shape.Order.{Order}
use Rattle.matrix.specs.declared.shape.Order.TheVariants.{RowMajor, ColumnMajor}

abbrev pub order_word : Order → List ℕ
order_word RowMajor = codes "row-major"
order_word ColumnMajor = codes "column-major"
