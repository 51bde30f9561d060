-- What the rows under a sheet are answered and leave.
use Rattle.std.specs.Prelude.{List, Result}
use Rattle.cells.specs.declared.refusal.Refusal.{Refusal}
use Rattle.cells.specs.Refusals.{answered}
use Rattle.matrix.specs.declared.limits.Limits.{Limits}
use Rattle.matrix.specs.Matrix.{Matrix, insert_row}
use Rattle.matrix.specs.Rules.{insert_row_answer}
use Rattle.matrix.specs.Runs.{after, replies}
use Rattle.flat.specs.declared.segment.Segment.{Segment}
use Rattle.flat.specs.Segments.{part}

-- a row, a segment of the cells, comes after those that there are; a refused one changes nothing
abbrev pub row_said : {T : Type 0} → Limits → List T → Segment → Matrix T → Result Unit Refusal
row_said l cells g m = insert_row_answer l m.rows (part cells g) m

abbrev pub row_laid : {T : Type 0} → Limits → List T → Segment → Matrix T → Matrix T
row_laid l cells g m = answered (row_said l cells g m) (insert_row m.rows (part cells g) m) m

-- all rows, in their order
abbrev pub rows_said : {T : Type 0} → Limits → List T → List Segment → Matrix T → List (Result Unit Refusal)
rows_said l cells gs m = replies (row_laid l cells) (row_said l cells) gs m

abbrev pub rows_laid : {T : Type 0} → Limits → List T → List Segment → Matrix T → Matrix T
rows_laid l cells gs m = after (row_laid l cells) gs m
