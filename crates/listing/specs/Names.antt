-- The word that names each call.
use Rattle.std.specs.Prelude.{ℕ, List, codes}
use Rattle.matrix.specs.declared.axis.Axis.TheVariants.{Row, Col}
use Rattle.listing.specs.declared.name.Name.{Name}
use Rattle.listing.specs.declared.name.Name.TheVariants.{New, Start, Put, Insert, Remove, Transpose, Flip, StepBack, Publish, Reopen, Size, Get, Owed, Kept, Settled, Show, Tally}

abbrev pub name_word : Name → List ℕ
name_word New = codes "new"
name_word Start = codes "start"
name_word Put = codes "put"
name_word (Insert Row) = codes "insert-row"
name_word (Insert Col) = codes "insert-col"
name_word (Remove Row) = codes "remove-row"
name_word (Remove Col) = codes "remove-col"
name_word Transpose = codes "transpose"
name_word (Flip Row) = codes "flip-rows"
name_word (Flip Col) = codes "flip-cols"
name_word StepBack = codes "step-back"
name_word Publish = codes "publish"
name_word Reopen = codes "reopen"
name_word Size = codes "size"
name_word Get = codes "get"
name_word Owed = codes "owed"
name_word Kept = codes "kept"
name_word Settled = codes "settled"
name_word Show = codes "show"
name_word Tally = codes "tally"
