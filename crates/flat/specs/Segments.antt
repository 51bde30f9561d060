-- Part of a list, by numbers that need not fit it.
use Rattle.std.specs.Prelude.{◌+◌, List, ◌++◌, take, drop}
use Rattle.flat.specs.declared.segment.Segment.{Segment}

-- the cells of a segment, and the list when they are written over
abbrev pub part : {T : Type 0} → List T → Segment → List T
part xs g = take g.len (drop g.start xs)

abbrev pub patched : {T : Type 0} → List T → Segment → List T → List T
patched xs g ys = take g.start xs ++ (ys ++ drop (g.start + g.len) xs)
