use Rattle.std.proofs.Common.{◌≡◌, ◌++◌}
use Rattle.std.specs.Prelude.{string_bytes}
use Rattle.scoresheet.specs.Pages.{first_rows}
use Rattle.scoresheet.proofs.answers.rows.Given as goal

-- the rows so far are printed
abbrev pub invariant-loop-r : goal.invariant-loop-r
invariant-loop-r g l = record {
  text : string_bytes l.out.text ≡ string_bytes l.initial.out.text ++ first_rows g.T.Written.spelling l.r l.said;
  outcome : l.out.outcome ≡ l.initial.out.outcome;
}
