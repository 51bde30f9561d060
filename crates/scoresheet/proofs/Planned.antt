-- A run with room for all answers.
use Rattle.std.proofs.Common.{◌≡◌, length, take, ap, ◌∙◌, take_all, arith}
use Rattle.matrix.specs.declared.limits.Limits.{Limits}
use Rattle.matrix.specs.Matrix.{empty}
use Rattle.matrix.proofs.Runs.{replies_length}
use Rattle.listing.specs.declared.call.Keeping.{Keeping}
use Rattle.replay.specs.World.{begun, next, reply, after, replies}
use Rattle.scoresheet.specs.declared.grounds.Run.{Run}
use Rattle.scoresheet.specs.declared.script.Plan.{Plan}
use Rattle.scoresheet.specs.declared.answers.Played.{Played}
use Rattle.scoresheet.specs.Rows.{row_said, row_laid, rows_said, rows_laid}
use Rattle.scoresheet.specs.Plays.{Plays, PlaysPlan, keep_limit, rows_of, calls_of, opened, new_sheet}
use Rattle.scoresheet.proofs.Whole.{over_all}

pub planned : {T : Type 0} (keeping : Keeping) (bounds l : Limits) (plan : Plan T) (run : Run T) (played : Played T)
    → run.calls.now ≡ plan.calls.items → length run.played.starts.items ≡ length run.supply.now.starts.items → length run.played.answers.items ≡ length plan.calls.items → length run.played.memory.items ≡ plan.pool
    → bounds ≡ l → Plays run empty bounds (keep_limit keeping) played → PlaysPlan keeping l run.supply.now plan played
planned keeping bounds l plan run played calls starts answers room limits plays =
    let cells = run.supply.now.cells.items in
    let pool = run.played.memory.items in
    let rows_is = take_all (length run.played.starts.items) run.supply.now.starts.items (omega (arith, starts)) in
    let calls_is = ap (take (length run.played.answers.items)) calls ∙ take_all (length run.played.answers.items) plan.calls.items (omega (arith, answers)) in
    let start = opened run empty bounds (keep_limit keeping) in
    let begins : start ≡ new_sheet keeping l run.supply.now pool = λ i. begun (rows_laid (limits i) cells (rows_is i) empty) (limits i) (keep_limit keeping) pool in
    record {
      pool = pool;
      room = room;
      starts = plays.starts
          ∙ over_all (rows_said bounds cells (rows_of run) empty) run.played.starts.items (omega (arith, replies_length (row_laid bounds cells) (row_said bounds cells) (rows_of run) empty, ap length rows_is, starts))
          ∙ (λ i. rows_said (limits i) cells (rows_is i) empty);
      answers = plays.answers
          ∙ over_all (replies cells (calls_of run) start) run.played.answers.items (omega (arith, replies_length (next cells) (reply cells) (calls_of run) start, ap length calls_is, answers))
          ∙ (λ i. replies cells (calls_is i) (begins i));
      memory = plays.memory ∙ (λ i. (after cells (calls_is i) (begins i)).memory);
    }
