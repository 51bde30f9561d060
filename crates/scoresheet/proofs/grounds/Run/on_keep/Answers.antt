use Rattle.std.proofs.Common.{rules, length, take, drop, ap, ◌∙◌, length-take}
use Rattle.matrix.specs.Matrix.{over}
use Rattle.matrix.proofs.Runs.{replies_length}
use Rattle.replay.specs.World.{begun, next, reply, after, replies}
use Rattle.scoresheet.specs.Rows.{rows_said, rows_laid}
use Rattle.scoresheet.specs.Plays.{calls_of, opened}
use Rattle.scoresheet.proofs.Whole.{written_whole, over_parts}
use Rattle.scoresheet.proofs.grounds.Run.on_keep.Goals as goal

pub returns : goal.returns
returns g c =
    let run = c.args.self in
    let rows = run.supply.now.starts.items in
    let cells = run.supply.now.cells.items in
    let m = g.B.Board.matrix c.args.board in
    let l = g.B.Board.limits c.args.board in
    let most = (g.K.Keep.store c.args.keep).most in
    let starts = written_whole run.played.starts.len run.played.starts.items c.lay.new.starts run.played.starts.ok.0 (search rules) in
    let memory = written_whole run.played.memory.len run.played.memory.items c.replay.new.memory run.played.memory.ok.0 (search rules) in
    let answers = written_whole run.played.answers.len run.played.answers.items c.replay.new.answers run.played.answers.ok.0 (search rules) in
    let under = c.as_mut_slice.ensures.value in
    let pool = c.as_slice.ensures.value in
    let lent = c.as_mut_slice-2.ensures.value in
    let room = c.as_mut_slice-3.ensures.value in
    let laid = c.lay.ensures.effect ∙ (λ i. rows_laid l cells (take (length (under i)) rows) m) in
    let bounds = c.lay.ensures.limits in
    let calls = calls_of run in
    let opened = opened run m l most in
    let said = c.replay.ensures.law.said ∙ (λ i. replies (pool i) (take (length (room i)) run.calls.now) (begun (laid i) (bounds i) most (lent i))) in
    record {
      plays = record {
        starts = starts ∙ c.lay.ensures.answer ∙ (λ i. over (rows_said l cells (take (length (under i)) rows) m) (under i));
        answers = answers ∙ over_parts (replies cells calls opened) run.played.answers.items c.replay.new.answers (length run.calls.now) (replies_length (next cells) (reply cells) calls opened ∙ length-take (length run.played.answers.items) run.calls.now) said (c.replay.ensures.rest ∙ ap (drop (length run.calls.now)) room);
        memory = memory ∙ c.replay.ensures.law.left ∙ (λ i. (after (pool i) (take (length (room i)) run.calls.now) (begun (laid i) (bounds i) most (lent i))).memory);
      };
    }
