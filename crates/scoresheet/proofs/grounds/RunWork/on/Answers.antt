use Rattle.std.proofs.Common.{◌≡◌, ◌+◌, min, length, refl, sym, ap, ◌∙◌, subst}
use Rattle.matrix.specs.Rules.{cell_limit}
use Rattle.keeps.specs.Kept.{Store}
use Rattle.keeps.specs.Stacks.{stacked}
use Rattle.scoresheet.specs.Plays.{Plays, keep_limit}
use Rattle.scoresheet.proofs.Kept.{stack_limit}
use Rattle.scoresheet.proofs.grounds.RunWork.on.Goals as goal

pub returns-in_ok-room-in-Stack : goal.returns-in_ok-room-in-Stack
returns-in_ok-room-in-Stack g c =
    let most = stack_limit (stacked c.new.result) _ (length c.as_mut_slice.result.now) c.in-Stack.most c.new.ensures.effect refl (c.as_mut_slice.ensures.len ∙ c.in_ok-room-in-Stack.ensures.len ∙ c.min.ensures) in
    record { gives = subst (λ n. Plays c.args.self (g.B.Board.matrix c.args.board) (g.B.Board.limits c.args.board) n c.on_keep.result) (most ∙ sym (ap keep_limit c.in-Stack.is)) c.on_keep.ensures.plays }

pub returns-in_ok-more-in-Joined : goal.returns-in_ok-more-in-Joined
returns-in_ok-more-in-Joined g c =
    let first = stack_limit (stacked c.new-first.result) _ (length c.as_mut_slice-in-Joined.result.now) c.in-Joined.first c.new-first.ensures.effect refl (c.as_mut_slice-in-Joined.ensures.len ∙ c.in_ok-room-in-Joined.ensures.len ∙ c.min-in-Joined.ensures) in
    let second = stack_limit (stacked c.new-second.result) _ (length c.as_mut_slice-in-Joined-2.result.now) c.in-Joined.second c.new-second.ensures.effect refl (c.as_mut_slice-in-Joined-2.ensures.len ∙ c.in_ok-more-in-Joined.ensures.len ∙ c.min-in-Joined-2.ensures) in
    let one = ap (λ (s : Store g.row.T.Denot). s.most) c.new-in-Joined.ensures.first ∙ first in
    let two = ap (λ (s : Store g.row.T.Denot). s.most) c.new-in-Joined.ensures.second ∙ second in
    let most : min ((stacked c.new-in-Joined.result.first).most + (stacked c.new-in-Joined.result.second).most) cell_limit ≡ min (min c.in-Joined.first cell_limit + min c.in-Joined.second cell_limit) cell_limit = (λ i. min (one i + two i) cell_limit) in
    record { gives = subst (λ n. Plays c.args.self (g.B.Board.matrix c.args.board) (g.B.Board.limits c.args.board) n c.on_keep-in-Joined.result) (most ∙ sym (ap keep_limit c.in-Joined.is)) c.on_keep-in-Joined.ensures.plays }
