use Rattle.std.proofs.Common.{◌+◌, ◌-◌, ◌<◌, length, sym, subst}
use Rattle.listing.specs.Calls.{texts}
use Rattle.scoresheet.specs.Sheets.{stopper}
use Rattle.scoresheet.proofs.Sounds.{answering_first, answering_more, answering_text, answering_sound, fewer}
use Rattle.scoresheet.proofs.sheets.answer.Goals as goal

pub loop-stop-init : goal.loop-stop-init
loop-stop-init c = answering_first (texts c.args.lines.now) c.in_ok-stop.stop c.new-out.result c.no_sheet.new.out c.new-out.ensures.text c.in_ok-stop.ensures.text

pub loop-stop-smaller : goal.loop-stop-smaller
loop-stop-smaller c =
    let list = texts c.args.lines.now in
    let stop = c.loop-stop.stop in
    let next = c.in_ok-stop-2.stop in
    let on = c.in_ok-stop-2.ensures.text.upto in
    subst (λ z. length list - next.lines + length (stopper next.lines next.fresh) < length list - stop.lines + length (stopper stop.lines z)) (sym c.in-Some.is)
    (fewer (length list) next.lines stop.lines next.fresh on.end on.further)

pub loop-stop-preserved : goal.loop-stop-preserved
loop-stop-preserved c = answering_more (texts c.args.lines.now) c.loop-stop.stop c.in_ok-stop-2.stop c.in-Some.fresh c.loop-stop.out c.answer_group.new.out c.in-Some.is c.loop-stop.invariant c.in_ok-stop-2.ensures.text

pub returns : goal.returns
returns c =
    let l = c.loop-stop in
    let list = texts c.args.lines.now in
    record { text = answering_text list l.stop l.out l.invariant c.in_default.is; sound = answering_sound list l.stop l.out l.invariant c.in_default.is }
