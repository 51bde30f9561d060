use Rattle.std.proofs.Common.{true, false, refl, sym, ◌∙◌}
use Rattle.std.proofs.lemmas.Bool.{not-true, not-false}
use Rattle.scoresheet.proofs.Noted.{unrolled_by, sheet_text}
use Rattle.scoresheet.proofs.sheets.answer_sheet.Goals as goal

pub returns-then-is_unrolled : goal.returns-then-is_unrolled
returns-then-is_unrolled g c =
    let read = c.in_ok-stop.ensures.read in
    record {
      text = record {
        us = read.us;
        upto = read.upto;
        text = (
          _,
          c.in_ok-print.ensures.text,
          sheet_text g.T.Written.spells g.T.Written.spelling c.args.fresh read.us c.new-supply.result c.read_all.new.supply c.new-plan.result c.read_all.new.self c.in_ok-first.first _ false c.new-supply.ensures.starts c.new-supply.ensures.cells c.new-plan.ensures.items c.new-plan.ensures.calls read.notes (c.in_ok-stop.ensures.pool ∙ c.new-plan.ensures.pool) c.in_ok-first.ensures.plays (not-true _ (sym c.is_unrolled.ensures.answer ∙ c.if-is_unrolled.true)) refl,
        );
        sound = λ clean. let printed = c.in_ok-print.ensures.outcome clean in (printed.0, (read.asked printed.1).1);
      };
    }

pub returns : goal.returns
returns g c =
    let read = c.in_ok-stop.ensures.read in
    record {
      text = record {
        us = read.us;
        upto = read.upto;
        text = (
          _,
          c.in_ok-print-2.ensures.text,
          sheet_text g.T.Written.spells g.T.Written.spelling c.args.fresh read.us c.new-supply.result c.read_all.new.supply c.new-plan.result c.read_all.new.self c.in_ok-first.first _ true c.new-supply.ensures.starts c.new-supply.ensures.cells c.new-plan.ensures.items c.new-plan.ensures.calls read.notes (c.in_ok-stop.ensures.pool ∙ c.new-plan.ensures.pool) c.in_ok-first.ensures.plays (not-false _ (sym c.is_unrolled.ensures.answer ∙ c.if-is_unrolled.false))
              (c.in_ok-plan.plan, c.in_ok-second.second, unrolled_by c.read_all.new.self c.as_slice.result.now c.in_ok-first.first.answers.items c.in_ok-plan.plan c.as_slice.ensures.value c.in_ok-plan.ensures.lines c.in_ok-plan.ensures.calls c.in_ok-plan.ensures.pool, c.in_ok-second.ensures.plays, refl),
        );
        sound = λ clean. let printed = c.in_ok-print-2.ensures.outcome clean in (printed.0, (read.asked (c.in_ok-plan.ensures.items printed.1)).1);
      };
    }
