use Rattle.std.proofs.Common.{rules, ◌≡◌, ◌∷◌, ◌+◌, [], ◌++◌, sym, ap, ◌∙◌, refl, append_assoc, arith}
use Rattle.std.specs.Prelude.{string_bytes}
use Rattle.std.specs.Option.{unwrap_or}
use Rattle.listing.specs.declared.wrong.Wrong.{Wrong}
use Rattle.listing.specs.Calls.{texts}
use Rattle.scoresheet.specs.declared.lines.Line.{Line}
use Rattle.scoresheet.specs.Pages.{error_line, unsheeted, unsheeted_lines}
use Rattle.scoresheet.proofs.Reading.{upto_new, between_push, between_skip, none_more, made_new, made_none, told_wrong, unsheeted_more}
use Rattle.scoresheet.proofs.sheets.no_sheet.Goals.{in-Some+in_default-made+in_ok-error, in_default}
use Rattle.scoresheet.proofs.sheets.no_sheet.Goals as goal

pub returns-in-Some-made : goal.returns-in-Some-made
returns-in-Some-made c =
    let l = c.loop-at in
    let said = made_new c.in-Some.call c.in-Some-made.fresh (search (rules, c.made.ensures.answer, c.in-Some-made.is, c.in-Some.call-is)) in
    record {
      text = record {
        us = l.invariant.us;
        upto = upto_new c.args.lines.now c.args.from l.at _ l.invariant.us (texts c.as_slice.result.now) c.read.result (omega arith) (ap texts c.as_slice.ensures.value ∙ c.in_ok-words.ensures.words) l.invariant.said c.read.ensures.read (l.at + 1) c.in-Some-made.fresh (omega arith) c.read.ensures.empty
            (search (rules, c.transpose.ensures, c.in-Some.is, said)) refl l.invariant.none;
        text = l.invariant.text;
        none = l.invariant.clean;
      };
    }

pub loop-at-preserved : goal.loop-at-preserved
loop-at-preserved c =
    let l = c.loop-at in
    let us = l.invariant.us in
    elim c.match-transpose.branch [
      | in-Some+in_default-made+in_ok-error w ↦
          let call = w.in-Some.call in
          let line : Line = record { number = l.at + 1; call = call } in
          let wrong : w.unwrap_or.result ≡ unsheeted call = w.unwrap_or.ensures ∙ ap (λ z. unwrap_or z Wrong.NoSheet) w.err.ensures.value ∙ told_wrong call in
          record {
            us = us ++ (line ∷ []);
            said = between_push c.args.lines.now c.args.from l.at _ us (texts c.as_slice.result.now) c.read.result (omega arith) (ap texts c.as_slice.ensures.value ∙ c.in_ok-words.ensures.words) l.invariant.said c.read.ensures.read call line c.read.ensures.empty (search (rules, c.transpose.ensures, w.in-Some.is)) refl refl;
            none = none_more us line l.invariant.none (made_none call (sym w.made.ensures.answer ∙ w.in_default-made.is));
            text = ap (λ o. string_bytes o.text) w.out-is ∙ w.in_ok-error.ensures.text ∙ ap (λ z. z ++ error_line (l.at + 1) w.unwrap_or.result) l.invariant.text
                ∙ append_assoc (string_bytes c.args.out.now.text) (unsheeted_lines us) (error_line (l.at + 1) w.unwrap_or.result)
                ∙ ap (λ z. string_bytes c.args.out.now.text ++ (unsheeted_lines us ++ error_line (l.at + 1) z)) wrong
                ∙ ap (λ z. string_bytes c.args.out.now.text ++ z) (sym (unsheeted_more us line));
            clean = λ clean. search (rules, clean, w.out-is, w.in_ok-error.ensures.outcome);
          }
      | in_default w ↦ record {
        us = us;
        said = between_skip c.args.lines.now c.args.from l.at _ us (texts c.as_slice.result.now) c.read.result (omega arith) (ap texts c.as_slice.ensures.value ∙ c.in_ok-words.ensures.words) l.invariant.said c.read.ensures.read (search (rules, c.transpose.ensures, w.in_default.is));
        none = l.invariant.none;
        text = ap (λ o. string_bytes o.text) w.out-is ∙ l.invariant.text;
        clean = λ clean. l.invariant.clean (ap (λ o. o.outcome) (sym w.out-is) ∙ clean);
      }
    ]
