use Rattle.std.proofs.Common.{rules, ◌∷◌, ◌+◌, [], ◌++◌, IsOk, sym, ap, ◌∙◌, refl, subst, arith}
use Rattle.std.proofs.lemmas.List.Elements.{All-push}
use Rattle.listing.specs.Calls.{texts}
use Rattle.scoresheet.specs.declared.lines.Line.{Line}
use Rattle.scoresheet.specs.Plans.{AllAsked}
use Rattle.scoresheet.specs.Sheets.{NotesAll}
use Rattle.scoresheet.proofs.Noted.{notes_append}
use Rattle.scoresheet.proofs.Reading.{upto_new, between_push, between_skip, none_more, made_new, made_none}
use Rattle.scoresheet.proofs.script.Plan.read_all.Goals.{in-Some+in_default-made+in_ok-read, in_default}
use Rattle.scoresheet.proofs.script.Plan.read_all.Goals as goal

pub returns-in-Some-made : goal.returns-in-Some-made
returns-in-Some-made g c =
    let l = c.loop-at in
    let said = made_new c.in-Some.call c.in-Some-made.fresh (search (rules, c.made.ensures.answer, c.in-Some-made.is, c.in-Some.call-is)) in
    record {
      read = record {
        us = l.invariant.us;
        upto = upto_new c.args.lines.now c.args.from l.at _ l.invariant.us (texts c.as_slice.result.now) c.read.result (omega arith) (ap texts c.as_slice.ensures.value ∙ c.in_ok-words.ensures.words) l.invariant.said c.read.ensures.read (l.at + 1) c.in-Some-made.fresh (omega arith) c.read.ensures.empty
            (search (rules, c.transpose.ensures, c.in-Some.is, said)) refl l.invariant.none;
        notes = l.invariant.notes;
        asked = l.invariant.asked;
      };
      pool = l.invariant.pool;
    }

pub loop-at-preserved : goal.loop-at-preserved
loop-at-preserved g c =
    let l = c.loop-at in
    let us = l.invariant.us in
    elim c.match-transpose.branch [
      | in-Some+in_default-made+in_ok-read w ↦
          let call = w.in-Some.call in
          let line : Line = record { number = l.at + 1; call = call } in
          record {
            us = us ++ (line ∷ []);
            said = between_push c.args.lines.now c.args.from l.at _ us (texts c.as_slice.result.now) c.read.result (omega arith) (ap texts c.as_slice.ensures.value ∙ c.in_ok-words.ensures.words) l.invariant.said c.read.ensures.read call line c.read.ensures.empty (search (rules, c.transpose.ensures, w.in-Some.is)) refl refl;
            none = none_more us line l.invariant.none (made_none call (sym w.made.ensures.answer ∙ w.in_default-made.is));
            notes = subst (λ s. NotesAll g.T.Written.spells c.args.kind (us ++ (line ∷ [])) c.args.supply.now s c.args.self.now c.match-transpose.self) (sym w.supply-is)
                (subst (λ p. NotesAll g.T.Written.spells c.args.kind (us ++ (line ∷ [])) c.args.supply.now w.read-in-Some.new.supply c.args.self.now p) (sym w.self-is)
                (notes_append g.T.Written.spells c.args.kind us line c.args.supply.now l.supply w.read-in-Some.new.supply c.args.self.now l.self w.read-in-Some.new.self l.invariant.notes w.in_ok-read.ensures.notes));
            asked = λ asked.
                let one = w.in_ok-read.ensures.items (subst (λ p. AllAsked p.items.items) w.self-is asked) in
                let before = l.invariant.asked one.0 in
                (before.0, All-push (λ line. IsOk line.call) us line before.1 one.1);
            pool = ap (λ p. p.pool) w.self-is ∙ w.in_ok-read.ensures.pool ∙ l.invariant.pool;
          }
      | in_default w ↦ record {
        us = us;
        said = between_skip c.args.lines.now c.args.from l.at _ us (texts c.as_slice.result.now) c.read.result (omega arith) (ap texts c.as_slice.ensures.value ∙ c.in_ok-words.ensures.words) l.invariant.said c.read.ensures.read (search (rules, c.transpose.ensures, w.in_default.is));
        none = l.invariant.none;
        notes = subst (λ s. NotesAll g.T.Written.spells c.args.kind us c.args.supply.now s c.args.self.now c.match-transpose.self) (sym w.supply-is)
            (subst (λ p. NotesAll g.T.Written.spells c.args.kind us c.args.supply.now l.supply c.args.self.now p) (sym w.self-is) l.invariant.notes);
        asked = λ asked. l.invariant.asked (subst (λ p. AllAsked p.items.items) w.self-is asked);
        pool = ap (λ p. p.pool) w.self-is ∙ l.invariant.pool;
      }
    ]
