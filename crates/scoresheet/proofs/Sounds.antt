-- Lines that are answered, one sheet after another.
use Rattle.std.proofs.Common.{◌≡◌, ℕ, ◌+◌, ◌-◌, ◌<◌, ◌≤◌, List, [], ◌∷◌, ◌++◌, Option, Some, None, IsOk, length, refl, ap, ◌∙◌, sym, subst, take_all, arith}
use Rattle.std.proofs.lemmas.List.{append_assoc, append-nil}
use Rattle.std.proofs.lemmas.List.Elements.{All-append, All-cons, All-nil}
use Rattle.std.specs.Prelude.{string_bytes, map}
use Rattle.listing.specs.declared.call.Fresh.{Fresh}
use Rattle.scoresheet.specs.declared.lines.Line.{Line}
use Rattle.scoresheet.specs.declared.lines.Stop.{Stop}
use Rattle.scoresheet.specs.declared.output.Output.{Output}
use Rattle.scoresheet.specs.Lists.{AreLines, first_words, words}
use Rattle.scoresheet.specs.Outcomes.{AnswerableLines, Begins, Clean, Sound}
use Rattle.scoresheet.specs.Pages.{unsheeted_lines}
use Rattle.scoresheet.specs.Sheets.{GroupText, LinesText, NoSheet, Told, making, stopper}
use Rattle.scoresheet.proofs.Grouped.{SoFar, so_far_first, so_far_more, so_far_end}

begins_append : (xs ys : List Line) → Begins xs → Begins ys → Begins (xs ++ ys)
begins_append [] ys h k = k
begins_append (x ∷ xs) ys h k = h

-- the lines before the stop are answered, and right where no error has been printed
pub record Answering (list : List (List ℕ)) (stop : Stop) (out : Output) : Type 0 where
  pub ls : List Line
  pub read : AreLines 1 (first_words stop.lines list) (ls ++ stopper stop.lines stop.fresh)
  pub told : SoFar ls (string_bytes out.text)
  pub sound : Clean out → Sound ls × Begins ls
  pub end : stop.fresh ≡ None → stop.lines ≡ length list

-- those before the first sheet
pub answering_first : (list : List (List ℕ)) (stop : Stop) (old new : Output) → string_bytes old.text ≡ [] → NoSheet list 0 stop old new → Answering list stop new
answering_first list stop old new none h = record {
  ls = h.us;
  read = h.upto.said [] refl;
  told = so_far_first h.us (string_bytes new.text) h.upto.none (h.text ∙ ap (λ z. z ++ unsheeted_lines h.us) none);
  sound = λ clean. let all = (h.none clean).1 in (subst Sound (sym all) (All-nil (λ line. IsOk line.call)), subst Begins (sym all) tt);
  end = h.upto.end;
}

-- one sheet more
pub answering_more : (list : List (List ℕ)) (stop next : Stop) (fresh : Fresh) (old new : Output) → stop.fresh ≡ Some fresh → Answering list stop old
    → Told (λ us. GroupText (making stop.lines fresh ∷ us)) list stop.lines next old new → Answering list next new
answering_more list stop next fresh old new is h group = record {
  ls = h.ls ++ (making stop.lines fresh ∷ group.us);
  read = subst (AreLines 1 (first_words next.lines list))
      (append_assoc h.ls (making stop.lines fresh ∷ []) (group.us ++ stopper next.lines next.fresh) ∙ sym (append_assoc h.ls (making stop.lines fresh ∷ group.us) (stopper next.lines next.fresh)))
      (group.upto.said (h.ls ++ (making stop.lines fresh ∷ [])) (subst (λ z. AreLines 1 (first_words stop.lines list) (h.ls ++ stopper stop.lines z)) is h.read));
  told = so_far_more h.ls group.us stop.lines fresh old new h.told group.upto.none group.text;
  sound = λ clean.
      let one = group.sound clean in
      let before = h.sound one.0 in
      (All-append (λ line. IsOk line.call) h.ls (making stop.lines fresh ∷ group.us) before.0 (All-cons (λ line. IsOk line.call) (making stop.lines fresh) group.us refl one.1), begins_append h.ls (making stop.lines fresh ∷ group.us) before.1 (fresh, refl));
  end = group.upto.end;
}

-- of the lines after a stop, and the stop, fewer are left at the next
pub fewer : (n m k : ℕ) (next : Option Fresh) → (next ≡ None → m ≡ n) → ((fresh : Fresh) → next ≡ Some fresh → (k < m) × (m ≤ n)) → n - m + length (stopper m next) < n - k + 1
fewer n m k None end further = let e = end refl in omega (arith, e)
fewer n m k (Some fresh) end further = let e = further fresh refl in omega (arith, e.0, e.1)

-- no line is left
module _ (list : List (List ℕ)) (stop : Stop) (out : Output) (h : Answering list stop out) (none : stop.fresh ≡ None) where
  all : AreLines 1 (map words list) h.ls
  all =
      let long = h.end none in
      subst (AreLines 1 (map words list)) (append-nil h.ls)
      (subst (λ xs. AreLines 1 (map words xs) (h.ls ++ [])) (take_all stop.lines list (omega (arith, long)))
      (subst (λ z. AreLines 1 (first_words stop.lines list) (h.ls ++ stopper stop.lines z)) none h.read))

  pub answering_text : LinesText list (string_bytes out.text)
  answering_text = (h.ls, all, so_far_end h.ls (string_bytes out.text) h.told)

  pub answering_sound : Clean out → AnswerableLines list
  answering_sound clean = let right = h.sound clean in (h.ls, all, right.0, right.1)
