-- Lines of a list that are read one after another.
use Rattle.std.proofs.Common.{◌≡◌, ℕ, ◌+◌, ◌<◌, ◌≤◌, List, [], ◌∷◌, ◌++◌, length, map, take, get_or, Result, Option, Ok, Err, Some, None, Bor, false, refl, sym, ap, ◌∙◌, subst, append_assoc, append-nil, take_all, arith, rules}
use Rattle.std.specs.List.{AllByRecursion}
use Rattle.std.specs.Option.{unwrap_or}
use Rattle.std.specs.Result.{result_err, result_transpose}
use Rattle.std.proofs.lemmas.List.{take-map, map_more, map-append, length-map, length-take-le}
use Rattle.listing.specs.declared.call.Call.{Call}
use Rattle.listing.specs.declared.call.Fresh.{Fresh}
use Rattle.listing.specs.declared.wrong.Wrong.{Wrong}
use Rattle.listing.specs.Calls.{Reads, texts}
use Rattle.scoresheet.specs.declared.lines.Line.{Line}
use Rattle.scoresheet.specs.Lists.{AreLines, Between, first_words, sheet_made, words}
use Rattle.scoresheet.specs.Pages.{error_line, unsheeted, unsheeted_lines}
use Rattle.scoresheet.specs.Sheets.{UpTo, makes, making}
use Rattle.scoresheet.proofs.Listed.{AreLines-skip, AreLines-push}

-- a line that makes a sheet
pub made_new : (call : Result Call Wrong) (fresh : Fresh) → sheet_made call ≡ Some fresh → call ≡ Ok (Call.New fresh)
made_new (Ok (Call.New f)) fresh e = search (rules, e)
made_new call fresh e = search (rules, e)

-- a line that makes none
pub made_none : (call : Result Call Wrong) → sheet_made call ≡ None → makes call ≡ false
made_none (Ok (Call.New f)) e = search (rules, e)
made_none call e = refl

-- what is wrong with a line that no sheet stands before
pub told_wrong : (call : Result Call Wrong) → unwrap_or (result_err call) Wrong.NoSheet ≡ unsheeted call
told_wrong (Ok call) = refl
told_wrong (Err wrong) = refl

-- one error more
pub unsheeted_more : (us : List Line) (line : Line) → unsheeted_lines (us ++ (line ∷ [])) ≡ unsheeted_lines us ++ error_line line.number (unsheeted line.call)
unsheeted_more [] line = append-nil (error_line line.number (unsheeted line.call))
unsheeted_more (u ∷ us) line =
    ap (λ z. error_line u.number (unsheeted u.call) ++ z) (unsheeted_more us line) ∙ sym (append_assoc (error_line u.number (unsheeted u.call)) (unsheeted_lines us) (error_line line.number (unsheeted line.call)))

-- no line yet
pub between_none : (list : List (List ℕ)) (n : ℕ) → Between list n n []
between_none list n ls h = subst (AreLines 1 (first_words n list)) (sym (append-nil ls)) h

-- all lines
between_end : (list : List (List ℕ)) (n k : ℕ) (us : List Line) → length list ≤ k → Between list n k us → Between list n (length list) us
between_end list n k us l h ls before =
    subst (λ xs. AreLines 1 (map words xs) (ls ++ us)) (take_all k list l ∙ sym (take_all (length list) list (omega arith))) (h ls before)

-- none of them makes a sheet, and one more does not
pub none_more : (us : List Line) (line : Line) → AllByRecursion (λ line. makes line.call ≡ false) us → makes line.call ≡ false → AllByRecursion (λ line. makes line.call ≡ false) (us ++ (line ∷ []))
none_more [] line h e = (e, tt)
none_more (u ∷ us) line h e = (h.0, none_more us line h.1 e)

-- no line is left
pub upto_end : (list : List (List ℕ)) (n k m : ℕ) (us : List Line) → length list ≤ k → m ≡ length list → Between list n k us → AllByRecursion (λ line. makes line.call ≡ false) us
    → UpTo list n (record { lines = m; fresh = None }) us
upto_end list n k m us l em h none = record {
  said = subst (λ z. Between list n z (us ++ [])) (sym em) (subst (Between list n (length list)) (sym (append-nil us)) (between_end list n k us l h));
  none = none;
  end = λ e. em;
  further = λ fresh e. search (rules, e);
}

module _ (lines : List (Bor (List ℕ))) (n k : ℕ) (d : Bor (List ℕ)) (us : List Line) (ws : List (List ℕ)) (r : Result (Option Call) Wrong)
    (inside : k < length lines) (is : ws ≡ words (get_or lines k d).now) (h : Between (texts lines) n k us) (reads : Reads ws r) where
  words_more : first_words (k + 1) (texts lines) ≡ first_words k (texts lines) ++ (ws ∷ [])
  words_more =
      ap (map words) (take-map (λ w. w.now) (k + 1) lines ∙ map_more (λ w. w.now) lines k d inside ∙ ap (λ xs. xs ++ ((get_or lines k d).now ∷ [])) (sym (take-map (λ w. w.now) k lines)))
      ∙ map-append words (take k (texts lines)) ((get_or lines k d).now ∷ [])
      ∙ ap (λ w. first_words k (texts lines) ++ (w ∷ [])) (sym is)

  count : length (first_words k (texts lines)) ≡ k
  count = length-map (take k (texts lines)) words ∙ length-take-le k (texts lines) (let long : length (texts lines) ≡ length lines = length-map lines (λ w. w.now) in omega (arith, long, inside))

  -- a line that has no word
  pub between_skip : result_transpose r ≡ None → Between (texts lines) n (k + 1) us
  between_skip e ls before = subst (λ wss. AreLines 1 wss (ls ++ us)) (sym words_more) (AreLines-skip 1 (first_words k (texts lines)) (ls ++ us) ws r (h ls before) reads e)

  -- a line that has one
  pub between_push : (call : Result Call Wrong) (l : Line) → (ws ≡ [] → r ≡ Ok None) → result_transpose r ≡ Some call → l.number ≡ k + 1 → l.call ≡ call → Between (texts lines) n (k + 1) (us ++ (l ∷ []))
  between_push call l empty e number said ls before =
      subst (AreLines 1 (first_words (k + 1) (texts lines))) (append_assoc ls us (l ∷ []))
      (subst (λ wss. AreLines 1 wss ((ls ++ us) ++ (l ∷ []))) (sym words_more) (AreLines-push 1 (first_words k (texts lines)) (ls ++ us) ws r call l (h ls before) reads empty e (omega (arith, count, number)) said))

  -- a line that makes the next sheet
  pub upto_new : (m : ℕ) (fresh : Fresh) → n ≤ k → (ws ≡ [] → r ≡ Ok None) → result_transpose r ≡ Some (Ok (Call.New fresh)) → m ≡ k + 1 → AllByRecursion (λ line. makes line.call ≡ false) us
      → UpTo (texts lines) n (record { lines = m; fresh = Some fresh }) us
  upto_new m fresh before empty e em none = record {
    said = subst (λ z. Between (texts lines) n z (us ++ (making m fresh ∷ []))) (sym em) (between_push (Ok (Call.New fresh)) (making m fresh) empty e em refl);
    none = none;
    end = λ no. search (rules, no);
    further = λ f _. (omega (arith, before, em), let long : length (texts lines) ≡ length lines = length-map lines (λ w. w.now) in omega (arith, long, inside, em));
  }
