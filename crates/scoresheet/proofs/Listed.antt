-- One more line among those of a list.
use Rattle.std.proofs.Common.{◌≡◌, ℕ, ◌+◌, List, [], ◌∷◌, ◌++◌, length, Result, Option, Ok, Err, Some, None, rules, arith, refl, sym, subst}
use Rattle.std.specs.Result.{result_transpose}
use Rattle.listing.specs.declared.call.Call.{Call}
use Rattle.listing.specs.declared.wrong.Wrong.{Wrong}
use Rattle.listing.specs.Calls.{Reads}
use Rattle.scoresheet.specs.declared.lines.Line.{Line}
use Rattle.scoresheet.specs.Lists.{AreLines, Says}

blank : (n : ℕ) (list : List (List (List ℕ))) (ls : List Line) → AreLines n list ls → AreLines n (list ++ ([] ∷ [])) ls
blank n [] ls h = h
blank n ([] ∷ more) ls h = blank (n + 1) more ls h
blank n ((w ∷ ws) ∷ more) [] h = absurd h
blank n ((w ∷ ws) ∷ more) (l ∷ ls) h = (h.0, h.1, blank (n + 1) more ls h.2)

spoken : (n : ℕ) (list : List (List (List ℕ))) (ls : List Line) (w : List ℕ) (ws : List (List ℕ)) (l : Line) → AreLines n list ls → l.number ≡ n + length list → Says (w ∷ ws) l.call → AreLines n (list ++ ((w ∷ ws) ∷ [])) (ls ++ (l ∷ []))
spoken n [] [] w ws l h e s = (search (rules, e), s, refl)
spoken n [] (k ∷ ls) w ws l h e s = search (rules, h)
spoken n ([] ∷ more) ls w ws l h e s = spoken (n + 1) more ls w ws l h (omega (arith, e)) s
spoken n ((v ∷ vs) ∷ more) [] w ws l h e s = absurd h
spoken n ((v ∷ vs) ∷ more) (k ∷ ls) w ws l h e s = (h.0, h.1, spoken (n + 1) more ls w ws l h.2 (omega (arith, e)) s)

-- it has no word
pub AreLines-skip : (n : ℕ) (list : List (List (List ℕ))) (ls : List Line) (ws : List (List ℕ)) (r : Result (Option Call) Wrong) → AreLines n list ls → Reads ws r
    → result_transpose r ≡ None → AreLines n (list ++ (ws ∷ [])) ls
AreLines-skip n list ls ws (Ok None) h reads e = subst (λ (x : List (List ℕ)). AreLines n (list ++ (x ∷ [])) ls) (sym reads) (blank n list ls h)
AreLines-skip n list ls ws (Ok (Some call)) h reads e = search (rules, e)
AreLines-skip n list ls ws (Err wrong) h reads e = search (rules, e)

-- it has a word
pub AreLines-push : (n : ℕ) (list : List (List (List ℕ))) (ls : List Line) (ws : List (List ℕ)) (r : Result (Option Call) Wrong) (call : Result Call Wrong) (l : Line) → AreLines n list ls
    → Reads ws r → (ws ≡ [] → r ≡ Ok None) → result_transpose r ≡ Some call → l.number ≡ n + length list → l.call ≡ call → AreLines n (list ++ (ws ∷ [])) (ls ++ (l ∷ []))
AreLines-push n list ls [] r call l h reads empty e at said = search (rules, empty refl, e)
AreLines-push n list ls (w ∷ ws) (Ok None) call l h reads empty e at said = search (rules, e)
AreLines-push n list ls (w ∷ ws) (Ok (Some x)) call l h reads empty e at said =
    let same : Ok x ≡ l.call = search (rules, e, said) in spoken n list ls w ws l h at (subst (λ (y : Result Call Wrong). Says (w ∷ ws) y) same reads)
AreLines-push n list ls (w ∷ ws) (Err x) call l h reads empty e at said =
    let same : Err x ≡ l.call = search (rules, e, said) in spoken n list ls w ws l h at (subst (λ (y : Result Call Wrong). Says (w ∷ ws) y) same reads)
