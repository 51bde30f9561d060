-- What is taken from both ends of a list is taken once.
use Rattle.std.proofs.Common.{◌≡◌, ◌+◌, ◌-◌, ◌<◌, List, [], ◌∷◌, ◌++◌, length, take, reverse, get_or, Some, Option, sym, ap, ◌∙◌, append-nil, arith, length-drop, length-take-le, take_all}
use Rattle.std.specs.List.{slice_get}
use Rattle.std.specs.Option.{option_to_list}
use Rattle.std.proofs.lemmas.List.{append_assoc, reverse-append}
use Rattle.std.proofs.lemmas.Option.{slice_get-get_or}
use Rattle.matrix.proofs.Stretches.{take_one_more}
use Rattle.walks.specs.declared.lines.End.{End}
use Rattle.walks.specs.declared.lines.End.TheVariants.{Front, Back}
use Rattle.walks.specs.Ends.{next, given, left, fronts, backs, Once}

module _ {X : Type 0} where
  -- what is left without the last, and then the last
  last_back : (xs : List X) (y : X) → 0 < length xs → slice_get xs (length xs - 1) ≡ Some y → take (length xs - 1) xs ++ (y ∷ []) ≡ xs
  last_back xs y h e = sym (take_one_more xs (length xs - 1) y e) ∙ take_all (length xs - 1 + 1) xs (omega arith)

  -- one more from the back
  back_more : (fs ls bs ys xs : List X) (o : Option X) (y : X) → o ≡ Some y → ys ++ (y ∷ []) ≡ xs → fs ++ (ls ++ reverse bs) ≡ ys → fs ++ (ls ++ reverse (option_to_list o ++ bs)) ≡ xs
  back_more fs ls bs ys xs o y e w h =
      ap (λ z. fs ++ (ls ++ reverse (option_to_list z ++ bs))) e
      ∙ ap (λ z. fs ++ (ls ++ z)) (reverse-append (y ∷ []) bs)
      ∙ ap (λ z. fs ++ z) (sym (append_assoc ls (reverse bs) (y ∷ [])))
      ∙ sym (append_assoc fs (ls ++ reverse bs) (y ∷ []))
      ∙ ap (λ z. z ++ (y ∷ [])) h
      ∙ w

  each_once : (ends : List End) (xs : List X) → fronts ends (given ends xs) ++ (left ends xs ++ reverse (backs ends (given ends xs))) ≡ xs
  each_once [] xs = append-nil xs
  each_once (Front ∷ ends) [] = each_once ends []
  each_once (Front ∷ ends) (x ∷ xs) = ap (λ ys. x ∷ ys) (each_once ends xs)
  each_once (Back ∷ ends) [] = each_once ends []
  each_once (Back ∷ ends) (x ∷ xs) =
      let all = x ∷ xs in
      let ys = take (length all - 1) all in
      let y = get_or all (length all - 1) x in
      let e = slice_get-get_or all (length all - 1) x (omega arith) in
      back_more (fronts ends (given ends ys)) (left ends ys) (backs ends (given ends ys)) ys all (slice_get all (length all - 1)) y e (last_back all y (omega arith) e) (each_once ends ys)

  one_less : (end : End) (xs : List X) → length (next end xs) ≡ length xs - 1
  one_less Front xs = length-drop 1 xs
  one_less Back xs = length-take-le (length xs - 1) xs (omega arith)

  count_left : (ends : List End) (xs : List X) → length (left ends xs) ≡ length xs - length ends
  count_left [] xs = omega arith
  count_left (end ∷ ends) xs = count_left ends (next end xs) ∙ (let e : length (next end xs) - length ends ≡ length xs - length (end ∷ ends) = omega (arith, one_less end xs) in e)

  pub once : (ends : List End) (all rest : List X) → rest ≡ left ends all → Once ends all rest
  once ends all rest e = record {
    each = ap (λ z. fronts ends (given ends all) ++ (z ++ reverse (backs ends (given ends all)))) e ∙ each_once ends all;
    count = ap length e ∙ count_left ends all;
  }
