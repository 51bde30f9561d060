-- A list that is written over.
use Rattle.std.proofs.Common.{◌≡◌, ℕ, min, List, ◌++◌, length, take, drop, sym, ap, ◌∙◌, take_all, append-nil, drop_of_length-le, arith}
use Rattle.std.proofs.lemmas.List.{take-append-le, take-append-drop}
use Rattle.matrix.specs.Matrix.{over}
use Rattle.matrix.proofs.Stretches.{drop_clipped}

pub written_whole : {A : Type 0} (n : ℕ) (xs ys : List A) → n ≡ length xs → length ys ≡ length xs → take n (ys ++ drop (length ys) xs) ≡ ys
written_whole n xs ys e l = take-append-le n ys (drop (length ys) xs) (omega (arith, e, l)) ∙ take_all n ys (omega (arith, e, l))

-- by as many as there are
pub over_all : {A : Type 0} (ys xs : List A) → length ys ≡ length xs → over ys xs ≡ ys
over_all ys xs e = ap (λ z. ys ++ z) (drop_of_length-le xs {i = length ys} (omega (arith, e))) ∙ append-nil ys

-- what begins as ys and goes on as before
pub over_parts : {A : Type 0} (ys xs new : List A) (n : ℕ) → length ys ≡ min (length xs) n → take n new ≡ ys → drop n new ≡ drop n xs → new ≡ over ys xs
over_parts ys xs new n e front rest = sym (take-append-drop n new) ∙ (λ i. front i ++ rest i) ∙ ap (λ z. ys ++ z) (sym (drop_clipped xs n (length ys) (omega (arith, e))))
