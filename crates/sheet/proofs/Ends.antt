-- The end of a journal.
use Rattle.std.proofs.Common.{◌≡◌, suc, ◌-◌, List, [], ◌∷◌, length, take, sym, refl, ap, ◌∙◌, arith}
use Rattle.std.specs.List.{slice_get}
use Rattle.keeps.specs.Kept.{newest, older}

-- the newest, found at its place
pub last_newest : {X : Type 0} (xs : List X) → slice_get xs (length xs - 1) ≡ newest xs
last_newest [] = refl
last_newest (x ∷ []) = refl
last_newest (x ∷ (y ∷ xs)) =
    let e : length (x ∷ (y ∷ xs)) - 1 ≡ suc (length xs) = omega arith in
    let f : length (y ∷ xs) - 1 ≡ length xs = omega arith in
    ap (slice_get (x ∷ (y ∷ xs))) e ∙ ap (slice_get (y ∷ xs)) (sym f) ∙ last_newest (y ∷ xs)

-- one fewer
pub struck_off : {X : Type 0} (xs : List X) → take (length xs - 1) xs ≡ older xs
struck_off [] = refl
struck_off (x ∷ []) = refl
struck_off (x ∷ (y ∷ xs)) =
    let e : length (x ∷ (y ∷ xs)) - 1 ≡ suc (length xs) = omega arith in
    let f : length (y ∷ xs) - 1 ≡ length xs = omega arith in
    ap (λ k. take k (x ∷ (y ∷ xs))) e ∙ ap (λ k. x ∷ take k (y ∷ xs)) (sym f) ∙ ap (λ zs. x ∷ zs) (struck_off (y ∷ xs))
