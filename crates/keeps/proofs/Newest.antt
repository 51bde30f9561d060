-- The newest cell of a list, and the list without it.
use Rattle.std.proofs.Common.{◌≡◌, ℕ, ◌<◌, ◌≤◌, min, List, [], ◌∷◌, ◌++◌, length, take, Some, refl, ap, ◌∙◌, arith}
use Rattle.std.proofs.lemmas.Bool.Decides.{nat_tests}
use Rattle.std.proofs.lemmas.List.{append-nil}
use Rattle.matrix.specs.Rules.{cell_limit}
use Rattle.keeps.specs.Kept.{newest, older}
use Rattle.keeps.specs.Stacks.{used}

-- of two lists, one after the other, where the second has a cell
pub newest_append : {X : Type 0} (xs ys : List X) → 0 < length ys → newest (xs ++ ys) ≡ newest ys
newest_append [] ys h = refl
newest_append (x ∷ []) [] h = absurd (omega arith)
newest_append (x ∷ []) (y ∷ ys) h = refl
newest_append (x ∷ (z ∷ xs)) ys h = newest_append (z ∷ xs) ys h

pub older_append : {X : Type 0} (xs ys : List X) → 0 < length ys → older (xs ++ ys) ≡ xs ++ older ys
older_append [] ys h = refl
older_append (x ∷ []) [] h = absurd (omega arith)
older_append (x ∷ []) (y ∷ ys) h = refl
older_append (x ∷ (z ∷ xs)) ys h = ap (λ zs. x ∷ zs) (older_append (z ∷ xs) ys h)

-- and of a list with one cell more
pub newest_last : {X : Type 0} (xs : List X) (x : X) → newest (xs ++ (x ∷ [])) ≡ Some x
newest_last xs x = newest_append xs (x ∷ []) (omega arith)

pub older_last : {X : Type 0} (xs : List X) (x : X) → older (xs ++ (x ∷ [])) ≡ xs
older_last xs x = older_append xs (x ∷ []) (omega arith) ∙ append-nil xs

pub older_length : {X : Type 0} (xs : List X) → length (older xs) ≤ length xs
older_length [] = omega arith
older_length (x ∷ []) = omega arith
older_length (x ∷ (y ∷ xs)) = let h = older_length (y ∷ xs) in omega arith

used_in : (n k : ℕ) → k ≤ min n cell_limit → used n k ≡ k
used_in n k h = grind (arith, nat_tests)

-- one cell less on a stack
pub stack_left : {X : Type 0} (xs : List X) (k : ℕ) → k ≤ min (length xs) cell_limit → take (used (length xs) k) xs ≡ take k xs
stack_left xs k h = ap (λ j. take j xs) (used_in (length xs) k h)
