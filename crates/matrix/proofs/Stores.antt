-- Lists within a limit.
use Rattle.std.proofs.Common.{ℕ, ◌+◌, ◌≤◌, min, cond, leb, List, ◌++◌, length, take, arith, length-append, length-take}
use Rattle.std.proofs.lemmas.Bool.Decides.{nat_tests}

-- the first k cells of a list, where k is within the limit, and none where it is not
pub taken_within : {X : Type 0} (xs : List X) (k m : ℕ) → length (take (cond (leb k (min (length xs) m)) k 0) xs) ≤ min (length xs) m
taken_within xs k m = let e = length-take (cond (leb k (min (length xs) m)) k 0) xs in let f = clipped in omega arith
  where
    clipped : cond (leb k (min (length xs) m)) k 0 ≤ min (length xs) m
    clipped = grind (arith, nat_tests)

pub joined_within : {X : Type 0} (xs ys : List X) (m : ℕ) → length xs + length ys ≤ m → length (xs ++ ys) ≤ m
joined_within xs ys m h = omega (arith, length-append xs ys)
