-- Stretches of a list, clipped to it, and lists that grow by one.
use Rattle.std.proofs.Common.{◌≡◌, ℕ, zero, suc, ◌+◌, ◌-◌, ◌<◌, ◌≤◌, min, List, [], ◌∷◌, ◌++◌, length, take, drop, set, Some, None, sym, ap, ◌∙◌, ⊎_elim, append-nil, arith, length-append, length-drop, drop_of_length-le, take_all, take_at, drop_at}
use Rattle.std.specs.List.{slice_get}
use Rattle.std.proofs.lemmas.List.{take_min, drop_min, drop-drop}
use Rattle.std.proofs.lemmas.Bool.{cases_lt}
use Rattle.matrix.specs.Matrix.{over}

-- no more than a list has
pub take_clipped : {X : Type 0} (ys : List X) (n k : ℕ) → k ≡ min n (length ys) → take k ys ≡ take n ys
take_clipped ys n k e = ap (λ j. take j ys) e ∙ take_min n ys

pub drop_clipped : {X : Type 0} (ys : List X) (n k : ℕ) → k ≡ min n (length ys) → drop k ys ≡ drop n ys
drop_clipped ys n k e = ap (λ j. drop j ys) e ∙ drop_min n ys

-- n cells from `from` on, found by numbers that stay within the list
module _ {X : Type 0} (xs : List X) (from n f k : ℕ) (ef : f ≡ min from (length xs)) (ek : k ≡ min n (length xs - f)) where
  short : k ≡ min n (length (drop f xs))
  short = ek ∙ ap (min n) (sym (length-drop f xs))

  pub clipped : take k (drop f xs) ≡ take n (drop from xs)
  clipped = take_clipped (drop f xs) n k short ∙ ap (take n) (drop_clipped xs from f ef)

  pub past_clipped : drop k (drop f xs) ≡ drop (from + n) xs
  past_clipped = drop_clipped (drop f xs) n k short ∙ ap (drop n) (drop_clipped xs from f ef) ∙ drop-drop n from xs

-- one more of a list
pub take_one_more : {X : Type 0} (xs : List X) (k : ℕ) (x : X) → slice_get xs k ≡ Some x → take (k + 1) xs ≡ take k xs ++ (x ∷ [])
take_one_more [] k x e = let z : None ≡ Some x = e in cc
take_one_more (y ∷ xs) zero x e = let z : Some y ≡ Some x = e in ap (λ w. w ∷ []) cc
take_one_more (y ∷ xs) (suc k) x e = ap (λ j. take j (y ∷ xs)) (let z : suc k + 1 ≡ suc (k + 1) = omega arith in z) ∙ ap (λ ys. y ∷ ys) (take_one_more xs k x e)

-- the next cell of a memory that begins with ys
pub over_one_more : {X : Type 0} (ys zs : List X) (k : ℕ) (x : X) → k ≡ length ys → k < length zs → set (over ys zs) k x ≡ over (ys ++ (x ∷ [])) zs
over_one_more [] [] k x e h = absurd (omega arith)
over_one_more [] (z ∷ zs) k x e h = ap (λ j. set (z ∷ zs) j x) e
over_one_more (y ∷ ys) [] k x e h = absurd (omega arith)
over_one_more (y ∷ ys) (z ∷ zs) zero x e h = absurd (omega arith)
over_one_more (y ∷ ys) (z ∷ zs) (suc k) x e h = ap (λ ws. y ∷ ws) (over_one_more ys zs k x (omega arith) (omega arith))

-- rs written over a memory that has room for n of them, or for all of them that it has room for
module _ {X : Type 0} (rs before : List X) (n : ℕ) (e : length rs ≡ min (length before) n) where
  pub over_front : take n (over rs before) ≡ rs
  over_front = ⊎_elim
      (λ (h : n < length before). take_at rs (drop (length rs) before) n (omega arith))
      (λ (h : length before ≤ n). take_all n (over rs before) (omega (arith, all h)) ∙ whole h)
      (cases_lt n (length before))
    where
      whole : length before ≤ n → over rs before ≡ rs
      whole h = ap (λ z. rs ++ z) (drop_of_length-le before {i = length rs} (omega arith)) ∙ append-nil rs

      all : (h : length before ≤ n) → length (over rs before) ≡ length rs
      all h = ap length (whole h)

  pub over_rest : drop n (over rs before) ≡ drop n before
  over_rest = ⊎_elim
      (λ (h : n < length before). drop_at rs (drop (length rs) before) n (omega arith) ∙ ap (λ k. drop k before) (let z : length rs ≡ n = omega arith in z))
      (λ (h : length before ≤ n). drop_of_length-le (over rs before) {i = n} (omega (arith, length-append rs (drop (length rs) before), length-drop (length rs) before)) ∙ sym (drop_of_length-le before h))
      (cases_lt n (length before))
