-- What is still to come between two places, of which the last goes.
use Rattle.std.proofs.Common.{◌≡◌, ℕ, zero, suc, ◌+◌, ◌-◌, ◌<◌, ◌≤◌, min, List, ◌∷◌, length, take, Some, None, Option, sym, refl, ap, ◌∙◌, subst, arith}
use Rattle.std.specs.List.{slice_get}
use Rattle.matrix.specs.Matrix.{before, listed}
use Rattle.matrix.proofs.Undo.{listed_length, listed_at}
use Rattle.walks.specs.Walks.{between}

-- nothing comes from the first absent one on
listed_stops : {X : Type 0} (k n : ℕ) (f : ℕ → Option X) → k ≤ n → (k < n → f k ≡ None) → listed n f ≡ listed k f
listed_stops zero zero f h e = refl
listed_stops zero (suc n) f h e = ap (λ o. before o (listed n (λ j. f (suc j)))) (e (omega arith))
listed_stops (suc k) zero f h e = absurd (omega arith)
listed_stops (suc k) (suc n) f h e = ap (before (f 0)) (listed_stops k n (λ j. f (suc j)) (omega arith) (λ l. e (omega arith)))

taken_more : {X : Type 0} (k : ℕ) (o : Option X) (xs ys : List X) → take k xs ≡ ys → take (suc k) (before o xs) ≡ before o ys
taken_more k (Some x) xs ys e = ap (λ zs. x ∷ zs) e
taken_more k None xs ys e = refl

take_listed : {X : Type 0} (k n : ℕ) (f : ℕ → Option X) → k ≤ n → take k (listed n f) ≡ listed k f
take_listed zero n f h = refl
take_listed (suc k) zero f h = absurd (omega arith)
take_listed (suc k) (suc n) f h = taken_more k (f 0) (listed n (λ j. f (suc j))) (listed k (λ j. f (suc j))) (take_listed k n (λ j. f (suc j)) (omega arith))

-- the last of those between front and end has gone, and it is f (end - 1)
pub record Last {X : Type 0} (xs : List X) (front end : ℕ) (f : ℕ → Option X) : Type 0 where
  pub count : length xs ≡ end - front
  pub answer : front < end → f (end - 1) ≡ slice_get xs (length xs - 1)
  pub rest : front < end → between front (end - 1) f ≡ take (length xs - 1) xs

-- f is there before R, and absent from R on
module _ {X : Type 0} (R : ℕ) (f : ℕ → Option X) (there : (i : ℕ) → i < R → (x : X) × (f i ≡ Some x)) (past : (i : ℕ) → R ≤ i → f i ≡ None) where
  -- of what stands between front and back no more comes than R has
  cut : (front back : ℕ) → between front back f ≡ between front (min back R) f
  cut front back = listed_stops (min back R - front) (back - front) (λ k. f (front + k)) (omega arith) (λ h. past (front + (min back R - front)) (omega arith))

  within : (front end : ℕ) → end ≤ R → (k : ℕ) → k < end - front → (x : X) × (f (front + k) ≡ Some x)
  within front end h k l = there (front + k) (omega arith)

  counted : (front end : ℕ) → end ≤ R → length (between front end f) ≡ end - front
  counted front end h = listed_length (end - front) (λ k. f (front + k)) (within front end h)

  last_within : (front end : ℕ) → end ≤ R → Last (between front end f) front end f
  last_within front end h =
      let n = counted front end h in
      record {
        count = n;
        answer = λ l. ap f (let e : end - 1 ≡ front + (end - front - 1) = omega arith in e) ∙ sym (listed_at (end - front) (λ k. f (front + k)) (within front end h) (end - front - 1) (omega arith)) ∙ ap (λ k. slice_get (between front end f) (k - 1)) (sym n);
        rest = λ l. ap (λ k. listed k (λ k. f (front + k))) (let e : end - 1 - front ≡ end - front - 1 = omega arith in e) ∙ sym (take_listed (end - front - 1) (end - front) (λ k. f (front + k)) (omega arith)) ∙ ap (λ k. take (k - 1) (between front end f)) (sym n);
      }

  pub last_of : (front back end : ℕ) → end ≡ min back R → Last (between front back f) front end f
  last_of front back end e = subst (λ z. Last (between front back f) front z f) (sym e) (subst (λ xs. Last xs front (min back R) f) (sym (cut front back)) (last_within front (min back R) (omega arith)))
