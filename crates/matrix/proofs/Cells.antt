-- What stands at a place of a list, as an Option.
use Rattle.std.proofs.Common.{◌≡◌, ℕ, zero, suc, ◌+◌, ◌-◌, ◌<◌, ◌≤◌, ◌≢◌, List, [], ◌∷◌, length, drop, get_or, set, Some, None, Option, sym, refl, ap, ◌∙◌, ⊎_elim, arith}
use Rattle.std.specs.List.{slice_get}
use Rattle.std.proofs.lemmas.Bool.Decides.{nat_tests}
use Rattle.std.proofs.lemmas.Bool.{cases_order, cases_lt}
use Rattle.std.proofs.lemmas.Option.{slice_get-get_or, slice_get_past}
use Rattle.matrix.specs.Matrix.{spliced, gapped, skipped, before, listed, over}

-- a cell of a list is there, so it can stand in for a default
pub present : {X : Type 0} (xs : List X) (i : ℕ) → i < length xs → X
present [] i h = absurd (omega arith)
present (x ∷ xs) i h = x

-- two places that agree at every default hold one cell
pub nth_same : {X : Type 0} (xs ys : List X) (i j : ℕ) → i < length xs → j < length ys → ((d : X) → get_or xs i d ≡ get_or ys j d) → slice_get xs i ≡ slice_get ys j
nth_same xs ys i j h k e = let d = present xs i h in slice_get-get_or xs i d h ∙ ap Some (e d) ∙ sym (slice_get-get_or ys j d k)

-- the same where both lists are as long, inside or past the end
pub nth_kept : {X : Type 0} (xs ys : List X) (i : ℕ) → length ys ≡ length xs → ((d : X) → get_or ys i d ≡ get_or xs i d) → slice_get ys i ≡ slice_get xs i
nth_kept xs ys i l e =
    ⊎_elim
    (λ (h : i < length xs). nth_same ys xs i i (omega arith) h e)
    (λ (h : length xs ≤ i). slice_get_past ys i (omega arith) ∙ sym (slice_get_past xs i h))
    (cases_lt i (length xs))

pub nth_set_same : {X : Type 0} (xs : List X) (i : ℕ) (x : X) → i < length xs → slice_get (set xs i x) i ≡ Some x
nth_set_same [] i x h = absurd (omega arith)
nth_set_same (y ∷ xs) zero x h = refl
nth_set_same (y ∷ xs) (suc i) x h = nth_set_same xs i x (omega arith)

pub nth_set_other : {X : Type 0} (xs : List X) (i k : ℕ) (x : X) → k ≢ i → slice_get (set xs i x) k ≡ slice_get xs k
nth_set_other [] i k x h = refl
nth_set_other (y ∷ xs) zero zero x h = absurd (h refl)
nth_set_other (y ∷ xs) zero (suc k) x h = refl
nth_set_other (y ∷ xs) (suc i) zero x h = refl
nth_set_other (y ∷ xs) (suc i) (suc k) x h = nth_set_other xs i k x (λ e. h (ap suc e))

module _ {X : Type 0} (i : ℕ) (x : X) (f : ℕ → X) (k : ℕ) where
  pub spliced_below : k < i → spliced i x f k ≡ f k
  spliced_below h = grind (arith, nat_tests)

  pub spliced_at : k ≡ i → spliced i x f k ≡ x
  spliced_at h = grind (arith, nat_tests)

  pub spliced_above : i < k → spliced i x f k ≡ f (k - 1)
  spliced_above h = grind (arith, nat_tests)

module _ {X : Type 0} (i g : ℕ) (x : X) (f : ℕ → X) (k : ℕ) where
  pub gapped_below : k < i → gapped i g x f k ≡ f k
  gapped_below h = grind (arith, nat_tests)

  pub gapped_at : i ≤ k → k < i + g → gapped i g x f k ≡ x
  gapped_at h l = grind (arith, nat_tests)

  pub gapped_above : i + g ≤ k → gapped i g x f k ≡ f (k - g)
  gapped_above h = grind (arith, nat_tests)

pub gapped_same : {X : Type 0} (i g : ℕ) (x y : X) (f h : ℕ → X) (k : ℕ) → (k < i → f k ≡ h k) → (i ≤ k → k < i + g → x ≡ y) → (i + g ≤ k → f (k - g) ≡ h (k - g)) → gapped i g x f k ≡ gapped i g y h k
gapped_same i g x y f h k a b c =
    ⊎_elim
    (λ (l : k < i). gapped_below i g x f k l ∙ a l ∙ sym (gapped_below i g y h k l))
    (λ (l : i ≤ k). ⊎_elim
    (λ (u : k < i + g). gapped_at i g x f k l u ∙ b l u ∙ sym (gapped_at i g y h k l u))
    (λ (u : i + g ≤ k). gapped_above i g x f k u ∙ c u ∙ sym (gapped_above i g y h k u))
    (cases_lt k (i + g)))
    (cases_lt k i)

pub spliced_same : {X : Type 0} (i : ℕ) (x y : X) (f g : ℕ → X) (k : ℕ) → (k < i → f k ≡ g k) → (k ≡ i → x ≡ y) → (i < k → f (k - 1) ≡ g (k - 1)) → spliced i x f k ≡ spliced i y g k
spliced_same i x y f g k a b c =
    ⊎_elim
    (λ (e : k ≡ i). spliced_at i x f k e ∙ b e ∙ sym (spliced_at i y g k e))
    (⊎_elim
    (λ (h : k < i). spliced_below i x f k h ∙ a h ∙ sym (spliced_below i y g k h))
    (λ (h : i < k). spliced_above i x f k h ∙ c h ∙ sym (spliced_above i y g k h)))
    (cases_order k i)

pub skipped_below : (i k : ℕ) → k < i → skipped i k ≡ k
skipped_below i k h = grind (arith, nat_tests)

pub skipped_above : (i k : ℕ) → i ≤ k → skipped i k ≡ k + 1
skipped_above i k h = grind (arith, nat_tests)

pub skipped_within : (i k n : ℕ) → k < n - 1 → skipped i k < n
skipped_within i k n h = ⊎_elim
    (λ (l : k < i). omega (arith, skipped_below i k l))
    (λ (l : i ≤ k). omega (arith, skipped_above i k l))
    (cases_lt k i)

-- lists with the same cell at each place
pub nth_ext : {X : Type 0} (xs ys : List X) → ((k : ℕ) → slice_get xs k ≡ slice_get ys k) → xs ≡ ys
nth_ext [] [] h = refl
nth_ext [] (y ∷ ys) h = let z : None ≡ Some y = h 0 in cc
nth_ext (x ∷ xs) [] h = let z : Some x ≡ None = h 0 in cc
nth_ext (x ∷ xs) (y ∷ ys) h = let z : Some x ≡ Some y = h 0 in let t : xs ≡ ys = nth_ext xs ys (λ k. h (suc k)) in cc

-- lists that are as long, with the same cell at each place from n on
pub drop_ext : {X : Type 0} (n : ℕ) (xs ys : List X) → length xs ≡ length ys → ((k : ℕ) → n ≤ k → slice_get xs k ≡ slice_get ys k) → drop n xs ≡ drop n ys
drop_ext zero xs ys l h = nth_ext xs ys (λ k. h k (omega arith))
drop_ext (suc n) [] [] l h = refl
drop_ext (suc n) [] (y ∷ ys) l h = absurd (omega arith)
drop_ext (suc n) (x ∷ xs) [] l h = absurd (omega arith)
drop_ext (suc n) (x ∷ xs) (y ∷ ys) l h = drop_ext n xs ys (omega arith) (λ k g. h (suc k) (omega arith))

-- a memory that has f in its first n cells, and is as it was after them
pub over_is : {X : Type 0} (n : ℕ) (f : ℕ → Option X) (xs ys : List X) → n ≤ length xs → length ys ≡ length xs → ((k : ℕ) → k < n → slice_get ys k ≡ f k) → ((k : ℕ) → n ≤ k → slice_get ys k ≡ slice_get xs k) → ys ≡ over (listed n f) xs
over_is zero f xs ys h l a b = nth_ext ys xs (λ k. b k (omega arith))
over_is (suc n) f [] ys h l a b = absurd (omega arith)
over_is (suc n) f (x ∷ xs) [] h l a b = absurd (omega arith)
over_is (suc n) f (x ∷ xs) (y ∷ ys) h l a b =
    ap (λ zs. y ∷ zs) (over_is n (λ k. f (suc k)) xs ys (omega arith) (omega arith) (λ k i. a (suc k) (omega arith)) (λ k i. b (suc k) (omega arith)))
    ∙ ap (λ o. over (before o (listed n (λ k. f (suc k)))) (x ∷ xs)) (a 0 (omega arith))
