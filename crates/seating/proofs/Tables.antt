-- Tables in which each seat stands once, and stays so when their entries change places.
use Rattle.std.proofs.Common.{◌≡◌, ℕ, ◌+◌, ◌-◌, ◌<◌, ◌≤◌, cond, ltb, List, reverse, length, get_or, take, drop, sym, ap, ◌∙◌, ⊎_elim, arith}
use Rattle.std.proofs.lemmas.List.{get_or_append_left, get_or-append_right, get_or-reverse, get_or-take, get_or-drop, length-take-le, length-reverse}
use Rattle.std.proofs.lemmas.Bool.{cases_lt, cases_order}
use Rattle.std.proofs.lemmas.Bool.Decides.{nat_tests}
use Rattle.matrix.specs.Matrix.{spliced}
use Rattle.matrix.proofs.Cells.{spliced_below, spliced_at, spliced_above}
use Rattle.seating.specs.Benches.{flipped}

-- what a bench promises of its table
abbrev pub Below : ℕ → List ℕ → Type 0
Below side t = (i : ℕ) → i < side → get_or t i 0 < side

abbrev pub Once : ℕ → List ℕ → Type 0
Once side t = (i : ℕ) → (j : ℕ) → (i < side) × (j < side) × (get_or t i 0 ≡ get_or t j 0) → i ≡ j

-- u has t's entries at other places, each once
module _ (side : ℕ) (t u : List ℕ) (π : ℕ → ℕ) (inn : (k : ℕ) → k < side → π k < side) (at : (k : ℕ) → k < side → get_or u k 0 ≡ get_or t (π k) 0) where
  pub reseated_below : Below side t → Below side u
  reseated_below b k h = let e = at k h in let l = b (π k) (inn k h) in omega arith

  pub reseated_once : ((j k : ℕ) → j < side → k < side → π j ≡ π k → j ≡ k) → Once side t → Once side u
  reseated_once apart o j k h = apart j k h.0 h.1 (o (π j) (π k) (inn j h.0, inn k h.1, sym (at j h.0) ∙ h.2 ∙ at k h.1))

-- where the entry at k comes from when the one at n has gone to i
abbrev pub came : ℕ → ℕ → ℕ → ℕ
came i n k = cond (ltb n k) k (spliced i n (λ j. j) k)

module _ (i n side : ℕ) (hi : i ≤ n) (hn : n < side) where
  pub came_in : (k : ℕ) → k < side → came i n k < side
  came_in k h = grind (arith, nat_tests)

  pub came_apart : (j k : ℕ) → j < side → k < side → came i n j ≡ came i n k → j ≡ k
  came_apart j k hj hk e = grind (arith, nat_tests)

came_past : (i n k : ℕ) → n < k → k ≡ came i n k
came_past i n k g = grind (arith, nat_tests)

came_under : (i n k : ℕ) → k ≤ n → spliced i n (λ j. j) k ≡ came i n k
came_under i n k g = grind (arith, nat_tests)

pub came_at : (i n side : ℕ) (t u : List ℕ) → i ≤ n → ((k : ℕ) → k < n + 1 → get_or u k 0 ≡ spliced i (get_or t n 0) (λ j. get_or t j 0) k) → ((k : ℕ) → n < k → get_or u k 0 ≡ get_or t k 0) → (k : ℕ) → k < side → get_or u k 0 ≡ get_or t (came i n k) 0
came_at i n side t u hi low high k h = ⊎_elim
    (λ (g : n < k). high k g ∙ ap (λ j. get_or t j 0) (came_past i n k g))
    (λ (g : k ≤ n). low k (omega arith) ∙ by g)
    (cases_lt n k)
  where
    under : k ≤ n → spliced i n (λ j. j) k ≡ came i n k
    under g = came_under i n k g

    by : k ≤ n → spliced i (get_or t n 0) (λ j. get_or t j 0) k ≡ get_or t (came i n k) 0
    by g = ⊎_elim
        (λ (e : k ≡ i). spliced_at i (get_or t n 0) (λ j. get_or t j 0) k e ∙ ap (λ j. get_or t j 0) (sym (spliced_at i n (λ j. j) k e) ∙ under g))
        (⊎_elim
        (λ (l : k < i). spliced_below i (get_or t n 0) (λ j. get_or t j 0) k l ∙ ap (λ j. get_or t j 0) (sym (spliced_below i n (λ j. j) k l) ∙ under g))
        (λ (l : i < k). spliced_above i (get_or t n 0) (λ j. get_or t j 0) k l ∙ ap (λ j. get_or t j 0) (sym (spliced_above i n (λ j. j) k l) ∙ under g)))
        (cases_order k i)

-- where the entry at k comes from when the first n are turned round
abbrev pub mirror : ℕ → ℕ → ℕ
mirror n k = cond (ltb k n) (n - 1 - k) k

module _ (n : ℕ) (t : List ℕ) (f : n ≤ length t) where
  front : length (reverse (take n t)) ≡ n
  front = length-reverse (take n t) ∙ length-take-le n t f

  pub flipped_low : (i : ℕ) → i < n → get_or (flipped n t) i 0 ≡ get_or t (n - 1 - i) 0
  flipped_low i h =
      let l = length-take-le n t f in
      let a : i < length (reverse (take n t)) = omega (arith, front) in
      let b : i < length (take n t) = omega arith in
      get_or_append_left (reverse (take n t)) (drop n t) 0 i a ∙ get_or-reverse (take n t) i 0 b ∙ ap (λ m. get_or (take n t) (m - 1 - i) 0) l ∙ get_or-take n t (n - 1 - i) 0 (omega arith)

  flipped_high : (i : ℕ) → n ≤ i → get_or (flipped n t) i 0 ≡ get_or t i 0
  flipped_high i h = get_or-append_right (reverse (take n t)) (drop n t) n i 0 front h ∙ get_or-drop n t (i - n) 0 ∙ ap (λ m. get_or t m 0) (omega arith)

  pub mirror_at : (k : ℕ) → get_or (flipped n t) k 0 ≡ get_or t (mirror n k) 0
  mirror_at k = ⊎_elim
      (λ (h : k < n). flipped_low k h ∙ ap (λ j. get_or t j 0) (inner h))
      (λ (h : n ≤ k). flipped_high k h ∙ ap (λ j. get_or t j 0) (outer h))
      (cases_lt k n)
    where
      inner : k < n → n - 1 - k ≡ mirror n k
      inner h = grind (arith, nat_tests)

      outer : n ≤ k → k ≡ mirror n k
      outer h = grind (arith, nat_tests)

module _ (n side : ℕ) (hn : n ≤ side) where
  pub mirror_in : (k : ℕ) → k < side → mirror n k < side
  mirror_in k h = grind (arith, nat_tests)

  pub mirror_apart : (j k : ℕ) → j < side → k < side → mirror n j ≡ mirror n k → j ≡ k
  mirror_apart j k hj hk e = grind (arith, nat_tests)

-- every seat in its own place
pub own_below : (side : ℕ) (t : List ℕ) → ((k : ℕ) → k < 256 → get_or t k 0 ≡ k) → side ≤ 256 → Below side t
own_below side t own h k l = let e = own k (omega arith) in omega arith

pub own_once : (side : ℕ) (t : List ℕ) → ((k : ℕ) → k < 256 → get_or t k 0 ≡ k) → side ≤ 256 → Once side t
own_once side t own h j k l = sym (own j (omega (arith, l.0))) ∙ l.2 ∙ own k (omega (arith, l.1))
