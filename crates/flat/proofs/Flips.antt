-- Lines turned round.
use Rattle.std.proofs.Common.{◌≡◌, ℕ, ◌+◌, ◌-◌, ◌*◌, ◌/◌, ◌<◌, ◌≤◌, List, length, sym, refl, ap, ◌∙◌, ⊎_elim, add-mul, arith}
use Rattle.std.specs.List.{slice_get}
use Rattle.std.proofs.lemmas.Bool.{cases_eq, cases_lt}
use Rattle.matrix.specs.Matrix.{Matrix, rotate_half}
use Rattle.matrix.specs.Shapes.{rowwise}
use Rattle.matrix.proofs.Products.{line_more, line_ends}
use Rattle.matrix.proofs.Whole.{inside_in, rowwise_is, whole_rotate_half}
use Rattle.flat.specs.Moves.{Exchanged, Facing, Reversed}

-- m more cells change places, further in
pub facing_more : {X : Type 0} (xs ys zs : List X) (p q n r m o : ℕ) → r + m ≡ q → n + m ≡ o → p + o ≤ r → Facing xs ys p q n → Facing ys zs (p + n) r m → Facing xs zs p r o
facing_more xs ys zs p q n r m o e s h v w = record {
  len = w.len ∙ v.len;
  first = λ k l. ⊎_elim
      (λ (b : k < n). w.below (p + k) (omega arith) ∙ v.first k b ∙ ap (slice_get xs) (omega arith))
      (λ (b : n ≤ k). ap (slice_get zs) (omega arith) ∙ w.first (k - n) (omega arith) ∙ v.amid (r + (m - 1 - (k - n))) (omega arith) (omega arith) ∙ ap (slice_get xs) (omega arith))
      (cases_lt k n);
  second = λ k l. ⊎_elim
      (λ (b : k < m). w.second k b ∙ v.amid (p + n + (m - 1 - k)) (omega arith) (omega arith) ∙ ap (slice_get xs) (omega arith))
      (λ (b : m ≤ k). w.above (r + k) (omega arith) ∙ ap (slice_get ys) (omega arith) ∙ v.second (k - m) (omega arith) ∙ ap (slice_get xs) (omega arith))
      (cases_lt k m);
  below = λ k l. w.below k (omega arith) ∙ v.below k l;
  amid = λ k l b. w.amid k (omega arith) b ∙ v.amid k (omega arith) (omega arith);
  above = λ k l. w.above k (omega arith) ∙ v.above k (omega arith);
}

-- the first o lines and the last o are exchanged
pub record Flipped {T : Type 0} (xs ys : List T) (outer n o : ℕ) : Type 0 where
  pub len : length ys ≡ length xs
  pub low : (a b : ℕ) → a < o → a < outer → b < n → slice_get ys (a * n + b) ≡ slice_get xs ((outer - 1 - a) * n + b)
  pub high : (a b : ℕ) → outer - o ≤ a → a < outer → b < n → slice_get ys (a * n + b) ≡ slice_get xs ((outer - 1 - a) * n + b)
  pub amid : (a b : ℕ) → o ≤ a → a < outer - o → b < n → slice_get ys (a * n + b) ≡ slice_get xs (a * n + b)

-- the next line from either end
pub flipped_more : {T : Type 0} (xs ys zs : List T) (outer n o : ℕ) → o < outer / 2 → Flipped xs ys outer n o → Exchanged ys zs (o * n) ((outer - 1 - o) * n) n → Flipped xs zs outer n (o + 1)
flipped_more xs ys zs outer n o half p q = record {
  len = q.len ∙ p.len;
  low = λ a b h i l. ⊎_elim
      (λ (e : a ≡ o). ap (λ j. slice_get zs (j * n + b)) e ∙ q.first b l ∙ p.amid (outer - 1 - o) b (omega arith) (omega arith) l ∙ ap (λ j. slice_get xs ((outer - 1 - j) * n + b)) (sym e))
      (λ (ne : a ≡ o → ⊥). q.below (a * n + b) (omega (arith, line_ends a o n (omega arith))) ∙ p.low a b (omega arith) i l)
      (cases_eq a o);
  high = λ a b h i l. ⊎_elim
      (λ (e : a ≡ outer - 1 - o). ap (λ j. slice_get zs (j * n + b)) e ∙ q.second b l ∙ p.amid o b (omega arith) (omega arith) l ∙ ap (λ j. slice_get xs (j * n + b)) (omega arith))
      (λ (ne : a ≡ outer - 1 - o → ⊥). q.above (a * n + b) (omega (arith, line_ends (outer - 1 - o) a n (omega arith))) ∙ p.high a b (omega arith) i l)
      (cases_eq a (outer - 1 - o));
  amid = λ a b h i l.
      q.amid (a * n + b) (omega (arith, line_ends o a n (omega arith))) (omega (arith, line_ends a (outer - 1 - o) n (omega arith)))
      ∙ p.amid a b (omega arith) (omega arith) l;
}

-- the first o lines are turned round
pub record Mirrored {T : Type 0} (xs ys : List T) (n o : ℕ) : Type 0 where
  pub len : length ys ≡ length xs
  pub low : (a b : ℕ) → a < o → b < n → slice_get ys (a * n + b) ≡ slice_get xs (a * n + (n - 1 - b))
  pub above : (k : ℕ) → o * n ≤ k → slice_get ys k ≡ slice_get xs k

pub mirrored_more : {T : Type 0} (xs ys zs : List T) (n o : ℕ) → Mirrored xs ys n o → Reversed ys zs (o * n) n → Mirrored xs zs n (o + 1)
mirrored_more xs ys zs n o p q = record {
  len = q.len ∙ p.len;
  low = λ a b h i. ⊎_elim
      (λ (e : a ≡ o). ap (λ j. slice_get zs (j * n + b)) e ∙ q.turned b i ∙ p.above (o * n + (n - 1 - b)) (omega arith) ∙ ap (λ j. slice_get xs (j * n + (n - 1 - b))) (sym e))
      (λ (e : a ≡ o → ⊥). let f : a * n + n ≤ o * n = line_ends a o n (omega arith) in q.below (a * n + b) (omega arith) ∙ p.low a b (omega arith) i)
      (cases_eq a o);
  above = λ k h. q.above k (omega (arith, line_more o n)) ∙ p.above k (omega (arith, line_more o n));
}

-- all cells, the last first
pub reversed_all : {T : Type 0} (xs ys : List T) (outer n : ℕ) → Reversed xs ys 0 (outer * n) → rowwise outer n ys ≡ rotate_half (rowwise outer n xs)
reversed_all {T} xs ys outer n p =
    rowwise_is outer n ys (rotate_half m) refl refl (whole_rotate_half m)
    (λ r c hr hc.
    let e : r * n + n ≤ outer * n = line_ends r outer n hr in
    let f : (outer - 1 - r) * n + n + r * n ≡ outer * n = mirror r hr in
    ap (slice_get ys) (omega arith) ∙ p.turned (r * n + c) (omega arith) ∙ ap (slice_get xs) (omega arith)
    ∙ sym (inside_in outer n (outer - 1 - r) (n - 1 - c) (slice_get xs ((outer - 1 - r) * n + (n - 1 - c))) (omega arith) (omega arith))
    ∙ sym (inside_in outer n r c (m.cell (outer - 1 - r) (n - 1 - c)) hr hc))
  where
    m : Matrix T
    m = rowwise outer n xs

    mirror : (r : ℕ) → r < outer → (outer - 1 - r) * n + n + r * n ≡ outer * n
    mirror r h =
        let e : outer ≡ (outer - 1 - r) + 1 + r = omega arith in
        sym (ap (λ j. j * n) e ∙ add-mul ((outer - 1 - r) + 1) r n ∙ ap (λ j. j + r * n) (line_more (outer - 1 - r) n))
