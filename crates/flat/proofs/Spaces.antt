-- Lines of one cell put in.
use Rattle.std.proofs.Common.{◌≡◌, ℕ, ◌+◌, ◌-◌, ◌*◌, ◌<◌, ◌≤◌, List, length, cond, nat_lt, Some, None, sym, refl, ap, ◌∙◌, subst, ⊎_elim, mul-le-mul_right, add-mul, mul-add, arith}
use Rattle.std.specs.List.{slice_get}
use Rattle.std.proofs.lemmas.Bool.{cases_lt, cases_eq}
use Rattle.matrix.specs.Matrix.{Matrix, gapped, inside, turned, space_rows}
use Rattle.matrix.specs.Shapes.{rowwise}
use Rattle.matrix.proofs.Cells.{gapped_below, gapped_at, gapped_above, gapped_same}
use Rattle.matrix.proofs.Products.{line_more, line_ends}
use Rattle.matrix.proofs.Whole.{inside_in, blank_in, rowwise_is, whole_rowwise, whole_turned, whole_space_rows}
use Rattle.flat.specs.Moves.{Parted}

-- lines from o on are parted, what lies before is as it was
pub record Spaced {T : Type 0} (xs ys : List T) (outer n at g : ℕ) (x : T) (o : ℕ) : Type 0 where
  pub len : length ys ≡ length xs
  pub left : o ≤ outer
  pub below : (k : ℕ) → k < o * (n + g) → slice_get ys k ≡ slice_get xs k
  pub moved : (a b : ℕ) → o ≤ a → a < outer → b < n + g → slice_get ys (a * (n + g) + b) ≡ gapped at g (Some x) (λ k. slice_get xs (a * n + k)) b

pub spaced_more : {T : Type 0} (xs ys zs : List T) (outer n at g o : ℕ) (x : T) → at ≤ n → Spaced xs ys outer n at g x (o + 1) → Parted ys zs (o * n) (o * (n + g)) n at g x → Spaced xs zs outer n at g x o
spaced_more xs ys zs outer n at g o x ha p q = record {
  len = q.len ∙ p.len;
  left = omega (arith, p.left);
  below = λ k h. q.below k h ∙ p.below k (omega (arith, line_more o (n + g)));
  moved = λ a b l u h. ⊎_elim
      (λ (eq : a ≡ o). ap (λ j. slice_get zs (j * (n + g) + b)) eq ∙ q.moved b h ∙ gapped_same at g (Some x) (Some x) (λ k. slice_get ys (o * n + k)) (λ k. slice_get xs (a * n + k)) b (λ h'. here a b eq (omega arith)) (λ _ _. refl) (λ h'. here a (b - g) eq (omega arith)))
      (λ (ne : a ≡ o → ⊥). q.above (a * (n + g) + b) (omega (arith, line_ends o a (n + g) (omega arith))) ∙ p.moved a b (omega arith) u h)
      (cases_eq a o);
}
  where
    here : (a k : ℕ) → a ≡ o → k < n → slice_get ys (o * n + k) ≡ slice_get xs (a * n + k)
    here a k eq h = p.below (o * n + k) (omega (arith, line_more o (n + g), mul-add o n g)) ∙ ap (λ j. slice_get xs (j * n + k)) (sym eq)

-- the same as a turn of the loop has it: t lines were left, now one less
pub spaced_turn : {T : Type 0} (xs ys zs : List T) (outer n at g t : ℕ) (x : T) → 0 < t → at ≤ n → Spaced xs ys outer n at g x t → Parted ys zs ((t - 1) * n) ((t - 1) * (n + g)) n at g x → Spaced xs zs outer n at g x (t - 1)
spaced_turn {T} xs ys zs outer n at g t x ht ha p q =
    let back : t ≡ t - 1 + 1 = omega arith in
    spaced_more xs ys zs outer n at g (t - 1) x ha (subst (λ (j : ℕ). Spaced xs ys outer n at g x j) back p) q

pub spaced_all : {T : Type 0} (xs ys : List T) (outer n at g : ℕ) (x : T) → at ≤ n → Spaced xs ys outer n at g x 0 → rowwise outer (n + g) ys ≡ turned (space_rows at g x (turned (rowwise outer n xs)))
spaced_all xs ys outer n at g x ha p =
    rowwise_is outer (n + g) ys (turned (space_rows at g x (turned (rowwise outer n xs)))) refl refl
    (whole_turned (whole_space_rows at g x (turned (rowwise outer n xs)) ha (whole_turned (whole_rowwise outer n xs))))
    (λ r c hr hc. p.moved r c (omega arith) hr hc ∙ gapped_same at g (Some x) (cond (nat_lt r outer) (Some x) None) (λ k. slice_get xs (r * n + k)) (λ k. inside outer n r k (slice_get xs (r * n + k))) c (λ h. sym (inside_in outer n r c _ hr (omega arith))) (λ _ _. sym (blank_in r outer x hr)) (λ h. sym (inside_in outer n r (c - g) _ hr (omega arith))))

-- the later lines moved by g, and x put in
pub spaced_outer : {T : Type 0} (xs ys : List T) (outer n at g : ℕ) (x : T) → at ≤ outer → Parted xs ys (at * n) (at * n) (outer * n - at * n) 0 (g * n) x → rowwise (outer + g) n ys ≡ space_rows at g x (rowwise outer n xs)
spaced_outer {T} xs ys outer n at g x ha p =
    rowwise_is (outer + g) n ys (space_rows at g x m) refl refl (whole_space_rows at g x m ha (whole_rowwise outer n xs))
    (λ r c hr hc. ⊎_elim
    (λ (l : r < at). p.below (r * n + c) (omega (arith, line_ends r at n l)) ∙ sym (inside_in outer n r c (slice_get xs (r * n + c)) (omega arith) hc) ∙ sym (gapped_below at g _ (λ k. m.cell k c) r l))
    (λ (l : at ≤ r). ⊎_elim
    (λ (u : r < at + g). amid r c hc l u ∙ sym (blank_in c n x hc) ∙ sym (gapped_at at g _ (λ k. m.cell k c) r l u))
    (λ (u : at + g ≤ r). later r c hr hc u ∙ sym (gapped_above at g _ (λ k. m.cell k c) r u))
    (cases_lt r (at + g)))
    (cases_lt r at))
  where
    m : Matrix T
    m = rowwise outer n xs

    amid : (r c : ℕ) → c < n → at ≤ r → r < at + g → slice_get ys (r * n + c) ≡ Some x
    amid r c hc l u =
        let k = r * n + c - at * n in
        let start : at * n ≤ r * n = mul-le-mul_right n l in
        let end : r * n + n ≤ (at + g) * n = line_ends r (at + g) n u in
        let le : at * n ≤ outer * n = mul-le-mul_right n ha in
        let both = add-mul at g n in
        ap (slice_get ys) (let e : r * n + c ≡ at * n + k = omega arith in e)
        ∙ p.moved k (omega arith)
        ∙ gapped_at 0 (g * n) (Some x) (λ b. slice_get xs (at * n + b)) k (omega arith) (omega arith)

    later : (r c : ℕ) → r < outer + g → c < n → at + g ≤ r → slice_get ys (r * n + c) ≡ inside outer n (r - g) c (slice_get xs ((r - g) * n + c))
    later r c hr hc u =
        let k = r * n + c - at * n in
        let start : (at + g) * n ≤ r * n = mul-le-mul_right n u in
        let end : r * n + n ≤ (outer + g) * n = line_ends r (outer + g) n hr in
        let le : at * n ≤ outer * n = mul-le-mul_right n ha in
        let back : r * n ≡ (r - g) * n + g * n = ap (λ j. j * n) (let e : r ≡ r - g + g = omega arith in e) ∙ add-mul (r - g) g n in
        let both = add-mul at g n in
        let all = add-mul outer g n in
        ap (slice_get ys) (let e : r * n + c ≡ at * n + k = omega arith in e)
        ∙ p.moved k (omega arith)
        ∙ gapped_above 0 (g * n) (Some x) (λ b. slice_get xs (at * n + b)) k (omega arith)
        ∙ ap (slice_get xs) (let e : at * n + (k - g * n) ≡ (r - g) * n + c = omega arith in e)
        ∙ sym (inside_in outer n (r - g) c (slice_get xs ((r - g) * n + c)) (omega arith) hc)
