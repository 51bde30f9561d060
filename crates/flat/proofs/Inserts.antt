-- A line put in.
use Rattle.std.proofs.Common.{◌≡◌, ℕ, ◌+◌, ◌-◌, ◌*◌, ◌<◌, ◌≤◌, List, length, set, Some, Option, sym, refl, ap, ◌∙◌, subst, ⊎_elim, mul-le-mul_right, length-set, arith}
use Rattle.std.specs.List.{slice_get}
use Rattle.std.proofs.lemmas.Bool.{cases_order, cases_eq, cases_lt}
use Rattle.matrix.specs.Matrix.{Matrix, spliced, inside, insert_row, insert_col}
use Rattle.matrix.specs.Shapes.{rowwise}
use Rattle.matrix.proofs.Cells.{nth_set_same, nth_set_other, spliced_below, spliced_at, spliced_above, spliced_same}
use Rattle.matrix.proofs.Products.{line_more, line_wider, line_ends, line_back}
use Rattle.matrix.proofs.Whole.{inside_in, rowwise_is, whole_rowwise, whole_insert_row, whole_insert_col}
use Rattle.flat.specs.Moves.{Copied}

-- the cells from the new one of line o on are in place, what lies before is as it was
pub record Opened {T : Type 0} (xs ys line : List T) (outer n at o : ℕ) : Type 0 where
  pub len : length ys ≡ length xs
  pub left : o ≤ outer
  pub below : (k : ℕ) → k < o * (n + 1) + at → slice_get ys k ≡ slice_get xs k
  pub moved : (a b : ℕ) → a < outer → b < n + 1 → o * (n + 1) + at ≤ a * (n + 1) + b → slice_get ys (a * (n + 1) + b) ≡ spliced at (slice_get line a) (λ k. slice_get xs (a * n + k)) b

-- the stretch between the new cells of lines o and o + 1 moves up, and line o's new cell goes before it
module _ {T : Type 0} (xs ys zs line : List T) (outer n at o m : ℕ) (x : T) (ha : at ≤ n) (ho : o < outer) (fits : outer * (n + 1) ≤ length xs) (whole : o + 1 < outer → m ≡ n) (last : o + 1 ≡ outer → m ≡ n - at) (new : slice_get line o ≡ Some x) (p : Opened xs ys line outer n at (o + 1)) (q : Copied ys zs ys (o * n + at) (o * (n + 1) + at + 1) m) where
  abbrev start : ℕ
  start = o * (n + 1) + at

  abbrev pub ws : List T
  ws = set zs start x

  abbrev old : ℕ → ℕ → Option T
  old a k = slice_get xs (a * n + k)

  more : (o + 1) * (n + 1) ≡ o * (n + 1) + (n + 1)
  more = line_more o (n + 1)

  inside_all : start < length zs
  inside_all = omega (arith, q.len, p.len, line_ends o outer (n + 1) ho)

  short : m ≤ n
  short = ⊎_elim (λ (i : o + 1 < outer). omega (arith, whole i)) (λ (i : outer ≤ o + 1). omega (arith, last (omega arith))) (cases_lt (o + 1) outer)

  reach : (b : ℕ) → b < n + 1 → at < b → b - 1 - at < m
  reach b h l = ⊎_elim (λ (i : o + 1 < outer). omega (arith, whole i)) (λ (i : outer ≤ o + 1). omega (arith, last (omega arith))) (cases_lt (o + 1) outer)

  same : (b : ℕ) → b < n + 1 → at ≤ b → slice_get ws (o * (n + 1) + b) ≡ spliced at (slice_get line o) (old o) b
  same b h g = ⊎_elim
      (λ (e : b ≡ at). ap (λ j. slice_get ws (o * (n + 1) + j)) e ∙ nth_set_same zs start x inside_all ∙ sym new ∙ sym (spliced_at at (slice_get line o) (old o) b e))
      (λ (ne : b ≡ at → ⊥).
      nth_set_other zs start (o * (n + 1) + b) x (omega arith)
      ∙ ap (slice_get zs) (let i : o * (n + 1) + b ≡ o * (n + 1) + at + 1 + (b - 1 - at) = omega arith in i)
      ∙ q.moved (b - 1 - at) (reach b h (omega arith))
      ∙ ap (slice_get ys) (let i : o * n + at + (b - 1 - at) ≡ o * n + (b - 1) = omega arith in i)
      ∙ p.below (o * n + (b - 1)) (omega (arith, more, line_wider o n))
      ∙ sym (spliced_above at (slice_get line o) (old o) b (omega arith)))
      (cases_eq b at)

  next : (b : ℕ) → o + 1 < outer → b < at → slice_get ws ((o + 1) * (n + 1) + b) ≡ spliced at (slice_get line (o + 1)) (old (o + 1)) b
  next b h l =
      nth_set_other zs start ((o + 1) * (n + 1) + b) x (omega (arith, more))
      ∙ ap (slice_get zs) (let i : (o + 1) * (n + 1) + b ≡ o * (n + 1) + at + 1 + (n + b - at) = omega (arith, more) in i)
      ∙ q.moved (n + b - at) (omega (arith, whole h))
      ∙ ap (slice_get ys) (let i : o * n + at + (n + b - at) ≡ (o + 1) * n + b = omega (arith, line_more o n) in i)
      ∙ p.below ((o + 1) * n + b) (omega (arith, line_wider (o + 1) n))
      ∙ sym (spliced_below at (slice_get line (o + 1)) (old (o + 1)) b l)

  later : (a b : ℕ) → a < outer → b < n + 1 → (o + 1) * (n + 1) + at ≤ a * (n + 1) + b → slice_get ws (a * (n + 1) + b) ≡ spliced at (slice_get line a) (old a) b
  later a b g h r = nth_set_other zs start (a * (n + 1) + b) x (omega (arith, more)) ∙ q.above (a * (n + 1) + b) (omega (arith, more, short)) ∙ p.moved a b g h r

  placed : (a b : ℕ) → a < outer → b < n + 1 → start ≤ a * (n + 1) + b → slice_get ws (a * (n + 1) + b) ≡ spliced at (slice_get line a) (old a) b
  placed a b g h s = ⊎_elim
      (λ (e : a ≡ o). subst (λ (j : ℕ). slice_get ws (j * (n + 1) + b) ≡ spliced at (slice_get line j) (old j) b) (sym e) (same b h (omega (arith, ap (λ j. j * (n + 1)) e))))
      (⊎_elim
      (λ (l : a < o). absurd (omega (arith, line_ends a o (n + 1) l)))
      (λ (l : o < a). ⊎_elim
      (λ (r : a * (n + 1) + b < (o + 1) * (n + 1) + at). ⊎_elim
      (λ (e : a ≡ o + 1). subst (λ (j : ℕ). slice_get ws (j * (n + 1) + b) ≡ spliced at (slice_get line j) (old j) b) (sym e) (next b (omega arith) (omega (arith, ap (λ j. j * (n + 1)) e))))
      (λ (ne : a ≡ o + 1 → ⊥). absurd (omega (arith, line_ends (o + 1) a (n + 1) (omega arith))))
      (cases_eq a (o + 1)))
      (later a b g h)
      (cases_lt (a * (n + 1) + b) ((o + 1) * (n + 1) + at))))
      (cases_order a o)

  pub opened_more : Opened xs ws line outer n at o
  opened_more = record {
    len = length-set zs start x ∙ q.len ∙ p.len;
    left = omega arith;
    below = λ k h. nth_set_other zs start k x (omega arith) ∙ q.below k (omega arith) ∙ p.below k (omega (arith, more));
    moved = placed;
  }

-- the same as a turn of the loop has it: t lines were left, now one less
pub opened_turn : {T : Type 0} (xs ys zs line : List T) (outer n at t m : ℕ) (x : T) → 0 < t → t ≤ outer → at ≤ n → outer * (n + 1) ≤ length xs → (t - 1 + 1 < outer → m ≡ n) → (t - 1 + 1 ≡ outer → m ≡ n - at) → slice_get line (t - 1) ≡ Some x → Opened xs ys line outer n at t → Copied ys zs ys ((t - 1) * n + at) ((t - 1) * (n + 1) + at + 1) m → Opened xs (set zs ((t - 1) * (n + 1) + at) x) line outer n at (t - 1)
opened_turn {T} xs ys zs line outer n at t m x ht hm ha fits whole last new p q =
    let back : t ≡ t - 1 + 1 = omega arith in
    opened_more xs ys zs line outer n at (t - 1) m x ha (omega arith) fits whole last new (subst (λ (j : ℕ). Opened xs ys line outer n at j) back p) q

pub opened_all : {T : Type 0} (xs ys line : List T) (outer n at : ℕ) → at ≤ n → length line ≡ outer → Opened xs ys line outer n at 0 → rowwise outer (n + 1) ys ≡ insert_col at line (rowwise outer n xs)
opened_all xs ys line outer n at ha el p =
    rowwise_is outer (n + 1) ys (insert_col at line (rowwise outer n xs)) (sym el) refl
    (whole_insert_col at line (rowwise outer n xs) ha (λ _. el) (whole_rowwise outer n xs))
    (λ r c hr hc. place r c hr hc ∙ spliced_same at (slice_get line r) (slice_get line r) (λ k. slice_get xs (r * n + k)) (λ k. inside outer n r k (slice_get xs (r * n + k))) c (λ h. sym (inside_in outer n r c _ hr (omega arith))) (λ _. refl) (λ h. sym (inside_in outer n r (c - 1) _ hr (omega arith))))
  where
    place : (r c : ℕ) → r < outer → c < n + 1 → slice_get ys (r * (n + 1) + c) ≡ spliced at (slice_get line r) (λ k. slice_get xs (r * n + k)) c
    place r c hr hc = ⊎_elim
        (λ (l : r * (n + 1) + c < at).
        let first : r ≡ 0 = ⊎_elim (λ (i : 0 < r). absurd (omega (arith, line_ends 0 r (n + 1) i))) (λ (i : r ≤ 0). omega arith) (cases_lt 0 r) in
        p.below (r * (n + 1) + c) (omega arith)
        ∙ ap (slice_get xs) (let i : r * (n + 1) + c ≡ r * n + c = omega (arith, ap (λ j. j * (n + 1)) first, ap (λ j. j * n) first) in i)
        ∙ sym (spliced_below at (slice_get line r) (λ k. slice_get xs (r * n + k)) c (omega arith)))
        (λ (l : at ≤ r * (n + 1) + c). p.moved r c hr hc (omega arith))
        (cases_lt (r * (n + 1) + c) at)

-- the later lines moved by one, and the line put in
pub inserted_outer : {T : Type 0} (xs ys zs line : List T) (outer n at : ℕ) → at ≤ outer → length line ≡ n → Copied xs ys xs (at * n) (at * n + n) (outer * n - at * n) → Copied ys zs line 0 (at * n) n → rowwise (outer + 1) n zs ≡ insert_row at line (rowwise outer n xs)
inserted_outer {T} xs ys zs line outer n at ha el slid put =
    rowwise_is (outer + 1) n zs (insert_row at line m) refl (sym el) (whole_insert_row at line m ha (λ _. el) (whole_rowwise outer n xs))
    (λ r c hr hc. ⊎_elim
    (λ (e : r ≡ at). ap (λ j. slice_get zs (j * n + c)) e ∙ put.moved c hc ∙ ap (slice_get line) (omega arith) ∙ sym (spliced_at at (slice_get line c) (λ k. m.cell k c) r e))
    (⊎_elim
    (λ (l : r < at). let p : r * n + n ≤ at * n = line_ends r at n l in put.below (r * n + c) (omega arith) ∙ slid.below (r * n + c) (omega arith) ∙ sym (inside_in outer n r c (slice_get xs (r * n + c)) (omega arith) hc) ∙ sym (spliced_below at (slice_get line c) (λ k. m.cell k c) r l))
    (λ (l : at < r). later r c hr hc l ∙ sym (spliced_above at (slice_get line c) (λ k. m.cell k c) r l)))
    (cases_order r at))
  where
    m : Matrix T
    m = rowwise outer n xs

    later : (r c : ℕ) → r < outer + 1 → c < n → at < r → slice_get zs (r * n + c) ≡ inside outer n (r - 1) c (slice_get xs ((r - 1) * n + c))
    later r c hr hc l =
        let back : r * n ≡ (r - 1) * n + n = line_back r n (omega arith) in
        let p : at * n ≤ (r - 1) * n = mul-le-mul_right n (omega arith) in
        let q : (r - 1) * n + n ≤ outer * n = line_ends (r - 1) outer n (omega arith) in
        put.above (r * n + c) (omega arith)
        ∙ ap (slice_get ys) (omega arith)
        ∙ slid.moved ((r - 1) * n + c - at * n) (omega arith)
        ∙ ap (slice_get xs) (omega arith)
        ∙ sym (inside_in outer n (r - 1) c (slice_get xs ((r - 1) * n + c)) (omega arith) hc)
