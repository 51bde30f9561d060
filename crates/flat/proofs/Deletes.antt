-- A line taken out, and a line copied.
use Rattle.std.proofs.Common.{◌≡◌, ℕ, ◌+◌, ◌-◌, ◌*◌, ◌<◌, ◌≤◌, List, ◌++◌, length, take, drop, sym, refl, ap, ◌∙◌, subst, ⊎_elim, mul-le-mul_right, arith, length-drop, length-take-le, get_or-drop, get_or-take}
use Rattle.std.specs.List.{slice_get, slice_range}
use Rattle.std.proofs.lemmas.Bool.{cases_lt, cases_eq, cases_order}
use Rattle.matrix.specs.Matrix.{skipped, inside, left_across, remove_row, remove_col, row, col, over}
use Rattle.matrix.specs.Shapes.{rowwise}
use Rattle.matrix.proofs.Cells.{nth_same, skipped_below, skipped_above, skipped_within, over_is}
use Rattle.matrix.proofs.Gather.{Gathered, gathered_all}
use Rattle.matrix.proofs.Products.{line_more, line_ends, line_narrower}
use Rattle.matrix.proofs.Whole.{inside_in, rowwise_is, whole_rowwise, whole_remove_row, whole_remove_col, across_stays}
use Rattle.flat.specs.Moves.{Copied}

-- the cells up to the one of line o that goes are in place, what lies after is as it was
pub record Closed {T : Type 0} (xs ys : List T) (outer n at o : ℕ) : Type 0 where
  pub len : length ys ≡ length xs
  pub moved : (a b : ℕ) → a < outer → b < n - 1 → a * (n - 1) + b < o * (n - 1) + at → slice_get ys (a * (n - 1) + b) ≡ slice_get xs (a * n + skipped at b)
  pub above : (k : ℕ) → o * (n - 1) + at ≤ k → slice_get ys k ≡ slice_get xs k

-- the stretch between the cells of lines o and o + 1 that go moves down
module _ {T : Type 0} (xs ys zs : List T) (outer n at o m : ℕ) (ha : at < n) (ho : o < outer) (whole : o + 1 < outer → m ≡ n - 1) (last : o + 1 ≡ outer → m ≡ n - 1 - at) (p : Closed xs ys outer n at o) (q : Copied ys zs ys (o * n + at + 1) (o * (n - 1) + at) m) where
  more : (o + 1) * (n - 1) ≡ o * (n - 1) + (n - 1)
  more = line_more o (n - 1)

  short : m ≤ n - 1
  short = ⊎_elim (λ (i : o + 1 < outer). omega (arith, whole i)) (λ (i : outer ≤ o + 1). omega (arith, last (omega arith))) (cases_lt (o + 1) outer)

  reach : (b : ℕ) → b < n - 1 → at ≤ b → b - at < m
  reach b h l = ⊎_elim (λ (i : o + 1 < outer). omega (arith, whole i)) (λ (i : outer ≤ o + 1). omega (arith, last (omega arith))) (cases_lt (o + 1) outer)

  same : (b : ℕ) → b < n - 1 → at ≤ b → slice_get zs (o * (n - 1) + b) ≡ slice_get xs (o * n + skipped at b)
  same b h g =
      ap (slice_get zs) (let i : o * (n - 1) + b ≡ o * (n - 1) + at + (b - at) = omega arith in i)
      ∙ q.moved (b - at) (reach b h g)
      ∙ ap (slice_get ys) (let i : o * n + at + 1 + (b - at) ≡ o * n + skipped at b = omega (arith, skipped_above at b g) in i)
      ∙ p.above (o * n + skipped at b) (omega (arith, skipped_above at b g, line_narrower o n (omega arith)))

  next : (b : ℕ) → b < n - 1 → o + 1 < outer → b < at → slice_get zs ((o + 1) * (n - 1) + b) ≡ slice_get xs ((o + 1) * n + skipped at b)
  next b h i l =
      ap (slice_get zs) (let e : (o + 1) * (n - 1) + b ≡ o * (n - 1) + at + (n - 1 + b - at) = omega (arith, more) in e)
      ∙ q.moved (n - 1 + b - at) (omega (arith, whole i))
      ∙ ap (slice_get ys) (let e : o * n + at + 1 + (n - 1 + b - at) ≡ (o + 1) * n + skipped at b = omega (arith, line_more o n, skipped_below at b l) in e)
      ∙ p.above ((o + 1) * n + skipped at b) (omega (arith, line_more o n, skipped_below at b l, line_narrower o n (omega arith)))

  placed : (a b : ℕ) → a < outer → b < n - 1 → a * (n - 1) + b < (o + 1) * (n - 1) + at → slice_get zs (a * (n - 1) + b) ≡ slice_get xs (a * n + skipped at b)
  placed a b g h s = ⊎_elim
      (λ (r : a * (n - 1) + b < o * (n - 1) + at). q.below (a * (n - 1) + b) r ∙ p.moved a b g h r)
      (λ (r : o * (n - 1) + at ≤ a * (n - 1) + b). ⊎_elim
      (λ (e : a ≡ o). subst (λ (j : ℕ). slice_get zs (j * (n - 1) + b) ≡ slice_get xs (j * n + skipped at b)) (sym e) (same b h (omega (arith, ap (λ j. j * (n - 1)) e))))
      (⊎_elim
      (λ (l : a < o). absurd (omega (arith, line_ends a o (n - 1) l)))
      (λ (l : o < a). ⊎_elim
      (λ (e : a ≡ o + 1). subst (λ (j : ℕ). slice_get zs (j * (n - 1) + b) ≡ slice_get xs (j * n + skipped at b)) (sym e) (next b h (omega arith) (omega (arith, ap (λ j. j * (n - 1)) e))))
      (λ (ne : a ≡ o + 1 → ⊥). absurd (omega (arith, line_ends (o + 1) a (n - 1) (omega arith))))
      (cases_eq a (o + 1))))
      (cases_order a o))
      (cases_lt (a * (n - 1) + b) (o * (n - 1) + at))

  pub closed_more : Closed xs zs outer n at (o + 1)
  closed_more = record {
    len = q.len ∙ p.len;
    moved = placed;
    above = λ k h. q.above k (omega (arith, more, short)) ∙ p.above k (omega (arith, more));
  }

pub closed_all : {T : Type 0} (xs ys : List T) (outer n at : ℕ) → at < n → Closed xs ys outer n at outer → rowwise (left_across n outer) (n - 1) ys ≡ remove_col at (rowwise outer n xs)
closed_all {T} xs ys outer n at ha p =
    rowwise_is (left_across n outer) (n - 1) ys (remove_col at (rowwise outer n xs)) refl refl (whole_remove_col at (rowwise outer n xs) ha (whole_rowwise outer n xs))
    (λ r c hr hc.
    let ne : n ≡ 1 → ⊥ = omega arith in
    let hr' : r < outer = omega (arith, across_stays n outer ne) in
    p.moved r c hr' hc (omega (arith, line_ends r outer (n - 1) hr')) ∙ sym (inside_in outer n r (skipped at c) (slice_get xs (r * n + skipped at c)) hr' (skipped_within at c n hc)))

pub removed_outer : {T : Type 0} (xs ys : List T) (outer n at : ℕ) → at < outer → Copied xs ys xs (at * n + n) (at * n) (outer * n - (at * n + n)) → rowwise (outer - 1) (left_across outer n) ys ≡ remove_row at (rowwise outer n xs)
removed_outer {T} xs ys outer n at ha slid =
    rowwise_is (outer - 1) (left_across outer n) ys (remove_row at (rowwise outer n xs)) refl refl (whole_remove_row at (rowwise outer n xs) ha (whole_rowwise outer n xs))
    (λ r c hr hc.
    let ne : outer ≡ 1 → ⊥ = omega arith in
    let side : left_across outer n ≡ n = across_stays outer n ne in
    ap (λ j. slice_get ys (r * j + c)) side ∙ at_place r c hr (omega arith))
  where
    at_place : (r c : ℕ) → r < outer - 1 → c < n → slice_get ys (r * n + c) ≡ inside outer n (skipped at r) c (slice_get xs (skipped at r * n + c))
    at_place r c hr hc = ⊎_elim
        (λ (l : r < at).
        let s : skipped at r ≡ r = skipped_below at r l in
        let f : r * n + n ≤ at * n = line_ends r at n l in
        slid.below (r * n + c) (omega arith) ∙ ap (λ j. slice_get xs (j * n + c)) (sym s) ∙ sym (inside_in outer n (skipped at r) c (slice_get xs (skipped at r * n + c)) (omega arith) hc))
        (λ (l : at ≤ r).
        let s : skipped at r ≡ r + 1 = skipped_above at r l in
        let f : at * n ≤ r * n = mul-le-mul_right n l in
        let k : (r + 1) * n ≡ r * n + n = line_more r n in
        let e : (r + 1) * n + n ≤ outer * n = line_ends (r + 1) outer n (omega arith) in
        ap (slice_get ys) (omega arith) ∙ slid.moved (r * n + c - at * n) (omega arith) ∙ ap (slice_get xs) (omega arith) ∙ ap (λ j. slice_get xs (j * n + c)) (sym s) ∙ sym (inside_in outer n (skipped at r) c (slice_get xs (skipped at r * n + c)) (omega arith) hc))
        (cases_lt r at)

-- n cells from `from` on, copied to the memory's first cells
pub copied_outer : {T : Type 0} (xs mem zs : List T) (outer n at : ℕ) → at < outer → outer * n ≤ length xs → n ≤ length mem
    → (let part = slice_range xs (at * n) (at * n + n) in Copied mem zs part 0 0 (length part)) → zs ≡ over (row at (rowwise outer n xs)) mem
copied_outer xs mem zs outer n at ha hx hm p =
    let from = at * n in
    let part = slice_range xs from (from + n) in
    let end = line_ends at outer n ha in
    let size : length part ≡ n = length-take-le (from + n - from) (drop from xs) (omega (arith, length-drop from xs)) ∙ (let z : from + n - from ≡ n = omega arith in z) in
    let there : (k : ℕ) → k < n → slice_get part k ≡ slice_get xs (from + k) = λ k h.
    nth_same part xs k (from + k) (omega (arith, size)) (omega arith) (λ d. get_or-take (from + n - from) (drop from xs) k d (omega arith) ∙ get_or-drop from xs k d) in
    over_is n (λ c. inside outer n at c (slice_get xs (from + c))) mem zs hm p.len
    (λ k h. let same : k ≡ 0 + k = omega arith in ap (slice_get zs) same ∙ p.moved k (omega (arith, size)) ∙ ap (slice_get part) (sym same) ∙ there k h ∙ sym (inside_in outer n at k (slice_get xs (from + k)) ha h))
    (λ k h. p.above k (omega (arith, size)))

-- the cells at one place of each of `outer` lines of n cells
pub gathered_inner : {T : Type 0} (xs mem line : List T) (outer n at : ℕ) → at < n → outer ≤ length mem → Gathered xs (take outer mem) line (λ k. k * n + at) outer → line ++ drop outer mem ≡ over (col at (rowwise outer n xs)) mem
gathered_inner xs mem line outer n at ha hm p = gathered_all xs mem line (λ k. k * n + at) outer (λ r. inside outer n r at (slice_get xs (r * n + at))) hm (λ k h. sym (inside_in outer n k at (slice_get xs (k * n + at)) h ha)) p
