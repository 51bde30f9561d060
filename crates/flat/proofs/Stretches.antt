-- Stretches of flat cells moved and parted.
use Rattle.std.proofs.Common.{◌≡◌, ℕ, ◌+◌, ◌-◌, ◌<◌, ◌≤◌, List, ◌++◌, length, take, drop, get_or, set, reverse, Option, Some, sym, refl, ap, subst, ◌∙◌, ⊎_elim, arith, rules}
use borrow.Rule.Slice.PartMut.{put_mid}
use Rattle.std.specs.List.{slice_get, slice_range}
use Rattle.std.proofs.lemmas.Bool.{cases_lt}
use Rattle.std.proofs.lemmas.List.{places, length-set, length-reverse, get_or-reverse}
use Rattle.std.proofs.lemmas.Option.{slice_get-get_or}
use Rattle.matrix.proofs.Cells.{nth_same, nth_kept, nth_set_same, nth_set_other, gapped_below, gapped_at, gapped_above}
use Rattle.flat.specs.Moves.{Copied, Filled, Parted}

-- n cells of xs, which lay in a waiting list in between
pub passed : {X : Type 0} (xs wait got back : List X) (from to n w : ℕ) → w ≡ n → from + n ≤ length xs → to + n ≤ length xs → n ≤ length wait → got ≡ slice_range xs from (from + n) → back ≡ take n (got ++ drop n wait) → Copied xs (put_mid to w xs back) xs from to n
passed {X} xs wait got back from to n w e hf ht hw eg eb = record {
  len = all;
  moved = λ k h. nth_same ys xs (to + k) (from + k) (omega (arith, all)) (omega arith) (λ d. search (rules, places, size));
  below = λ k h. nth_kept xs ys k all (λ d. search (rules, places, size));
  above = λ k h. nth_kept xs ys k all (λ d. search (rules, places, size));
}
  where
    ys : List X
    ys = put_mid to w xs back

    size : length back ≡ n
    size = search (rules, places)

    all : length ys ≡ length xs
    all = search (rules, places, size)

-- where no cell moves
pub unmoved : {X : Type 0} (xs : List X) (from to n : ℕ) → n ≤ 0 → Copied xs xs xs from to n
unmoved xs from to n none = record {
  len = refl;
  moved = λ k h. absurd (omega arith);
  below = λ k h. refl;
  above = λ k h. refl;
}

-- one cell more, written at j
pub copied_more : {X : Type 0} (xs ys src : List X) (from to n j : ℕ) (x : X) → j ≡ to + n → j < length xs → slice_get src (from + n) ≡ Some x → Copied xs ys src from to n → Copied xs (set ys j x) src from to (n + 1)
copied_more xs ys src from to n j x e h is p = record {
  len = length-set ys j x ∙ p.len;
  moved = λ k l. ⊎_elim
      (λ (b : k < n). nth_set_other ys j (to + k) x (omega arith) ∙ p.moved k b)
      (λ (b : n ≤ k). ap (slice_get (set ys j x)) (omega arith) ∙ nth_set_same ys j x (omega (arith, p.len)) ∙ sym is ∙ ap (slice_get src) (omega arith))
      (cases_lt k n);
  below = λ k l. nth_set_other ys j k x (omega arith) ∙ p.below k l;
  above = λ k l. nth_set_other ys j k x (omega arith) ∙ p.above k (omega arith);
}

-- of n cells turned round, the next one
pub turned_read : {X : Type 0} (xs : List X) (n k : ℕ) (d : X) → length xs ≡ n → k < n → slice_get (reverse xs) (0 + k) ≡ Some (get_or xs (n - 1 - k) d)
turned_read xs n k d e h =
    ap (slice_get (reverse xs)) (omega arith)
    ∙ slice_get-get_or (reverse xs) k d (omega (arith, length-reverse xs))
    ∙ ap Some (get_or-reverse xs k d (omega arith) ∙ ap (λ m. get_or xs (m - 1 - k) d) e)

-- of n cells that move, `done` have: the first of them, or in a move up the last
pub record Strode {X : Type 0} (xs ys : List X) (from to n done : ℕ) : Type 0 where
  pub left : done ≤ n
  pub down : to < from → Copied xs ys xs from to done
  pub up : from ≤ to → Copied xs ys xs (from + (n - done)) (to + (n - done)) done

pub strode_none : {X : Type 0} (xs : List X) (from to n : ℕ) → Strode xs xs from to n 0
strode_none xs from to n = record {
  left = omega arith;
  down = λ _. unmoved xs from to 0 (omega arith);
  up = λ _. unmoved xs (from + (n - 0)) (to + (n - 0)) 0 (omega arith);
}

-- the next cells, which stand at `at`, follow those that have moved down, or lie before those that have moved up
module _ {X : Type 0} (xs ys zs : List X) (from to n done more at : ℕ) (fits : done + more ≤ n) (first : to < from → at ≡ done) (last : from ≤ to → at ≡ n - done - more) (p : Strode xs ys from to n done) (q : Copied ys zs ys (from + at) (to + at) more) where
  abbrev left : ℕ
  left = n - (done + more)

  below_down : (h : to < from) (k : ℕ) → k < done + more → slice_get zs (to + k) ≡ slice_get xs (from + k)
  below_down h k b = ⊎_elim
      (λ (l : k < done). q.below (to + k) (omega (arith, first h)) ∙ (p.down h).moved k l)
      (λ (l : done ≤ k).
      ap (slice_get zs) (let i : to + k ≡ to + at + (k - done) = omega (arith, first h) in i)
      ∙ q.moved (k - done) (omega arith)
      ∙ ap (slice_get ys) (let i : from + at + (k - done) ≡ from + k = omega (arith, first h) in i)
      ∙ (p.down h).above (from + k) (omega arith))
      (cases_lt k done)

  above_up : (h : from ≤ to) (k : ℕ) → k < done + more → slice_get zs (to + left + k) ≡ slice_get xs (from + left + k)
  above_up h k b = ⊎_elim
      (λ (l : k < more).
      ap (slice_get zs) (let i : to + left + k ≡ to + at + k = omega (arith, last h) in i)
      ∙ q.moved k l
      ∙ ap (slice_get ys) (let i : from + at + k ≡ from + left + k = omega (arith, last h) in i)
      ∙ (p.up h).below (from + left + k) (omega arith))
      (λ (l : more ≤ k).
      q.above (to + left + k) (omega (arith, last h))
      ∙ ap (slice_get ys) (let i : to + left + k ≡ to + (n - done) + (k - more) = omega arith in i)
      ∙ (p.up h).moved (k - more) (omega arith)
      ∙ ap (slice_get xs) (let i : from + (n - done) + (k - more) ≡ from + left + k = omega arith in i))
      (cases_lt k more)

  pub strode_more : Strode xs zs from to n (done + more)
  strode_more = record {
    left = fits;
    down = λ h. record {
      len = q.len ∙ (p.down h).len;
      moved = below_down h;
      below = λ k b. q.below k (omega (arith, first h)) ∙ (p.down h).below k b;
      above = λ k b. q.above k (omega (arith, first h)) ∙ (p.down h).above k (omega arith);
    };
    up = λ h. record {
      len = q.len ∙ (p.up h).len;
      moved = above_up h;
      below = λ k b. q.below k (omega (arith, last h)) ∙ (p.up h).below k (omega arith);
      above = λ k b. q.above k (omega (arith, last h)) ∙ (p.up h).above k (omega arith);
    };
  }

pub strode_all : {X : Type 0} (xs ys : List X) (from to n done : ℕ) → n ≤ done → Strode xs ys from to n done → Copied xs ys xs from to n
strode_all xs ys from to n done all p = ⊎_elim
    (λ (h : to < from). subst (λ (k : ℕ). Copied xs ys xs from to k) end (p.down h))
    (λ (h : from ≤ to). record {
      len = (p.up h).len;
      moved = λ k b. ap (slice_get ys) (omega arith) ∙ (p.up h).moved k (omega arith) ∙ ap (slice_get xs) (omega arith);
      below = λ k b. (p.up h).below k (omega arith);
      above = λ k b. (p.up h).above k (omega (arith, p.left));
    })
    (cases_lt to from)
  where
    end : done ≡ n
    end = omega (arith, p.left)

pub parts : {X : Type 0} (xs ys zs ws : List X) (from to n at g : ℕ) (x : X) → from ≤ to → at ≤ n → to + n + g ≤ length xs → Copied xs ys xs (from + at) (to + at + g) (n - at) → Copied ys zs ys from to at → Filled zs ws (to + at) g x → Parted xs ws from to n at g x
parts {X} xs ys zs ws from to n at g x up ha fits tail front new = record {
  len = new.len ∙ front.len ∙ tail.len;
  moved = λ k h. ⊎_elim
      (λ (l : k < at). new.below (to + k) (omega arith) ∙ front.moved k l ∙ tail.below (from + k) (omega arith) ∙ sym (gapped_below at g (Some x) old k l))
      (λ (l : at ≤ k). ⊎_elim
      (λ (u : k < at + g). ap (slice_get ws) (omega arith) ∙ new.filled (k - at) (omega arith) ∙ sym (gapped_at at g (Some x) old k l u))
      (λ (u : at + g ≤ k). new.above (to + k) (omega arith) ∙ front.above (to + k) (omega arith) ∙ ap (slice_get ys) (omega arith) ∙ tail.moved (k - g - at) (omega arith) ∙ ap (slice_get xs) (omega arith) ∙ sym (gapped_above at g (Some x) old k u))
      (cases_lt k (at + g)))
      (cases_lt k at);
  below = λ k h. new.below k (omega arith) ∙ front.below k h ∙ tail.below k (omega arith);
  above = λ k h. new.above k (omega arith) ∙ front.above k (omega arith) ∙ tail.above k (omega arith);
}
  where
    old : ℕ → Option X
    old b = slice_get xs (from + b)
