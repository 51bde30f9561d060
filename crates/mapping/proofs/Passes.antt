-- One pass over flat cells, each answered from the flat cell at its place.
use Rattle.std.proofs.Common.{◌≡◌, ℕ, ◌+◌, ◌*◌, ◌<◌, ◌≤◌, List, length, set, Some, option_map, sym, refl, ap, ◌∙◌, ⊎_elim, length-set, arith}
use Rattle.std.specs.List.{slice_get}
use Rattle.std.proofs.lemmas.Bool.{cases_lt}
use Rattle.matrix.specs.Matrix.{Matrix}
use Rattle.matrix.specs.Shapes.{Form, place, laid}
use Rattle.matrix.proofs.Cells.{nth_set_same, nth_set_other}
use Rattle.matrix.proofs.Held.{place_below}
use Rattle.matrix.proofs.Whole.{Whole, whole_inside, same_inside, inside_in}
use Rattle.mapping.specs.Maps.{mapped}

-- the first n cells of ys are f of those of xs, and ys is as long as it was
pub record Passed {A B : Type 0} (f : A → B) (xs : List A) (old ys : List B) (n : ℕ) : Type 0 where
  pub len : length ys ≡ length old
  pub done : (k : ℕ) → k < n → slice_get ys k ≡ option_map f (slice_get xs k)

-- one cell more
pub passed_more : {A B : Type 0} (f : A → B) (xs : List A) (old ys zs : List B) (n m : ℕ) (x : A) (y : B) → Passed f xs old ys n → n < length old → slice_get xs n ≡ Some x → y ≡ f x → zs ≡ set ys n y → m ≡ n + 1 → Passed f xs old zs m
passed_more {A} {B} f xs old ys zs n m x y p l e a is em = record {
  len = ap length is ∙ length-set ys n y ∙ p.len;
  done = λ k h. ap (λ ws. slice_get ws k) is ∙ ⊎_elim
      (λ (b : k < n). nth_set_other ys n k y (λ z. omega arith) ∙ p.done k b)
      (λ (b : n ≤ k). at k (omega arith))
      (cases_lt k n);
}
  where
    at : (k : ℕ) → k ≡ n → slice_get (set ys n y) k ≡ option_map f (slice_get xs k)
    at k same = ap (slice_get (set ys n y)) same ∙ nth_set_same ys n y (omega (arith, p.len)) ∙ ap Some a ∙ ap (option_map f) (sym e) ∙ ap (λ j. option_map f (slice_get xs j)) (sym same)

whole_mapped : {A B : Type 0} (f : A → B) {m : Matrix A} → Whole m → Whole (mapped f m)
whole_mapped f w = record { below = λ r c h. ap (option_map f) (w.below r c h); right = λ r c h. ap (option_map f) (w.right r c h) }

-- all cells of a form
pub passed_all : {A B : Type 0} (f : A → B) (g : Form) (xs : List A) (old ys : List B) (n : ℕ) → n ≡ g.rows * g.cols → Passed f xs old ys n → laid g ys ≡ mapped f (laid g xs)
passed_all f g xs old ys n e p =
    same_inside (laid g ys) (mapped f (laid g xs))
    (whole_inside g.rows g.cols (λ r c. slice_get ys (place g.order g.rows g.cols r c)))
    (whole_mapped f (whole_inside g.rows g.cols (λ r c. slice_get xs (place g.order g.rows g.cols r c))))
    refl refl
    (λ r c hr hc.
    let k = place g.order g.rows g.cols r c in
    inside_in g.rows g.cols r c (slice_get ys k) hr hc
    ∙ p.done k (omega (arith, place_below g.order g.rows g.cols r c hr hc))
    ∙ ap (option_map f) (sym (inside_in g.rows g.cols r c (slice_get xs k) hr hc)))
