-- Cells picked from places of a list into a memory's first cells.
use Rattle.std.proofs.Common.{◌≡◌, ℕ, ◌+◌, ◌<◌, ◌≤◌, List, ◌++◌, length, take, drop, set, Option, Some, sym, ap, ◌∙◌, ⊎_elim, length-set, length-take-le, arith}
use Rattle.std.specs.List.{slice_get}
use Rattle.std.proofs.lemmas.Bool.{cases_lt}
use Rattle.matrix.specs.Matrix.{listed, over}
use Rattle.matrix.proofs.Cells.{nth_set_same, nth_set_other}
use Rattle.matrix.proofs.Undo.{listed_nth, listed_within}

-- the cells at the first o places lie in zs, which was mem
pub record Gathered {T : Type 0} (xs mem zs : List T) (at : ℕ → ℕ) (o : ℕ) : Type 0 where
  pub len : length zs ≡ length mem
  pub taken : (k : ℕ) → k < o → slice_get zs k ≡ slice_get xs (at k)
  pub rest : (k : ℕ) → o ≤ k → slice_get zs k ≡ slice_get mem k

-- one cell more is picked
pub gathered_more : {T : Type 0} (xs mem zs : List T) (at : ℕ → ℕ) (o : ℕ) (x : T) → slice_get xs (at o) ≡ Some x → o < length zs → Gathered xs mem zs at o → Gathered xs mem (set zs o x) at (o + 1)
gathered_more xs mem zs at o x e l p = record {
  len = length-set zs o x ∙ p.len;
  taken = λ k h. ⊎_elim
      (λ (b : k < o). nth_set_other zs o k x (λ z. omega arith) ∙ p.taken k b)
      (λ (b : o ≤ k). last k (omega arith))
      (cases_lt k o);
  rest = λ k h. nth_set_other zs o k x (λ z. omega arith) ∙ p.rest k (omega arith);
}
  where
    last : (k : ℕ) → k ≡ o → slice_get (set zs o x) k ≡ slice_get xs (at k)
    last k same = ap (slice_get (set zs o x)) same ∙ nth_set_same zs o x l ∙ sym e ∙ ap (λ j. slice_get xs (at j)) (sym same)

-- all n cells of the memory's front have been picked
module _ {T : Type 0} (xs mem line : List T) (at : ℕ → ℕ) (n : ℕ) (f : ℕ → Option T) (hm : n ≤ length mem) (same : (k : ℕ) → k < n → slice_get xs (at k) ≡ f k) (p : Gathered xs (take n mem) line at n) where
  all : length line ≡ n
  all = p.len ∙ length-take-le n mem hm

  whole : line ≡ listed n f
  whole = sym (listed_nth line) ∙ ap (λ k. listed k (slice_get line)) all ∙ listed_within n (slice_get line) f (λ k h. p.taken k h ∙ same k h)

  pub gathered_all : line ++ drop n mem ≡ over (listed n f) mem
  gathered_all = ap (λ k. line ++ drop k mem) (sym all) ∙ ap (λ ys. over ys mem) whole
