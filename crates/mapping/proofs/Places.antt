-- Which flat cell a place of a grid is, along the lines that lie one after the other.
use Rattle.std.proofs.Common.{◌≡◌, ℕ, ◌+◌, ◌*◌, ◌<◌, ◌≤◌, List, length, None, get_or, sym, refl, ap, ◌∙◌, ⊎_elim, mul_comm, arith}
use Rattle.std.specs.List.{slice_get}
use Rattle.std.proofs.lemmas.Bool.{cases_lt}
use Rattle.std.proofs.lemmas.Option.{none-some, slice_get-get_or}
use Rattle.matrix.specs.declared.axis.Axis.{Axis}
use Rattle.matrix.specs.declared.shape.Order.{Order}
use Rattle.matrix.specs.declared.shape.Order.TheVariants.{RowMajor, ColumnMajor}
use Rattle.matrix.specs.Axes.{other, pair, along}
use Rattle.matrix.specs.Matrix.{Matrix}
use Rattle.matrix.specs.Shapes.{Form, laid, fitted}
use Rattle.matrix.proofs.Cells.{present}
use Rattle.matrix.proofs.Held.{fitted_in, fitted_out}
use Rattle.matrix.proofs.Products.{line_ends}
use Rattle.matrix.proofs.Whole.{inside_in}
use Rattle.mapping.specs.Maps.{outer}

pub fitted_order : (n : ℕ) (f : Form) → (fitted n f).order ≡ f.order
fitted_order n f = ⊎_elim
    (λ (h : n < f.rows * f.cols). ap (λ (g : Form). g.order) (fitted_out n f h))
    (λ (h : f.rows * f.cols ≤ n). ap (λ (g : Form). g.order) (fitted_in n f h))
    (cases_lt n (f.rows * f.cols))

-- how many lines lie one after the other, and of how many cells, in what order
abbrev outs : {T : Type 0} → Order → Matrix T → ℕ
outs o m = (along (outer o) m).rows

abbrev across : {T : Type 0} → Order → Matrix T → ℕ
across o m = (along (other (outer o)) m).rows

all_cells : {T : Type 0} (o : Order) (m : Matrix T) → outs o m * across o m ≡ m.rows * m.cols
all_cells RowMajor m = refl
all_cells ColumnMajor m = mul_comm m.cols m.rows

cell_laid : {T : Type 0} (o : Order) (R C : ℕ) (xs : List T) (k i : ℕ) → k < outs o (laid (record { rows = R; cols = C; order = o }) xs) → i < across o (laid (record { rows = R; cols = C; order = o }) xs)
    → (laid (record { rows = R; cols = C; order = o }) xs).cell (pair (outer o) k i).0 (pair (outer o) k i).1 ≡ slice_get xs (k * across o (laid (record { rows = R; cols = C; order = o }) xs) + i)
cell_laid RowMajor R C xs k i hk hi = inside_in R C k i (slice_get xs (k * C + i)) hk hi
cell_laid ColumnMajor R C xs k i hk hi = inside_in R C i k (slice_get xs (k * R + i)) hi hk

-- line k of `lines`, each of `n` cells, as they lie one after the other in a form
module _ {T : Type 0} (f : Form) (xs : List T) (ax bx : Axis) (lines n : ℕ) (eax : ax ≡ outer f.order) (ebx : bx ≡ other ax) (elines : lines ≡ (along ax (laid f xs)).rows) (en : n ≡ (along bx (laid f xs)).rows) where
  lines_are : lines ≡ outs f.order (laid f xs)
  lines_are = elines ∙ ap (λ z. (along z (laid f xs)).rows) eax

  n_is : n ≡ across f.order (laid f xs)
  n_is = en ∙ ap (λ z. (along z (laid f xs)).rows) (ebx ∙ ap other eax)

  pub all_lines : lines * n ≡ f.rows * f.cols
  all_lines = ap (λ z. z * n) lines_are ∙ ap (λ z. outs f.order (laid f xs) * z) n_is ∙ all_cells f.order (laid f xs)

  pub cell_there : (k i : ℕ) (p : ℕ × ℕ) → k < lines → i < n → p ≡ pair ax k i → (laid f xs).cell p.0 p.1 ≡ slice_get xs (k * n + i)
  cell_there k i p hk hi e =
      ap (λ (q : ℕ × ℕ). (laid f xs).cell q.0 q.1) (e ∙ ap (λ z. pair z k i) eax)
      ∙ cell_laid f.order f.rows f.cols xs k i (omega (arith, lines_are)) (omega (arith, n_is))
      ∙ ap (λ z. slice_get xs (k * z + i)) (sym n_is)

  pub place_there : (k i : ℕ) → k < lines → i < n → k * n + i < f.rows * f.cols
  place_there k i hk hi = omega (arith, all_lines, line_ends k lines n hk)

-- a cell of a list is there
pub missing : {T : Type 0} (xs : List T) (k : ℕ) → k < length xs → slice_get xs k ≡ None → ⊥
missing xs k h e = let d = present xs k h in none-some (get_or xs k d) (sym e ∙ slice_get-get_or xs k d h)
