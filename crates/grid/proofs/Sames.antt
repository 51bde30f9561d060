-- Two grids with the same cell at each place.
use Rattle.std.proofs.Common.{◌≡◌, ℕ, ◌+◌, ◌<◌, ◌≤◌, ⊎_elim, subst, arith}
use Rattle.std.proofs.lemmas.Bool.{cases_lt}
use Rattle.matrix.specs.Matrix.{Matrix}
use Rattle.matrix.proofs.Whole.{same_inside, whole_shaped}
use Rattle.matrix.proofs.Held.{held_shaped}
use Rattle.grid.specs.declared.grid.Grid.{Grid}
use Rattle.grid.specs.Grids.{matrix}

-- one line more
pub all_more : (P : ℕ → Type 0) (n : ℕ) → ((k : ℕ) → k < n → P k) → P n → (k : ℕ) → k < n + 1 → P k
all_more P n h x k l = ⊎_elim
    (λ (b : k < n). h k b)
    (λ (b : n ≤ k). subst P (let e : n ≡ k = omega arith in e) x)
    (cases_lt k n)

-- the same cells in row r, as far as column c, and in all rows before r
abbrev pub SameRow : {T : Type 0} → Matrix T → Matrix T → ℕ → ℕ → Type 0
SameRow m n c r = (k : ℕ) → k < c → m.cell r k ≡ n.cell r k

abbrev pub SameRows : {T : Type 0} → Matrix T → Matrix T → ℕ → ℕ → Type 0
SameRows m n c r = (k : ℕ) → k < r → SameRow m n c k

pub same_grids : {T : Type 0} (g h : Grid T) → (matrix g).rows ≡ (matrix h).rows → (matrix g).cols ≡ (matrix h).cols → SameRows (matrix g) (matrix h) (matrix g).cols (matrix g).rows → matrix g ≡ matrix h
same_grids g h eR eC s = same_inside (matrix g) (matrix h) (whole_shaped (held_shaped g.shape g.cells.now)) (whole_shaped (held_shaped h.shape h.cells.now)) eR eC (λ r c hr hc. s r hr c hc)
