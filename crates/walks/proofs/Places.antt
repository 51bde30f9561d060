-- Where a walk along a line stands.
use Rattle.std.proofs.Common.{◌≡◌, ℕ, Option, sym, refl, ap, ◌∙◌}
use Rattle.matrix.specs.declared.axis.Axis.{Axis}
use Rattle.matrix.specs.declared.axis.Axis.TheVariants.{Row, Col}
use Rattle.matrix.specs.Matrix.{Matrix}
use Rattle.matrix.specs.Axes.{along, pair}

along_pair : {T : Type 0} (ax : Axis) (m : Matrix T) (i k : ℕ) → (along ax m).cell i k ≡ m.cell (pair ax i k).0 (pair ax i k).1
along_pair Row m i k = refl
along_pair Col m i k = refl

-- the cell o at the place p is cell k of line i
pub cell_along : {T : Type 0} (ax : Axis) (m : Matrix T) (i k : ℕ) (p : ℕ × ℕ) (o : Option T) → p ≡ pair ax i k → o ≡ m.cell p.0 p.1 → (along ax m).cell i k ≡ o
cell_along ax m i k p o e q = along_pair ax m i k ∙ ap (λ (z : ℕ × ℕ). m.cell z.0 z.1) (sym e) ∙ sym q
