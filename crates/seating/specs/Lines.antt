-- What a line written onto its seats leaves.
use Rattle.std.specs.Prelude.{◌≡◌, ℕ, ◌<◌, List, length, Ok, Err, Result, ◌≢◌}
use Rattle.std.specs.List.{slice_get}
use Rattle.matrix.specs.declared.axis.Axis.{Axis}
use Rattle.matrix.specs.declared.axis.Axis.TheVariants.{Row, Col}
use Rattle.seating.specs.declared.seating.Seating.{Seating}
use Rattle.seating.specs.Seats.{spot_of}

-- the flat places of the cells of line i along an axis
abbrev pub line_spots : Axis → ℕ → Seating → ℕ → ℕ
line_spots Row i s = λ c. spot_of s i c
line_spots Col i s = λ c. spot_of s c i

-- the first n cells of the line lie at these flat places, and no other cell has changed: ys is what xs has become
pub record Written {T : Type 0} (at : ℕ → ℕ) (line : List T) (n : ℕ) (xs ys : List T) : Type 0 where
  pub len : length ys ≡ length xs
  pub put : (c : ℕ) → c < n → slice_get ys (at c) ≡ slice_get line c
  pub rest : (p : ℕ) → ((c : ℕ) → c < n → p ≢ at c) → slice_get ys p ≡ slice_get xs p

-- accepted, the line lies on its seats and no other cell has changed; refused, none has
abbrev pub Placed : {A E T : Type 0} → (A → ℕ → ℕ) → Result A E → List T → List T → List T → Type 0
Placed at (Ok a) line xs ys = Written (at a) line (length line) xs ys
Placed at (Err e) line xs ys = ys ≡ xs
