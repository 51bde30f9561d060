-- A seating read along an axis.
use Rattle.std.proofs.Common.{◌≡◌, ℕ, ◌+◌, ◌*◌, cond, leb, List, length, get_or, sym, refl, ap, ◌∙◌}
use Rattle.std.specs.List.{slice_get}
use Rattle.matrix.specs.declared.axis.Axis.{Axis}
use Rattle.matrix.specs.declared.axis.Axis.TheVariants.{Row, Col}
use Rattle.matrix.specs.Axes.{other, along}
use Rattle.matrix.specs.Matrix.{Matrix}
use Rattle.matrix.proofs.Along.{along_twice}
use Rattle.matrix.proofs.Held.{placed, inside_turned}
use Rattle.matrix.proofs.Whole.{same_matrix}
use Rattle.seating.specs.declared.seating.Seating.{Seating}
use Rattle.seating.specs.Benches.{seat}
use Rattle.seating.specs.Seats.{counted, seen, seated, spot_of, bench_of}
use Rattle.seating.specs.Lines.{line_spots}

pub counted_same : (s t : Seating) (n k : ℕ) → t.down.side ≡ s.down.side → counted t n k ≡ counted s n k
counted_same s t n k e = ap (λ side. cond (leb (side * side) n) k 0) e

-- the rows and columns have as many seats
pub side_of : (ax : Axis) (s : Seating) → (bench_of ax s).side ≡ s.down.side
side_of Row s = refl
side_of Col s = s.square

pub same_side : (ax : Axis) (s t : Seating) → (bench_of ax t).side ≡ (bench_of ax s).side → t.down.side ≡ s.down.side
same_side ax s t e = sym (side_of ax t) ∙ e ∙ side_of ax s

turned_placed : {T : Type 0} (R C : ℕ) (at : ℕ → ℕ → ℕ) (xs : List T) → placed C R (λ i c. at c i) xs ≡ along Col (placed R C at xs)
turned_placed R C at xs = same_matrix (placed C R (λ i c. at c i) xs) (along Col (placed R C at xs)) refl refl (λ r c. inside_turned C R r c (slice_get xs (at c r)))

-- the lines along an axis as rows: where there are cells enough, and at any rate
pub lines_seen : {T : Type 0} (ax : Axis) (s : Seating) (xs : List T) → placed (bench_of ax s).count (bench_of (other ax) s).count (λ i. line_spots ax i s) xs ≡ along ax (seen s xs)
lines_seen Row s xs = refl
lines_seen Col s xs = turned_placed s.down.count s.across.count (spot_of s) xs

pub lines_seated : {T : Type 0} (ax : Axis) (s : Seating) (xs : List T) → placed (counted s (length xs) (bench_of ax s).count) (counted s (length xs) (bench_of (other ax) s).count) (λ i. line_spots ax i s) xs ≡ along ax (seated s xs)
lines_seated Row s xs = refl
lines_seated Col s xs = turned_placed (counted s (length xs) s.down.count) (counted s (length xs) s.across.count) (spot_of s) xs

-- what lines are, as a change of the lines along an axis
pub changed : {T : Type 0} (F : Matrix T → Matrix T) (ax : Axis) (m n l k : Matrix T) → l ≡ along ax m → k ≡ along ax n → k ≡ F l → n ≡ along ax (F (along ax m))
changed F ax m n l k el ek e = sym (along_twice ax n) ∙ ap (along ax) (sym ek ∙ e ∙ ap F el)

-- lines on one seat have their cells at one place
pub same_spot : (ax : Axis) (s t : Seating) (r k c : ℕ) → t.down.side ≡ s.down.side → (bench_of (other ax) t).table ≡ (bench_of (other ax) s).table → seat (bench_of ax t) r ≡ seat (bench_of ax s) k → line_spots ax r t c ≡ line_spots ax k s c
same_spot Row s t r k c side table e = ap (λ z. seat t.down r * z + seat t.across c) side ∙ ap (λ z. z * s.down.side + seat t.across c) e ∙ ap (λ z. seat s.down k * s.down.side + get_or z c 0) table
same_spot Col s t r k c side table e = ap (λ z. seat t.down c * z + seat t.across r) side ∙ ap (λ z. get_or z c 0 * s.down.side + seat t.across r) table ∙ ap (λ z. seat s.down c * s.down.side + z) e
