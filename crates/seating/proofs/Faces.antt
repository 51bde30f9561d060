-- Cells on seats along an axis.
use Rattle.std.proofs.Common.{◌≡◌, ℕ, ◌-◌, ◌*◌, ◌<◌, ◌≤◌, List, length, get_or, set, Some, sym, ap, ◌∙◌, ⊎_elim, arith}
use Rattle.std.specs.List.{slice_get}
use Rattle.std.proofs.lemmas.Bool.{cases_lt}
use Rattle.matrix.specs.declared.axis.Axis.{Axis}
use Rattle.matrix.specs.declared.axis.Axis.TheVariants.{Row, Col}
use Rattle.matrix.specs.Axes.{other, along}
use Rattle.matrix.specs.Matrix.{Matrix, turned, put_cell, flip_rows}
use Rattle.matrix.proofs.Held.{turns, placed}
use Rattle.matrix.proofs.Whole.{Whole, same_inside, inside_in, whole_flip_rows, flip_in, whole_inside, inside_some}
use Rattle.seating.specs.declared.bench.Bench.{Bench}
use Rattle.seating.specs.declared.seating.Seating.{Seating}
use Rattle.seating.specs.Benches.{flipped}
use Rattle.seating.specs.Seats.{spot_of, spots, counted, seated, bench_of}
use Rattle.seating.specs.Lines.{line_spots}
use Rattle.seating.proofs.Tables.{flipped_low}
use Rattle.seating.proofs.Fits.{put_seated, counted_in, counted_out}
use Rattle.seating.proofs.Along.{counted_same, same_side, same_spot, lines_seated, changed}
use Rattle.seating.proofs.Owes.{spot_in}

put_up : {T : Type 0} (s : Seating) (xs ys : List T) (r c k : ℕ) (x : T) → (spots s (length xs)).cell r c ≡ Some k → ys ≡ set xs k x → seated s ys ≡ put_cell r c x (seated s xs)
put_up s xs ys r c k x e w = put_seated s xs ys r c k x p.0 p.1 p.2 (let l = spot_in s (length xs) r c p.0 p.1 in omega (arith, p.2)) w
  where
    p : (r < counted s (length xs) s.down.count) × (c < counted s (length xs) s.across.count) × (k ≡ spot_of s r c)
    p = inside_some (counted s (length xs) s.down.count) (counted s (length xs) s.across.count) r c (spot_of s r c) k e

pub put_faced : {T : Type 0} (ax : Axis) (s : Seating) (xs ys : List T) (r c k : ℕ) (x : T) → (along ax (spots s (length xs))).cell r c ≡ Some k → ys ≡ set xs k x → along ax (seated s ys) ≡ put_cell r c x (along ax (seated s xs))
put_faced Row s xs ys r c k x e w = put_up s xs ys r c k x e w
put_faced {T} Col s xs ys r c k x e w = ap turned (put_up s xs ys c r k x e w) ∙ (turns T).put c r x (seated s xs)

-- a table turned round turns its lines round
module _ {T : Type 0} (ax : Axis) (s t : Seating) (xs : List T) (table : (bench_of ax t).table ≡ flipped (bench_of ax s).count (bench_of ax s).table) (count : (bench_of ax t).count ≡ (bench_of ax s).count) (side : (bench_of ax t).side ≡ (bench_of ax s).side) (across : bench_of (other ax) t ≡ bench_of (other ax) s) where
  abbrev R : ℕ
  R = counted s (length xs) (bench_of ax s).count

  abbrev C : ℕ
  C = counted s (length xs) (bench_of (other ax) s).count

  abbrev lines : Seating → Matrix T
  lines u = placed (counted u (length xs) (bench_of ax u).count) (counted u (length xs) (bench_of (other ax) u).count) (λ i. line_spots ax i u) xs

  whole : (u : Seating) → Whole (lines u)
  whole u = whole_inside _ _ (λ r c. slice_get xs (line_spots ax r u c))

  rows : counted t (length xs) (bench_of ax t).count ≡ R
  rows = counted_same s t (length xs) (bench_of ax t).count (same_side ax s t side) ∙ ap (counted s (length xs)) count

  cols : counted t (length xs) (bench_of (other ax) t).count ≡ C
  cols = counted_same s t (length xs) (bench_of (other ax) t).count (same_side ax s t side) ∙ ap (λ (b : Bench). counted s (length xs) b.count) across

  within : (r : ℕ) → r < R → (r < (bench_of ax s).count) × (R ≡ (bench_of ax s).count)
  within r h = ⊎_elim
      (λ (l : length xs < s.down.side * s.down.side). absurd (omega (arith, counted_out s (length xs) (bench_of ax s).count l)))
      (λ (l : s.down.side * s.down.side ≤ length xs). let e = counted_in s (length xs) (bench_of ax s).count l in (omega arith, e))
      (cases_lt (length xs) (s.down.side * s.down.side))

  same : (r c : ℕ) → r < R → line_spots ax r t c ≡ line_spots ax (R - 1 - r) s c
  same r c h =
      let p = within r h in
      let small = (bench_of ax s).small in
      let long = (bench_of ax s).long in
      same_spot ax s t r (R - 1 - r) c (same_side ax s t side) (ap (λ (b : Bench). b.table) across)
      (ap (λ z. get_or z r 0) table ∙ flipped_low (bench_of ax s).count (bench_of ax s).table (omega (arith, small.0, small.1)) r p.0 ∙ ap (λ n. get_or (bench_of ax s).table (n - 1 - r) 0) (sym p.1))

  flipped_lines : lines t ≡ flip_rows (lines s)
  flipped_lines =
      same_inside (lines t) (flip_rows (lines s)) (whole t) (whole_flip_rows (lines s) (whole s)) rows cols
      (λ r c hr hc.
      let hr' : r < R = omega (arith, rows) in
      let hc' : c < C = omega (arith, cols) in
      inside_in _ _ r c (slice_get xs (line_spots ax r t c)) hr hc
      ∙ ap (slice_get xs) (same r c hr')
      ∙ sym (flip_in (lines s) r c hr' ∙ inside_in R C (R - 1 - r) c (slice_get xs (line_spots ax (R - 1 - r) s c)) (omega arith) hc'))

  pub flipped_along : seated t xs ≡ along ax (flip_rows (along ax (seated s xs)))
  flipped_along = changed flip_rows ax (seated s xs) (seated t xs) (lines s) (lines t) (lines_seated ax s xs) (lines_seated ax t xs) flipped_lines
