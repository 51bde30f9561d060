-- The cells of a line along an axis, copied off their seats.
use Rattle.std.proofs.Common.{◌≡◌, ℕ, ◌<◌, ◌≤◌, List, ◌++◌, length, take, drop, sym, ap, ◌∙◌, arith}
use Rattle.matrix.specs.declared.axis.Axis.{Axis}
use Rattle.matrix.specs.Axes.{other, along, line_of}
use Rattle.matrix.specs.Matrix.{Matrix, over, listed}
use Rattle.matrix.proofs.Gather.{Gathered, gathered_all}
use Rattle.seating.specs.declared.seating.Seating.{Seating}
use Rattle.seating.specs.Seats.{seen, bench_of}
use Rattle.seating.specs.Lines.{line_spots}
use Rattle.seating.proofs.Seatings.{seen_along, seen_across}

pub copied_line : {T : Type 0} (ax : Axis) (s : Seating) (i n : ℕ) (xs mem line : List T) → n ≡ (bench_of (other ax) s).count → i < (bench_of ax s).count → n ≤ length mem → Gathered xs (take n mem) line (line_spots ax i s) n → line ++ drop n mem ≡ over (line_of ax i (seen s xs)) mem
copied_line {T} ax s i n xs mem line e hi long p =
    gathered_all xs mem line (line_spots ax i s) n (m.cell i) long (λ k h. sym (seen_along ax s xs i k hi (omega (arith, e)))) p
    ∙ ap (λ k. over (listed k (m.cell i)) mem) (e ∙ sym (seen_across ax s xs))
  where
    m : Matrix T
    m = along ax (seen s xs)
