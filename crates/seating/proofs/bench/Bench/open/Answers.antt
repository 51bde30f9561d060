use Rattle.std.proofs.Common.{ℕ, arith}
use Rattle.seating.proofs.Tables.{came, came_in, came_apart, came_at, reseated_below, reseated_once}
use Rattle.seating.proofs.bench.Bench.open.Goals as goal

pub invariant_of-self : goal.invariant_of-self
invariant_of-self c =
    let s = c.args.self.now in
    let i : ℕ = c.args.i in
    let u = c.shift_in.new.t in
    let moves = c.shift_in.ensures in
    let at = came_at i s.count s.side s.table u (omega arith) moves.moved moves.above in
    let inn = came_in i s.count s.side (omega arith) (omega arith) in
    record {
      small = (omega arith, omega arith);
      long = omega arith;
      below = reseated_below s.side s.table u (came i s.count) inn at s.below;
      once = reseated_once s.side s.table u (came i s.count) inn at (came_apart i s.count s.side (omega arith) (omega arith)) s.once;
    }
