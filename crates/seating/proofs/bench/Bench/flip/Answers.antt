use Rattle.std.proofs.Common.{ℕ, ◌<◌, sym, subst, arith}
use Rattle.seating.specs.Benches.{flipped}
use Rattle.seating.proofs.Tables.{Below, Once, mirror, mirror_in, mirror_apart, mirror_at, reseated_below, reseated_once}
use Rattle.seating.proofs.bench.Bench.flip.Goals as goal

pub invariant_of-self : goal.invariant_of-self
invariant_of-self c =
    let s = c.args.self.now in
    let u = flipped s.count s.table in
    let e = c.turn_front.ensures.effect in
    let at = λ (k : ℕ) (_ : k < s.side). mirror_at s.count s.table (omega arith) k in
    let inn = mirror_in s.count s.side s.small.1 in
    record {
      small = s.small;
      long = omega arith;
      below = subst (Below s.side) (sym e) (reseated_below s.side s.table u (mirror s.count) inn at s.below);
      once = subst (Once s.side) (sym e) (reseated_once s.side s.table u (mirror s.count) inn at (mirror_apart s.count s.side s.small.1) s.once);
    }
