use Rattle.std.proofs.Common.{◌≡◌, ℕ, ◌<◌, get_or, rules, arith}
use Rattle.seating.proofs.Tables.{own_below, own_once}
use Rattle.seating.proofs.bench.Bench.empty.Goals as goal

pub invariant_of-result : goal.invariant_of-result
invariant_of-result c =
    let own : (k : ℕ) → k < 256 → get_or c.from_fn.result k 0 ≡ k = λ k h. let p = c.from_fn.ensures.items.at k 0 h in search rules in
    record {
      small = (search (rules, arith), omega arith);
      long = c.from_fn.ensures.items.long;
      below = own_below c.if-side-le-SIDE.result c.from_fn.result own (search (rules, arith));
      once = own_once c.if-side-le-SIDE.result c.from_fn.result own (search (rules, arith));
    }
