use Rattle.std.proofs.Common.{◌*◌, ap, ◌∙◌}
use Rattle.matrix.proofs.Makes.{vec_count}
use Rattle.uses.proofs.trips.round_trip.Goals as goal

pub returns-clause-count : goal.returns-clause-count
returns-clause-count g c =
    let a = c.args in
    c.into_vec.ensures.count ∙ ap (λ m. m.rows * m.cols) c.from_vec_with_order.ensures.effect ∙ vec_count a.order a.n a.cols a.cells.now
