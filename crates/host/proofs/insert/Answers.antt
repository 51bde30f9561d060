use Rattle.std.proofs.Common.{rules}
use Rattle.matrix.specs.Axes.{inserted}
use Rattle.host.proofs.Means.{means_coded}
use Rattle.host.proofs.insert.Goals as goal

pub returns-in-Ok-clause-effect : goal.returns-in-Ok-clause-effect
returns-in-Ok-clause-effect c =
    let a = c.args in
    let call = c.insert in
    means_coded (inserted a.axis a.i a.line.now) a.rows a.cols a.order _ call.result c.in-Ok.shape _ call.new.s (search rules) c.in-Ok.ensures.form (search rules) c.code.ensures.answer call.ensures.effect call.ensures.order
