use Rattle.std.proofs.Common.{rules}
use Rattle.matrix.specs.Axes.{removed}
use Rattle.host.proofs.Means.{means_coded}
use Rattle.host.proofs.remove.Goals as goal

pub returns-in-Ok-clause-effect : goal.returns-in-Ok-clause-effect
returns-in-Ok-clause-effect c =
    let a = c.args in
    let call = c.remove in
    means_coded (removed a.axis a.i) a.rows a.cols a.order _ call.result c.in-Ok.shape _ call.new.s (search rules) c.in-Ok.ensures.form (search rules) c.code.ensures.answer call.ensures.effect call.ensures.order
