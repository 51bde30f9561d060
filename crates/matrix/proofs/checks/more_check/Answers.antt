use Rattle.std.proofs.Common.{◌+◌, ◌*◌, ◌<◌, arith}
use Rattle.std.proofs.Math.Nat.{div-lt_iff_lt-mul}
use Rattle.std.proofs.lemmas.Bool.Decides.{nat_tests}
use Rattle.matrix.proofs.checks.more_check.Goals as goal

pub returns-then-limits-across : goal.returns-then-limits-across
returns-then-limits-across c =
    let a = c.args in
    let some : 0 < a.across = omega arith in
    let full : a.limits.most < (a.count + a.n) * a.across = (div-lt_iff_lt-mul {k = a.across} {x = a.limits.most} {y = a.count + a.n} some).0 c.if-limits-across.true in
    record { answer = grind (arith, nat_tests) }
