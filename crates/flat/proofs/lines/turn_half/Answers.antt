use Rattle.matrix.specs.Shapes.{form}
use Rattle.flat.proofs.Orders.{half_turned_laid}
use Rattle.flat.proofs.lines.turn_half.Goals as goal

pub returns : goal.returns
returns g c = record { effect = half_turned_laid (form c.args.shape) c.args.s.now _ c.reverse.ensures.effect }
