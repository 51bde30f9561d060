use Rattle.std.proofs.Common.{rules, tests, not, ap}
use Rattle.std.proofs.lemmas.Iterator.{YieldsList-from_slice}
use Rattle.std.proofs.lemmas.Iterator.Search.{any_from_yields_List}
use Rattle.scoresheet.specs.Unrolls.{waits}
use Rattle.scoresheet.proofs.script.Plan.is_unrolled.Goals as goal

pub returns : goal.returns
returns g c = record { answer = ap not (any_from_yields_List waits _ _ c.any.result c.any.ensures.ran (YieldsList-from_slice c.args.self.now.items.items cc) (λ x b q k. search (rules, tests))) }
