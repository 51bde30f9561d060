use Rattle.std.proofs.Common.{rules, tests}
use Rattle.std.proofs.lemmas.Iterator.{YieldsList-from_slice}
use Rattle.std.proofs.lemmas.Iterator.Search.{any_from_yields_List}
use Rattle.scoresheet.specs.Wrongs.{begins}
use Rattle.scoresheet.proofs.script.Plan.has_begun.Goals as goal

pub returns : goal.returns
returns g c = record { answer = any_from_yields_List begins _ _ c.any.result c.any.ensures.ran (YieldsList-from_slice c.args.self.now.calls.items cc) (λ x b q k. search (rules, tests)) }
