use Rattle.std.proofs.lemmas.Iterator.Splits.{YieldsList-from_lines}
use Rattle.std.proofs.lemmas.Iterator.Consumers.{map_from_collect}
use Rattle.scoresheet.proofs.lines.split.Goals as goal

pub returns : goal.returns
returns c = record { lines = map_from_collect _ c.collect.ensures.ran (YieldsList-from_lines c.args.text.now cc) }
