use Rattle.flat.proofs.Flips.{flipped_more, mirrored_more}
use Rattle.flat.proofs.lines.flip_lines.Goals as goal

pub loop-r-preserved : goal.loop-r-preserved
loop-r-preserved g c = flipped_more _ _ _ _ _ _ c.loop-r-test.true c.loop-r.invariant c.exchange.ensures.effect

pub loop-c-preserved : goal.loop-c-preserved
loop-c-preserved g c = mirrored_more _ _ _ _ _ c.loop-c.invariant c.reverse.ensures.effect
