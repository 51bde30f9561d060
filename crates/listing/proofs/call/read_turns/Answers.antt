use Rattle.std.proofs.Common.{rules}
use Rattle.listing.proofs.Calls.{turned_step, texts_cons}
use Rattle.listing.proofs.call.read_turns.Goals as goal

-- one word more
pub loop-rest-preserved : goal.loop-rest-preserved
loop-rest-preserved c = (search rules, turned_step _ _ _ _ c.loop-rest.invariant.1 (texts_cons c.loop-rest.rest.now _ _ c.in-turned.len_at_least c.in-turned.is-turned))
