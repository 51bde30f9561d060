use Rattle.std.proofs.Common.{◌≡◌, ◌+◌, length}
use Rattle.listing.specs.Calls.{Turned, texts}
use Rattle.listing.proofs.call.read_turns.Given as goal

-- as many words have gone, and each was `turned`
abbrev pub invariant-loop-rest : goal.invariant-loop-rest
invariant-loop-rest l = (l.turns + length l.rest ≡ length l.words) × Turned l.turns (texts l.words) (texts l.rest)

abbrev pub decreases-loop-rest : goal.decreases-loop-rest
decreases-loop-rest l = length l.rest
